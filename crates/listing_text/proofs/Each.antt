-- Laws of texts one after another.
--   each_none, each_next, each_ext — none, one more, and that only the first n count
--   wrote_none, wrote_more, wrote_end — the same as they are written, for loops
--   gap_first, gap_later — the space before a number: none before the first
--   next_room — where n texts of at most m bytes have room, there is room for the next
use mathlib.Core.Path.{◌≡◌, refl, sym}
use mathlib.Core.List.{List, [], ◌++◌}
use Prim.Native.Nat.{ℕ, zero, suc, ◌+◌, ◌*◌, ◌≤◌, ◌<◌}
use native.Mathlib.Nat.{mul-le-mul_right, le_antisymm}
use native.Mathlib.Numerals.{add-one}
use native.Mathlib.Omega.{arith}
use Rattle.line_form.specs.Form.{bytes}
use Rattle.listing_text.specs.Wrote.{Wrote}
use Rattle.listing_text.proofs.Wrote.{wrote_nothing, then, wider, called}
use Rattle.listing_text.specs.Line.{each, gap}

each_none : (f : ℕ → List ℕ) → each 0 f ≡ []
unfolding each
each_none f = refl

each_next : (n : ℕ) (f : ℕ → List ℕ) → each (n + 1) f ≡ each n f ++ f n
unfolding each
each_next n f = rw add-one

pub each_ext : (n : ℕ) (f g : ℕ → List ℕ) → ((i : ℕ) → i < n → f i ≡ g i) → each n f ≡ each n g
unfolding each
each_ext zero f g h = refl
each_ext (suc n) f g h = rw (h n (omega arith), each_ext n f g (λ i l. h i (omega arith)))

pub wrote_none : (m : ℕ) (f : ℕ → List ℕ) (l : List ℕ) (at : ℕ) → Wrote (0 * m) l at (each 0 f) l at
wrote_none m f l at = wider (0 * m) (omega arith) (called (sym (each_none f)) (wrote_nothing l at))

pub wrote_more : (m i : ℕ) (f : ℕ → List ℕ) {o n p t : List ℕ} {at j k : ℕ} → Wrote (i * m) o at (each i f) n j → t ≡ f i → Wrote m n j t p k → Wrote ((i + 1) * m) o at (each (i + 1) f) p k
wrote_more m i f x e y = wider ((i + 1) * m) (omega arith) (called (sym (each_next i f)) (then x (called e y)))

pub wrote_end : (m : ℕ) {i n : ℕ} (f : ℕ → List ℕ) {o p : List ℕ} {at j : ℕ} → i ≤ n → n ≤ i → Wrote (i * m) o at (each i f) p j → Wrote (n * m) o at (each n f) p j
wrote_end m f {o} {p} {at} {j} a b x = rw (le_antisymm a b) at x

pub next_room : (m n at : ℕ) {i index size : ℕ} → i < n → index ≤ at + i * m → at + n * m ≤ size → index + m ≤ size
next_room m n at l h r = omega (arith, mul-le-mul_right m l)

-- ---- the space before every number but the first
pub gap_first : {j : ℕ} (l : List ℕ) (at : ℕ) → j ≡ 0 → Wrote 1 l at (gap j) l at
gap_first l at e = rw e (wider 1 (omega arith) (wrote_nothing l at))

pub gap_later : {j : ℕ} {o p : List ℕ} {at k : ℕ} → (j ≡ 0 → ⊥) → Wrote 1 o at (bytes " ") p k → Wrote 1 o at (gap j) p k
gap_later {j = zero} n x = absurd (n refl)
gap_later {j = suc j} n x = x
