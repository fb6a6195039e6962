-- Laws of lists that numbers were written into.
--   written_none, written_next, written_more, written_end, written_length — at none, one more, at the end, and the length, for loops
--   written_at, written_else — the places p + i·s hold f i, every other place is as before;  written_ext — of equal functions
--   front_at, front_else — the same of the first n places;  same_written — equal numbers written to two lists
use mathlib.Core.Path.{◌≡◌, refl, sym, ap, ◌∙◌}
use mathlib.Core.List.{List}
use Prim.Native.Nat.{ℕ, zero, suc, ◌+◌, ◌*◌, ◌≤◌, ◌<◌}
use native.Mathlib.Omega.{arith}
use native.Mathlib.Decide.{ℕ_discrete}
use native.Mathlib.Nat.{le_antisymm, mul-le-mul_right}
use native.Mathlib.Numerals.{add-one}
use lib.ListN.{length, get_or, set, length-set}
use lib.Seq.{get_or-set_same, get_or-set_other}
use Rattle.linear.specs.Written.{written}

module _ {A : Type 0} (xs : List A) (p s : ℕ) (f : ℕ → A) where
  pub written_none : written xs p s f 0 ≡ xs
  unfolding written
  written_none = refl

  written_next : (n : ℕ) → written xs p s f (n + 1) ≡ set (written xs p s f n) (p + n * s) (f n)
  unfolding written
  written_next n = rw add-one

  pub written_more : {now : List A} {k : ℕ} {v : A} (n : ℕ) → now ≡ written xs p s f n → k ≡ p + n * s → v ≡ f n → set now k v ≡ written xs p s f (n + 1)
  written_more n a b c = rw (a, b, c) (sym (written_next n))

  pub written_end : {i n : ℕ} → i ≤ n → n ≤ i → written xs p s f i ≡ written xs p s f n
  written_end h k = ap (written xs p s f) (le_antisymm h k)

  pub written_length : (n : ℕ) → length (written xs p s f n) ≡ length xs
  unfolding written
  written_length zero = refl
  written_length (suc n) = length-set (written xs p s f n) (p + n * s) (f n) ∙ written_length n

  pub written_else : (d : A) (n k : ℕ) → ((i : ℕ) → i < n → k ≡ p + i * s → ⊥) → get_or (written xs p s f n) k d ≡ get_or xs k d
  unfolding written
  written_else d zero k h = refl
  written_else d (suc n) k h =
      get_or-set_other (written xs p s f n) (p + n * s) k (f n) d (h n (omega arith)) ∙ written_else d n k (λ i l. h i (omega arith))

  pub written_at : (d : A) (n i : ℕ) {k : ℕ} → k ≡ p + i * s → 0 < s → i < n → ((j : ℕ) → j < n → p + j * s < length xs) → get_or (written xs p s f n) k d ≡ f i
  unfolding written
  written_at d zero i e z l h = absurd (omega arith)
  written_at d (suc n) i {k} e z l h = go (ℕ_discrete i n) (λ l. written_at d n i e z l (λ j m. h j (omega arith)))
    where
      go : Dec (i ≡ n) → (i < n → get_or (written xs p s f n) k d ≡ f i) → get_or (set (written xs p s f n) (p + n * s) (f n)) k d ≡ f i
      go (yes q) ih = rw (e, q) (get_or-set_same (written xs p s f n) (p + n * s) (f n) d (omega (arith, written_length n, h n (omega arith))))
      go (no q) ih =
          let l : i < n = omega arith in
          get_or-set_other (written xs p s f n) (p + n * s) k (f n) d (omega (arith, mul-le-mul_right s l)) ∙ ih l

pub written_ext : {A : Type 0} (xs : List A) (p s : ℕ) (f g : ℕ → A) (n : ℕ) → ((i : ℕ) → i < n → f i ≡ g i) → written xs p s f n ≡ written xs p s g n
unfolding written
written_ext xs p s f g zero h = refl
written_ext xs p s f g (suc n) h = rw (h n (omega arith), written_ext xs p s f g n (λ i l. h i (omega arith)))

-- ---- the first n places
module _ {A : Type 0} (xs : List A) (f : ℕ → A) (d : A) (n : ℕ) where
  pub front_at : (i : ℕ) → i < n → n ≤ length xs → get_or (written xs 0 1 f n) i d ≡ f i
  front_at i l h = written_at xs 0 1 f d n i (omega arith) (omega arith) l (λ j m. omega arith)

  pub front_else : (i : ℕ) → n ≤ i → get_or (written xs 0 1 f n) i d ≡ get_or xs i d
  front_else i h = written_else xs 0 1 f d n i (λ j l e. omega arith)

pub same_written : {A : Type 0} (d : A) (n : ℕ) (xs ys : List A) (f g : ℕ → A) → n ≤ length xs → n ≤ length ys → ((i : ℕ) → i < n → f i ≡ g i) → {zs zs' : List A} →
    zs ≡ written xs 0 1 f n → zs' ≡ written ys 0 1 g n → (i : ℕ) → i < n → get_or zs i d ≡ get_or zs' i d
same_written d n xs ys f g h k e p q i l = rw (p, q) (front_at xs f d n i l h ∙ e i l ∙ sym (front_at ys g d n i l k))
