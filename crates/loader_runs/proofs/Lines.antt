-- Laws of lines.
--   length_feed, length_byte, length_end — how long the line is at a line feed, at another byte, and at the end
--   length_most — no longer than what is left
--   lines_next  — the first line and the others, past its line feed;  lines_none — no lines at the end
--   lines_at, lines_end — the same from a place of a file on
use mathlib.Core.Path.{◌≡◌, refl, ap, ◌∙◌}
use mathlib.Core.Bool.{Bool, true, false, cond}
use mathlib.Core.List.{List, [], ◌∷◌}
use Prim.Native.Nat.{ℕ, suc, ◌+◌, ◌-◌, ◌≤◌, ◌<◌}
use native.Mathlib.Numerals.{add-one}
use native.Mathlib.Omega.{arith}
use borrow.Author.Tests.{eq-eqb, ne_eqb}
use lib.Dec.{eqb}
use lib.ListN.{length, take, drop, get_or, drop_of_length-le}
use lib.Seq.{drop-cons, drop-drop}
use Rattle.loader_runs.specs.Length.{line_length}
use Rattle.loader_runs.specs.Lines.{before, lines_of}

-- ---- how long a line is
pub length_feed : (s : List ℕ) {i : ℕ} → i < length s → get_or s i 0 ≡ 10 → line_length (drop i s) ≡ 0
unfolding line_length
length_feed s {i} h e = rw (drop-cons s i 0, eq-eqb (get_or s i 0) 10 e)

pub length_byte : (s : List ℕ) {i : ℕ} → i < length s → (get_or s i 0 ≡ 10 → ⊥) → line_length (drop i s) ≡ suc (line_length (drop (i + 1) s))
unfolding line_length
length_byte s {i} h n = rw (drop-cons s i 0, ne_eqb (get_or s i 0) 10 n, add-one)

pub length_end : (s : List ℕ) {i : ℕ} → length s ≤ i → line_length (drop i s) ≡ 0
unfolding line_length
length_end s h = rw (drop_of_length-le s h)

pub length_most : (s : List ℕ) → line_length s ≤ length s
unfolding line_length
length_most [] = omega arith
length_most (b ∷ bs) = go (eqb b 10) (length_most bs)
  where
    go : (t : Bool) → line_length bs ≤ length bs → cond t 0 (suc (line_length bs)) ≤ suc (length bs)
    go true h = omega arith
    go false h = omega arith

-- ---- one line after another
lines_none : lines_of [] ≡ []
unfolding lines_of
lines_none = refl

pub lines_next : (b : ℕ) (bs : List ℕ) → lines_of (b ∷ bs) ≡ take (line_length (b ∷ bs)) (b ∷ bs) ∷ lines_of (drop (suc (line_length (b ∷ bs))) (b ∷ bs))
unfolding lines_of line_length
lines_next b [] = go (eqb b 10)
  where
    go : (t : Bool) → cond t ([] ∷ []) ((b ∷ []) ∷ []) ≡ take (cond t 0 1) (b ∷ []) ∷ lines_of (drop (suc (cond t 0 1)) (b ∷ []))
    go true = refl
    go false = refl
lines_next b (c ∷ cs) = go (eqb b 10) (lines_next c cs)
  where
    go : (t : Bool) → lines_of (c ∷ cs) ≡ take (line_length (c ∷ cs)) (c ∷ cs) ∷ lines_of (drop (suc (line_length (c ∷ cs))) (c ∷ cs)) →
        cond t ([] ∷ lines_of (c ∷ cs)) (before b (lines_of (c ∷ cs)))
        ≡ take (cond t 0 (suc (line_length (c ∷ cs)))) (b ∷ c ∷ cs) ∷ lines_of (drop (suc (cond t 0 (suc (line_length (c ∷ cs))))) (b ∷ c ∷ cs))
    go true ih = refl
    go false ih = ap (before b) ih

-- ---- from a place on
pub lines_at : (s : List ℕ) {at end : ℕ} → at < length s → end ≡ at + line_length (drop at s) →
    lines_of (drop at s) ≡ take (end - at) (drop at s) ∷ lines_of (drop (end + 1) s)
lines_at s {at} {end} h e =
    let m : end - at ≡ line_length (drop at s) = omega arith in
    let p : at + suc (line_length (drop at s)) ≡ end + 1 = omega arith in
    let d : drop (suc (line_length (drop at s))) (drop at s) ≡ drop (end + 1) s = drop-drop (suc (line_length (drop at s))) at s ∙ ap (λ (k : ℕ). drop k s) p in
    go (drop at s) (drop-cons s at 0 h) ∙ rw (m, d)
  where
    go : (t : List ℕ) {b : ℕ} {bs : List ℕ} → t ≡ b ∷ bs → lines_of t ≡ take (line_length t) t ∷ lines_of (drop (suc (line_length t)) t)
    go t {b} {bs} e = rw e (lines_next b bs)

pub lines_end : (s : List ℕ) {at : ℕ} → length s ≤ at → lines_of (drop at s) ≡ []
lines_end s h = rw (drop_of_length-le s h) lines_none
