-- Laws of rows that are written.
--   rows_none, rows_next, rows_end, rows_length — of rows, for the loop over them;  rows_ext — of equal matrices
--   start_below — a row ends where the next one starts, or before
--   row_start, row_room, row_length, row_written — a row more: where the next one starts, its room, the length, what is written
use mathlib.Core.Path.{◌≡◌, refl, sym, ap, ◌∙◌}
use mathlib.Core.List.{List}
use Prim.Native.Nat.{ℕ, zero, suc, ◌+◌, ◌≤◌, ◌<◌}
use native.Mathlib.Nat.{le_antisymm}
use native.Mathlib.Numerals.{add-one}
use native.Mathlib.Omega.{arith}
use lib.IntN.{ℤ}
use lib.ListN.{length}
use Rattle.integer.specs.Finite.{sumℕ}
use Rattle.integer.proofs.Search.{upto}
use Rattle.integer.proofs.Sum.{sumℕ_next}
use Rattle.linear.specs.Matrix.{Vec, Mat}
use Rattle.linear.specs.Written.{written}
use Rattle.linear.proofs.Written.{written_length, written_ext}
use Rattle.build_equations.specs.declared.Layout.{Layout}
use Rattle.build_equations.specs.Written.{width_of, rows_written}

module _ (width : ℕ → ℕ) (A : Mat) (l : List ℤ) where
  pub rows_none : rows_written width 0 A l ≡ l
  unfolding rows_written
  rows_none = refl

  pub rows_next : (k : ℕ) → rows_written width (k + 1) A l ≡ written (rows_written width k A l) (sumℕ k width) 1 (A k) (width k)
  unfolding rows_written
  rows_next k = ap (λ (m : ℕ). rows_written width m A l) (add-one k)

  pub rows_end : {i n : ℕ} → i ≤ n → n ≤ i → rows_written width i A l ≡ rows_written width n A l
  rows_end p q = ap (λ (m : ℕ). rows_written width m A l) (le_antisymm p q)

  pub rows_length : (k : ℕ) → length (rows_written width k A l) ≡ length l
  unfolding rows_written
  rows_length zero = refl
  rows_length (suc k) = written_length (rows_written width k A l) (sumℕ k width) 1 (A k) (width k) ∙ rows_length k

pub rows_ext : (width : ℕ → ℕ) (k : ℕ) (A B : Mat) (l : List ℤ) → ((i j : ℕ) → A i j ≡ B i j) → rows_written width k A l ≡ rows_written width k B l
unfolding rows_written
rows_ext width zero A B l h = refl
rows_ext width (suc k) A B l h =
    ap (λ (m : List ℤ). written m (sumℕ k width) 1 (A k) (width k)) (rows_ext width k A B l h) ∙ written_ext (rows_written width k B l) (sumℕ k width) 1 (A k) (B k) (width k) (λ j b. h k j)

pub start_below : (width : ℕ → ℕ) (k i : ℕ) → i < k → sumℕ i width + width i ≤ sumℕ k width
unfolding sumℕ
start_below width zero i h = absurd (omega arith)
start_below width (suc k) i h =
    upto (λ (j : ℕ). sumℕ j width + width j ≤ sumℕ k width + width k) k i h (λ j b. omega (arith, start_below width k j b)) (omega arith)

-- a row more, for the loop over the rows
module _ (layout : Layout) (n i : ℕ) {start w : ℕ} (s : start ≡ sumℕ i (width_of layout n)) (e : w ≡ width_of layout n i) where
  pub row_start : start + w ≡ sumℕ (i + 1) (width_of layout n)
  row_start = rw (s, e) (sym (sumℕ_next i (width_of layout n)))

  pub row_room : i < n → {k : ℕ} → sumℕ n (width_of layout n) ≤ k → start + w ≤ k
  row_room h long = omega (arith, s, e, start_below (width_of layout n) n i h, long)

  module _ (f : Vec) (A : Mat) (l m : List ℤ) {m' : List ℤ} (q : m' ≡ written m start 1 f w) where
    pub row_length : length m ≡ length l → length m' ≡ length l
    row_length p = ap length q ∙ written_length m start 1 f w ∙ p

    pub row_written : ((j : ℕ) → j < w → f j ≡ A i j) → m ≡ rows_written (width_of layout n) i A l → m' ≡ rows_written (width_of layout n) (i + 1) A l
    row_written h p = q ∙ written_ext m start 1 f (A i) w h ∙ rw (s, e, p) (sym (rows_next (width_of layout n) A l i))
