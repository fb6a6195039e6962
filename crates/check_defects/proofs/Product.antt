-- Numbers of 2^t·I less a product are those that the definitions name.
--   rows_residual — rows of A and biased rows of G: a residual of the inverse;  residual_of_rows — of rows that stand for a list, that of the list
--   columns_defect — columns of A and biased columns of G: a number of D
use mathlib.Core.Path.{◌≡◌, ap, ap₂, ◌∙◌}
use mathlib.Core.List.{List, []}
use Prim.Native.Nat.{ℕ, ◌*◌, ◌<◌, ◌^◌}
use native.Mathlib.Omega.{arith}
use lib.IntN.{ℤ, pos, ◌-ℤ◌, ◌*ℤ◌, *ℤ_comm}
use Rattle.integer.proofs.Sum.{sum_ext}
use Rattle.linear.specs.Matrix.{identity, apply, product}
use Rattle.linear.specs.Slice.{at, matrix_of}
use Rattle.linear.specs.Place.{place_of}
use Rattle.linear.proofs.Carried.{row_place, column_place, carried}
use Rattle.linear.proofs.Product.{identity_turned}
use Rattle.check_biased_rows.specs.Biased.{unbiased_rows}
use Rattle.check_biased_rows.specs.Place.{RowsOfMatrix, ColumnsOfMatrix}
use Rattle.enclosure.specs.Problem.{column_of, problem_of}
use Rattle.enclosure.specs.Reckoning.{defect, residual}
use Rattle.check_arrays.specs.Parts.{rows_part, column_residual}
use Rattle.check_defects.specs.Difference.{difference}

module _ (n t : ℕ) (matrix : List ℤ) where
  pub rows_residual : (rows : List ℕ) (j m : ℕ) → difference n t matrix n 1 rows j m ≡ residual (column_of (rows_part n t matrix rows) j) m
  unfolding residual apply
  rows_residual rows j m =
      ap (λ (z : ℤ). pos (2 ^ t) *ℤ identity m j -ℤ z)
      (sum_ext n _ _ (λ k l. ap (λ (p : ℕ). at matrix p *ℤ unbiased_rows rows n k j) (row_place n m (carried (m * n) 1 k))))

  pub residual_of_rows : {rows : List ℕ} {inverse : List ℤ} → RowsOfMatrix rows n inverse →
      (j k : ℕ) → j < n → k < n → residual (column_of (rows_part n t matrix rows) j) k ≡ column_residual n t matrix inverse j k
  unfolding residual apply
  residual_of_rows h j k lj lk =
      ap (λ (z : ℤ). pos (2 ^ t) *ℤ identity k j -ℤ z) (sum_ext n _ _ (λ i li. ap (λ (z : ℤ). matrix_of matrix n k i *ℤ z) (h.stands i j li lj)))

  pub columns_defect : {columns : List ℕ} {inverse : List ℤ} → ColumnsOfMatrix columns n inverse →
      (m j : ℕ) → m < n → j < n → difference n t matrix 1 n columns m j ≡ defect (problem_of n 0 t matrix [] [] [] inverse []) m j
  unfolding defect product apply
  columns_defect {columns} {inverse} h m j lm lj =
      ap₂ (λ (u z : ℤ). pos (2 ^ t) *ℤ u -ℤ z) (identity_turned j m)
      (sum_ext n _ _
      (λ k lk.
      ap₂ (λ (p : ℕ) (z : ℤ). at matrix p *ℤ z) (let e : j * 1 ≡ j = omega arith in rw e (column_place (carried j n k))) (h.stands k m lk lm)
      ∙ *ℤ_comm (at matrix (place_of n k j)) (at inverse (place_of n m k))))
