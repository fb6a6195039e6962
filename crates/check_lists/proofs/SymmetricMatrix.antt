-- Where A and G are symmetric, so is G·(T·I − A·G), from the biased rows of G and the residuals of the inverse.
--   residual_product — p_m of column j, from what the rows and the list stand for;  symmetric_product — it is p_j of column m
use mathlib.Core.Path.{◌≡◌, sym, ap₂, ◌∙◌}
use mathlib.Core.List.{List}
use Prim.Native.Nat.{ℕ, ◌+◌, ◌*◌, ◌<◌, ◌^◌}
use lib.IntN.{ℤ, pos, ◌-ℤ◌, ◌*ℤ◌}
use Rattle.integer.proofs.Sum.{sum_ext}
use Rattle.linear.specs.Matrix.{apply, product, identity}
use Rattle.linear.specs.Slice.{at, matrix_of}
use Rattle.linear.proofs.Places.{place, place_column, place_row}
use Rattle.check_biased_rows.specs.Biased.{unbiased_rows}
use Rattle.check_biased_rows.specs.Place.{RowsOfMatrix}
use Rattle.enclosure.specs.Reckoning.{residual}
use Rattle.check_arrays.specs.Arrays.{PrefixIs}
use Rattle.check_arrays.specs.Parts.{column_residual}
use Rattle.check_symmetry.specs.Symmetric.{Symmetric}
use Rattle.check_symmetry.proofs.SymmetricMatrix.{matrix_symmetric, residual_symmetric}
use Rattle.check_inverse_bounds.specs.SymmetricRows.{SymmetricProduct}
use Rattle.check_lists.specs.Work.{Work}
use Rattle.check_lists.proofs.Rows.{work_column}

module _ (W : Work) {rows : List ℕ} {columns : List ℤ} (biased : RowsOfMatrix rows W.n W.inverse) (h : PrefixIs (pos 0) columns (W.n * W.n) (work_column W)) where
  residual_product : (m j : ℕ) → m < W.n → j < W.n →
      apply W.n (unbiased_rows rows W.n) (λ (k : ℕ). at columns (j * W.n + k)) m
      ≡ apply W.n (matrix_of W.inverse W.n) (λ (k : ℕ). pos (2 ^ W.t) *ℤ identity k j -ℤ product W.n (matrix_of W.matrix W.n) (matrix_of W.inverse W.n) k j) m
  unfolding apply product residual
  residual_product m j lm lj =
      sum_ext W.n _ _
      (λ k lk.
      ap₂ (λ (x y : ℤ). x *ℤ y) (biased.stands m k lm lk)
      (h.each (j * W.n + k) (place lj lk) ∙ ap₂ (column_residual W.n W.t W.matrix W.inverse) (place_column j k W.n lk) (place_row j k W.n lk)))

  pub symmetric_product : Symmetric W.matrix W.n → Symmetric W.inverse W.n → SymmetricProduct rows columns W.n
  symmetric_product a g = record {
    each = λ m j lm lj.
        residual_product m j lm lj
        ∙ residual_symmetric (matrix_symmetric a) (matrix_symmetric g) (pos (2 ^ W.t)) m j lm lj
        ∙ sym (residual_product j m lj lm);
  }
