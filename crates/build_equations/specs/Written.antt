-- Where the equations are written (linear/specs/Written).
--   width_of layout n i — how many numbers of row i are written: all n, or the i + 1 of the lower half
--   rows_written width k A l — l with the rows 0 to k − 1 of A written one after the other without gaps, row i with `width i` numbers
--   matrix_written, right_written — a whole matrix of n rows in its layout, and n right sides
use Rattle.std.specs.Prelude.{List, ℕ, zero, suc, ◌+◌, ℤ}
use Rattle.integer.specs.Finite.{sumℕ}
use Rattle.linear.specs.Matrix.{Vec, Mat}
use Rattle.linear.specs.Written.{written}
use Rattle.build_equations.specs.declared.Layout.{Layout}
use Rattle.build_equations.specs.declared.Layout.TheVariants.{Square, Lower}

abbrev pub width_of : Layout → ℕ → ℕ → ℕ
width_of Square n i = n
width_of Lower n i = i + 1

unfoldable pub rows_written : (ℕ → ℕ) → ℕ → Mat → List ℤ → List ℤ
rows_written width zero A l = l
rows_written width (suc k) A l = written (rows_written width k A l) (sumℕ k width) 1 (A k) (width k)

abbrev pub matrix_written : Layout → ℕ → Mat → List ℤ → List ℤ
matrix_written layout n A l = rows_written (width_of layout n) n A l

abbrev pub right_written : ℕ → Vec → List ℤ → List ℤ
right_written n b l = written l 0 1 b n
