-- The sum along a row of a matrix in a list, row after row; cited by contracts inside.
--   row_sum_of n matrix k — the sum over j below n of |A_kj|
use Rattle.std.specs.Prelude.{List, ℕ, ℤ, nat_abs}
use Rattle.integer.specs.Finite.{sumℕ}
use Rattle.linear.specs.Slice.{matrix_of}

abbrev pub row_sum_of : ℕ → List ℤ → ℕ → ℕ
row_sum_of n matrix k = sumℕ n (λ (j : ℕ). nat_abs (matrix_of matrix n k j))
