-- Which place of a matrix each place of biased rows stands for.
--   rows_of_matrix — biased row by row from i·n on with stride 1;  columns_of_matrix — column by column, from j on with stride n
--   rows_stand — as rows that stand for the numbers of the matrix
use mathlib.Core.Path.{◌≡◌, ap, ◌∙◌}
use mathlib.Core.List.{List}
use Prim.Native.Nat.{ℕ, ◌+◌, ◌*◌}
use native.Mathlib.Omega.{arith}
use lib.IntN.{ℤ}
use Rattle.linear.specs.Slice.{at, matrix_of}
use Rattle.linear.proofs.Carried.{row_place, column_place, carried}
use Rattle.check_biased_rows.specs.Biased.{RowsOf}
use Rattle.check_biased_rows.specs.Place.{RowsOfMatrix, ColumnsOfMatrix}
use Rattle.check_biased_rows.proofs.Unbiasing.{rows_biased}

module _ {xs : List ℕ} {n : ℕ} {ys : List ℤ} where
  pub rows_of_matrix : RowsOf xs n n (λ (i k : ℕ). at ys (i * n + k * 1)) → RowsOfMatrix xs n ys
  rows_of_matrix h = record {
    rows = rows_biased h;
    stands = λ i k li lk. (h.each i li).each k lk ∙ ap (at ys) (row_place n i (carried (i * n) 1 k));
  }

  pub columns_of_matrix : RowsOf xs n n (λ (j k : ℕ). at ys (j * 1 + k * n)) → ColumnsOfMatrix xs n ys
  columns_of_matrix h = record {
    rows = rows_biased h;
    stands = λ j k lj lk. (h.each j lj).each k lk ∙ ap (at ys) (let e : j * 1 ≡ j = omega arith in rw e (column_place (carried j n k)));
  }

  pub rows_stand : RowsOfMatrix xs n ys → RowsOf xs n n (matrix_of ys n)
  rows_stand h = record { each = λ i li. record { row = h.rows.each i li; each = λ k lk. h.stands i k li lk } }
