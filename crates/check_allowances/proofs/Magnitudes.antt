-- partial_magnitude — the sum of the first j numbers of a row is at most 2^51;  row_slice — the sum along a row, over its part of the list;  matrix_within — a matrix list's numbers are at most 2^46, as `row_sum` asks.
use Prim.Native.Nat.{ℕ, ◌+◌, ◌*◌, ◌≤◌, ◌<◌, ◌^◌}
use native.Mathlib.Omega.{arith}
use native.Mathlib.Nat.{mul-le-mul_right}
use mathlib.Core.List.{List}
use mathlib.Core.Path.{◌≡◌}
use Rattle.std.specs.List.{between, sum_by}
use lib.IntN.{ℤ, nat_abs, pos}
use Rattle.integer.specs.Finite.{sumℕ}
use Rattle.integer.proofs.Sum.{sumℕ≤}
use Rattle.linear.specs.Slice.{matrix_of}
use Rattle.linear.specs.Reach.{ColumnList, MatrixList}
use Rattle.linear.specs.Place.{Carried}
use Rattle.linear.proofs.Carried.{start_place}
use Rattle.linear.proofs.Places.{place, row_room}
use Rattle.linear.proofs.Slices.{slice_sum}
use Rattle.check_allowances.specs.Sum.{row_sum_of}

module _ {n : ℕ} {matrix : List ℤ} (n_max : n ≤ 32) (h : ColumnList matrix (n * n) (2 ^ 46)) (k : ℕ) (l : k < n) where
  pub partial_magnitude : (j : ℕ) → j ≤ n → sumℕ j (λ (i : ℕ). nat_abs (matrix_of matrix n k i)) ≤ 2 ^ 51
  partial_magnitude j m =
      omega (arith, sumℕ≤ j (2 ^ 46) (λ (i : ℕ). nat_abs (matrix_of matrix n k i)) (λ i li. h.within.magnitudes _ (place l (omega arith))), mul-le-mul_right (2 ^ 46) m, mul-le-mul_right (2 ^ 46) n_max)

pub matrix_within : {n : ℕ} {matrix : List ℤ} → MatrixList matrix n → ColumnList matrix (n * n) (2 ^ 46)
matrix_within h = record { long = h.long; within = record { magnitudes = λ i l. omega (arith, h.within.magnitudes i l) } }

-- the sum along row k, taken over its part of the list
pub row_slice : {n : ℕ} {matrix : List ℤ} {k row b : ℕ} → Carried 0 n k row → k < n → ColumnList matrix (n * n) b → sum_by nat_abs (between row (row + n) matrix) ≡ row_sum_of n matrix k
row_slice {n} {matrix} {k} at l h = rw (start_place at) (slice_sum nat_abs (pos 0) matrix (k * n) n (row_room l h.long))
