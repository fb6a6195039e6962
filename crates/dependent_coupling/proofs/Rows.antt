-- The rows of C, n rows of `marks` numbers.
--   row_past   — row k ends by place 1,024
--   base_magnitude — S·b2 less C·X1 is at most 2^62 in absolute value
--   carried_magnitude — the sum of |C_kj|·E_j over the first j, each limit capped, is at most 2^51
use mathlib.Core.Path.{ap}
use Prim.Native.Nat.{ℕ, ◌+◌, ◌*◌, ◌≤◌, ◌<◌, ◌^◌, min}
use native.Mathlib.Omega.{arith}
use native.Mathlib.Nat.{mul-le-mul, mul-le-mul_right}
use mathlib.Core.List.{List}
use lib.IntN.{ℤ, nat_abs}
use lib.ListN.{get_or}
use Rattle.integer.specs.Finite.{sumℕ}
use Rattle.integer.proofs.Absolute.{abs_sub}
use Rattle.integer.proofs.Sum.{sumℕ≤}
use Rattle.linear.specs.Matrix.{apply}
use Rattle.linear.specs.Reach.{ColumnList, Reach}
use Rattle.linear.specs.Slice.{at, vector_of, matrix_of}
use Rattle.linear.proofs.Carried.{row_place, carried}
use Rattle.linear.proofs.Places.{list_reach, dot_row, dot_magnitude}
use Rattle.check_arrays.specs.Parts.{residual_from}
use Rattle.dependent_coupling.specs.Carried.{limit_cap}

pub row_past : {k marks : ℕ} → k < 32 → marks ≤ 32 → k * marks + marks ≤ 1024
row_past {k} {marks} p q =
    let a : k + 1 ≤ 32 = omega arith in omega (arith, mul-le-mul a q)

pub base_magnitude : (k : ℕ) {marks : ℕ} (base coupling guess : List ℤ) → marks ≤ 32 → nat_abs (at base k) ≤ 2 ^ 50 → Reach coupling (k * marks) 1 marks (2 ^ 20) →
    ColumnList guess marks (2 ^ 36) → nat_abs (residual_from marks base coupling guess k) ≤ 2 ^ 62
base_magnitude k {marks} base coupling guess n_max small h g =
    omega (
      arith,
      abs_sub (at base k) (apply marks (matrix_of coupling marks) (vector_of guess) k),
      ap nat_abs (dot_row marks coupling guess k),
      dot_magnitude coupling (k * marks) 1 guess 0 1 marks (2 ^ 20) (2 ^ 36) h (list_reach g),
      mul-le-mul_right (2 ^ 20 * 2 ^ 36) n_max,
    )

module _ {xs : List ℤ} (k : ℕ) {marks : ℕ} (n_max : marks ≤ 32) (h : Reach xs (k * marks) 1 marks (2 ^ 20)) (limits : List ℕ) where
  pub carried_magnitude : (j : ℕ) → j ≤ marks → sumℕ j (λ (i : ℕ). nat_abs (matrix_of xs marks k i) * min (get_or limits i 0) limit_cap) ≤ 2 ^ 51
  carried_magnitude j m =
      let term : (i : ℕ) → i < j → nat_abs (matrix_of xs marks k i) * min (get_or limits i 0) limit_cap ≤ 2 ^ 20 * limit_cap =
      λ i l.
      let b : min (get_or limits i 0) limit_cap ≤ limit_cap = omega arith in mul-le-mul (rw (row_place marks k (carried (k * marks) 1 i)) at (h.magnitudes i (omega arith))) b in
      omega (arith, sumℕ≤ j (2 ^ 20 * limit_cap) (λ (i : ℕ). nat_abs (matrix_of xs marks k i) * min (get_or limits i 0) limit_cap) term, mul-le-mul_right (2 ^ 20 * limit_cap) m, mul-le-mul_right (2 ^ 20 * limit_cap) n_max)
