-- What 02's Paper 9 asks more of a residual (specs/Before has the tests before it).
--   near_meets, near_column_meets — a guess, or a column of the inverse, within one step of the exact one everywhere has no residual above its row's sum
--     (Paper 9: "a guess within one step of the exact solution everywhere always meets this")
--   still_encloses — whatever was sound before is enclosed by its limits (Paper 9: "Limits already in the register remain true")
use mathlib.Core.Path.{◌≡◌}
use mathlib.Core.Bool.{false}
use Prim.Native.Nat.{ℕ, ◌≤◌, ◌<◌}
use native.Mathlib.Omega.{arith}
use lib.Dec.{lit≤}
use lib.IntN.{pos, nat_abs, ◌-ℤ◌, ◌*ℤ◌}
use Rattle.linear.specs.Matrix.{Vec, Mat, column, product}
use Rattle.enclosure.specs.Problem.{Problem, S, T, column_of}
use Rattle.enclosure.specs.Reckoning.{exceeds_row, bound, inverse_bound}
use Rattle.enclosure.specs.Demand.{ExactSolution, ExactInverse, Encloses}
use Rattle.enclosure.specs.Before.{Sound05}
use Rattle.enclosure.proofs.Acceptance.{residual_half, row_met}
use Rattle.enclosure.proofs.Demands.{encloses}

module _ (P : Problem) where
  pub near_meets : (N : Vec) (q : ℕ) → ExactSolution P N q → ((j : ℕ) → j < P.n → nat_abs (pos (S P) *ℤ N j -ℤ pos q *ℤ P.X j) ≤ q) →
      (k : ℕ) → k < P.n → exceeds_row P k ≡ false
  near_meets N q x near k l =
      row_met P k 2 (lit≤ tt) (residual_half P N q 2 x.positive x.solves (λ j lj. omega (arith, near j lj)) k l)

  pub near_column_meets : (H : Mat) (q : ℕ) → ExactInverse P H q → (j : ℕ) → j < P.n →
      ((i : ℕ) → i < P.n → nat_abs (pos (T P) *ℤ H i j -ℤ pos q *ℤ P.G i j) ≤ q) → (k : ℕ) → k < P.n → exceeds_row (column_of P j) k ≡ false
  near_column_meets H q x j lj near k l =
      row_met (column_of P j) k 2 (lit≤ tt)
      (residual_half (column_of P j) (column H j) q 2 x.positive (unfold product in λ i li. x.right i j li lj) (λ i li. omega (arith, near i li)) k l)

  pub still_encloses : ((i : ℕ) → i < P.n → 1 ≤ P.w i) → Sound05 P → Encloses P (bound P) (inverse_bound P)
  still_encloses hw x = encloses P hw x.margins
