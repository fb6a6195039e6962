-- Magnitudes and limits of a problem whose numbers are in their ranges.
--   SmallProblem P r σ — what is asked of it: at most 32 rows, the inverse at most 2^20 in absolute value, weights at most 1,024, each residual with its slack at most 2^25 in absolute value,
--     margins above 0
--   magnitudes_most, bound_magnitude — then |p_m| with its slack is at most 2^50, and a limit at most 2^60
use Prim.Native.Nat.{ℕ, ◌+◌, ◌*◌, ◌≤◌, ◌<◌, ◌^◌}
use native.Mathlib.Omega.{arith}
use native.Mathlib.Nat.{mul-le-mul, mul-le-mul_right}
use lib.IntN.{nat_abs}
use Rattle.linear.specs.Matrix.{Vec}
use Rattle.linear.proofs.Slack.{joint}
use Rattle.enclosure.specs.Problem.{Problem}
use Rattle.enclosure.specs.Reckoning.{margin, allowed_residual, magnitudes_with, bound_with}
use Rattle.enclosure.specs.Largest.{largest_magnitude, largest_bound}
use Rattle.enclosure.proofs.Bounds.{bound_least}

pub record SmallProblem (P : Problem) (r : Vec) (σ : ℕ → ℕ) : Type 0 where
  pub n_max : P.n ≤ 32
  pub inverse : (i j : ℕ) → i < P.n → j < P.n → nat_abs (P.G i j) ≤ 2 ^ 20
  pub weights : (i : ℕ) → i < P.n → P.w i ≤ 1024
  pub residuals : (k : ℕ) → k < P.n → nat_abs (r k) + σ k ≤ allowed_residual
  pub margins : (m : ℕ) → m < P.n → 0 < nat_abs (margin P m)

module _ (P : Problem) (r : Vec) (σ : ℕ → ℕ) (h : SmallProblem P r σ) where
  magnitudes_most : (m : ℕ) → m < P.n → magnitudes_with P r σ m ≤ largest_magnitude
  unfolding magnitudes_with
  magnitudes_most m l =
      omega (arith, joint P.n (2 ^ 20) allowed_residual P.G r σ m (λ j lj. h.inverse m j l lj) h.residuals, mul-le-mul_right (2 ^ 45) h.n_max)

  times : (w p g : ℕ) → w ≤ 1024 → p ≤ 2 ^ 50 → 0 < g → w * p ≤ 2 ^ 60 * g
  times w p g a b c = omega (arith, mul-le-mul a b)

  pub bound_magnitude : (i : ℕ) → i < P.n → bound_with P r σ i ≤ largest_bound
  unfolding bound_with
  bound_magnitude i l =
      bound_least P.n (magnitudes_with P r σ) (λ (m : ℕ). nat_abs (margin P m)) P.w i largest_bound h.margins
      (λ m lm. times (P.w i) (magnitudes_with P r σ m) (nat_abs (margin P m)) (h.weights i l) (magnitudes_most m lm) (h.margins m lm))
