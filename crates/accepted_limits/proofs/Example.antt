-- Of joint solutions the limits of a dependent net are not good in this sense: two nets where none comes near (specs/Example).
--   fork_accepted — both are accepted;  fork_limits — the limits are 48, and 144 twice;  fork_factor — the dependent net's own factor is 16 / 16
--   joint_near    — every joint solution of right sides within the tolerances lies within 48 steps of the guesses of the dependent net
--   joint_not_far — so none has a row for these limits (`NeverFar`), with that factor
use mathlib.Core.List.{[]}
use mathlib.Core.Path.{◌≡◌, refl, ap, ◌∙◌}
use Prim.Native.Nat.{ℕ, ◌+◌, ◌*◌, ◌≤◌, ◌<◌}
use native.Mathlib.Omega.{arith}
use lib.Dec.{lit≤}
use lib.IntN.{ℤ, pos, nat_abs, ◌+ℤ◌, ◌-ℤ◌, ◌*ℤ◌}
use Rattle.integer.specs.Finite.{sum, sumℕ, largest, first, every}
use Rattle.integer.specs.Quotient.{ceil_div}
use Rattle.integer.proofs.Absolute.{abs_zero, free}
use Rattle.integer.proofs.Below.{only, each_of_two}
use Rattle.integer.proofs.Difference.{is, zz}
use Rattle.integer.proofs.Ring.{*-zero}
use Rattle.integer.proofs.Rounding.{ceil_least}
use Rattle.linear.specs.Matrix.{Vec, apply, product, identity}
use Rattle.rules.specs.Range.{ranges, range_of, in_range, all_in_range}
use Rattle.enclosure.specs.Demand.{RightSide}
use Rattle.enclosure.specs.Reckoning.{defect, load, margin, residual, row_sum, exceeds, magnitudes_with, bound_from, bound_with, bound}
use Rattle.enclosure.specs.Quality.{true_error, NeverFar}
use Rattle.enclosure.proofs.Demands.{encloses}
use Rattle.check_spec.specs.Order.{answer}
use Rattle.dependent_spec.specs.Nets.{dependent_of}
use Rattle.dependent_spec.specs.Reckoning.{dependent_residual, dependent_slack, dependent_bound}
use Rattle.dependent_spec.specs.Order.{dependent_answer, joint_answer}
use Rattle.dependent_spec.specs.Joint.{C₂₁, main_problem, dependent_problem, JointSolution}
use Rattle.good_limits.specs.Good.{OwnFactor}
use Rattle.accepted_limits.specs.Example.{fork}

pub fork_accepted : joint_answer fork ≡ []
unfolding joint_answer answer dependent_answer dependent_residual dependent_slack bound bound_with bound_from magnitudes_with exceeds row_sum residual margin load defect product apply identity sum sumℕ largest first ceil_div all_in_range in_range range_of ranges every
fork_accepted = refl

pub fork_limits : (bound (main_problem fork) 0 ≡ 48) × ((i : ℕ) → i < 2 → dependent_bound (dependent_of fork) i ≡ 144)
unfolding apply product identity sum sumℕ defect load margin residual magnitudes_with bound_from bound_with bound largest ceil_div dependent_residual dependent_slack
fork_limits = (refl, each_of_two _ refl refl)

pub fork_factor : OwnFactor (dependent_problem fork) 16 16
unfolding apply product identity sum sumℕ defect load margin
fork_factor = record { row = 0; below = lit≤ tt; above_is = refl; under_is = refl; every_row = record { positive = lit≤ tt; rows = each_of_two _ (lit≤ tt) (lit≤ tt) } }

-- ---- joint solutions
-- 2·x + y + z = 0 and x + y + z = 0 give x = 0 and y = −z
two_apart : (x y z : ℤ) → pos 0 +ℤ pos 2 *ℤ x +ℤ pos 1 *ℤ y +ℤ (pos 0 +ℤ pos 1 *ℤ z) ≡ pos 0 → pos 0 +ℤ pos 1 *ℤ x +ℤ pos 1 *ℤ y +ℤ (pos 0 +ℤ pos 1 *ℤ z) ≡ pos 0 →
    (nat_abs x ≡ 0) × (nat_abs y ≡ nat_abs z)
two_apart x y z e f =
    let g = simp zz at (rw (is x, is y, is z) at e) in
    let h = simp zz at (rw (is x, is y, is z) at f) in
    (rw (is x) (simp zz (omega (arith, g, h))), rw (is y, is z) (simp zz (omega (arith, g, h))))

-- a number whose distance from 0 is 0, and the distance from a guess of 0
gone : (z : ℤ) (ρ : ℕ) → nat_abs (z -ℤ pos ρ *ℤ pos 0) ≤ ρ * 0 → z ≡ pos 0
gone z ρ h = abs_zero z (rw (is z) (simp zz (omega (arith, simp zz at (rw (is z) at h)))))

from_zero : (z : ℤ) (q : ℕ) → nat_abs (pos 16 *ℤ z -ℤ pos q *ℤ pos 0) ≡ 16 * nat_abs z
from_zero z q = rw (is z) (simp zz (omega arith))

module _ (β₁ : Vec) (ρ₁ : ℕ) (β₂ : Vec) (ρ₂ : ℕ) (s₁ : RightSide (main_problem fork) β₁ ρ₁) (s₂ : RightSide (dependent_problem fork) β₂ ρ₂)
    (N₁ N₂ : Vec) (q : ℕ) (x : JointSolution fork β₁ ρ₁ β₂ ρ₂ N₁ N₂ q) where
  no_right : (k : ℕ) → k < 2 → β₂ k ≡ pos 0
  no_right = each_of_two (λ (k : ℕ). β₂ k ≡ pos 0) (gone (β₂ 0) ρ₂ (s₂.near 0 (lit≤ tt))) (gone (β₂ 1) ρ₂ (s₂.near 1 (lit≤ tt)))

  no_sum : (k : ℕ) → k < 2 → apply 2 (dependent_problem fork).A N₂ k +ℤ apply 1 (C₂₁ fork) N₁ k ≡ pos 0
  no_sum k l = free ρ₂ _ s₂.positive (x.dependent k l ∙ (ap (λ (z : ℤ). pos q *ℤ z) (no_right k l) ∙ *-zero (pos q)))

  heights : (nat_abs (N₂ 0) ≡ 0) × (nat_abs (N₂ 1) ≡ nat_abs (N₁ 0))
  unfolding apply sum
  heights = two_apart (N₂ 0) (N₂ 1) (N₁ 0) (no_sum 0 (lit≤ tt)) (no_sum 1 (lit≤ tt))

  main_near : 16 * nat_abs (N₁ 0) ≤ q * 48
  unfolding apply product identity sum sumℕ defect load margin
  main_near =
      let whole = encloses (main_problem fork) (only _ (lit≤ tt)) (only _ refl) in
      rw (from_zero (N₁ 0) q, fork_limits.0) at (whole.solution β₁ ρ₁ s₁ N₁ q (record { positive = x.positive; solves = x.main }) 0 (lit≤ tt))

  pub joint_near : (i : ℕ) → i < 2 → true_error (dependent_problem fork) N₂ q i ≤ q * 48
  joint_near =
      each_of_two (λ (i : ℕ). true_error (dependent_problem fork) N₂ q i ≤ q * 48) (rw (from_zero (N₂ 0) q) (omega (arith, heights.0)))
      (rw (from_zero (N₂ 1) q) (omega (arith, heights.1, main_near)))

  pub joint_not_far : NeverFar (dependent_problem fork) 16 16 (dependent_bound (dependent_of fork)) N₂ q → ⊥
  joint_not_far r =
      let P = dependent_problem fork in
      let e : ℕ = true_error P N₂ q r.row in
      let one : P.w r.row ≡ 1 = each_of_two (λ (m : ℕ). P.w m ≡ 1) refl refl r.row r.below in
      let far : 144 ≤ ceil_div (16 * (1 * e)) (16 * (q * 1)) = rw (fork_limits.1 0 (lit≤ tt), one) at (r.limits 0 (lit≤ tt)) in
      let near : ceil_div (16 * (1 * e)) (16 * (q * 1)) ≤ 48 = ceil_least (16 * (1 * e)) (16 * (q * 1)) 48 (omega (arith, x.positive)) (omega (arith, joint_near r.row r.below)) in
      omega (arith, far, near)
