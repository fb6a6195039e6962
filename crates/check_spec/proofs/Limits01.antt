-- Where all tolerances are 0, 01's own check accepts whatever is accepted now, and the limits that it writes are those in force.
--   accepted_01 — it accepts;  bound_01, inverse_bound_01 — a limit that it wrote
use mathlib.Core.Path.{◌≡◌, sym, ◌∙◌}
use mathlib.Core.List.{[]}
use Prim.Native.Nat.{ℕ, ◌+◌, ◌*◌, ◌/◌, ◌%◌, ◌≤◌, ◌<◌}
use lib.ListN.{length, get_or}
use Rattle.linear.proofs.Places.{place, place_column, place_row}
use Rattle.linear.proofs.Written.{front_at}
use Rattle.rules.proofs.Verdicts.{accepted_new}
use Rattle.enclosure.specs.Demand.{NoTolerance}
use Rattle.enclosure.specs.Reckoning.{bound, inverse_bound}
use Rattle.check_spec.specs.Before.{solution_after05, inverse_after05, answer01, solution_after01, inverse_after01, Unmoved}
use Rattle.check_spec.specs.Input.{Input, problem}
use Rattle.check_spec.specs.Order.{answer}
use Rattle.check_spec.proofs.Before.{no_tolerance}
use Rattle.check_spec.proofs.Tightened.{accepted_05}

module _ (I : Input) (long : 32 ≤ length I.tolerance) (none : NoTolerance (problem I)) where
  unmoved : Unmoved I
  unmoved = no_tolerance I long none

  pub accepted_01 : answer I ≡ [] → answer01 I ≡ []
  accepted_01 e = sym unmoved.says ∙ accepted_05 I e

  module _ (e : answer01 I ≡ []) where
    pub bound_01 : I.n ≤ length I.solution_bounds → (i : ℕ) → i < I.n → get_or (solution_after01 I) i 0 ≡ bound (problem I) i
    unfolding solution_after05
    bound_01 h i l = rw (← unmoved.solution, accepted_new _ _ (unmoved.says ∙ e)) (front_at I.solution_bounds (bound (problem I)) 0 I.n i l h)

    pub inverse_bound_01 : I.n * I.n ≤ length I.inverse_bounds → (i j : ℕ) → i < I.n → j < I.n → get_or (inverse_after01 I) (i * I.n + j) 0 ≡ inverse_bound (problem I) i j
    unfolding inverse_after05
    inverse_bound_01 h i j li lj =
        rw (← unmoved.inverse, accepted_new _ _ (unmoved.says ∙ e))
        (front_at I.inverse_bounds (λ (k : ℕ). inverse_bound (problem I) (k / I.n) (k % I.n)) 0 (I.n * I.n) (i * I.n + j) (place li lj) h
        ∙ rw (place_column i j I.n lj, place_row i j I.n lj))
