-- The reckoning of a dependent net (02, Paper 8: "Its residual is S·b2 − C·X1 − A2·X2 and its slack is |C|·E1 plus the tolerance slack").
--   own_problem D      — its own n, s, t and lists as a problem
--   dependent_residual D k — that residual of row k
--   dependent_slack D k — the sum over j of |C_kj|·E1_j, and S·d2_k
--   dependent_exceeds D k — they are above 2^25 together; the sum along the row is not asked (Paper 9: "The heights of a hung net keep Paper 8's test only;
--     its inverse columns take the new condition")
--   dependent_bound D i — limit i of Paper 5 with that residual and slack. The limits of its inverse are those of the check
use Rattle.std.specs.Prelude.{Bool, ℕ, ◌+◌, ◌*◌, pos, nat_abs, ◌-ℤ◌, ◌*ℤ◌}
use Rattle.integer.specs.Finite.{sumℕ}
use Rattle.linear.specs.Matrix.{Vec, apply}
use Rattle.enclosure.specs.Problem.{Problem, S}
use Rattle.enclosure.specs.Reckoning.{slack, exceeds_with, bound_with}
use Rattle.check_spec.specs.Input.{problem}
use Rattle.dependent_spec.specs.Nets.{DependentNet, coupling_of}

abbrev pub own_problem : DependentNet → Problem
own_problem D = problem D.own

unfoldable pub dependent_residual : DependentNet → Vec
dependent_residual D k =
    pos (S (own_problem D)) *ℤ (own_problem D).b k -ℤ apply D.n₁ (coupling_of D) D.X₁ k
    -ℤ apply (own_problem D).n (own_problem D).A (own_problem D).X k

unfoldable pub dependent_slack : DependentNet → ℕ → ℕ
dependent_slack D k = sumℕ D.n₁ (λ (j : ℕ). nat_abs (coupling_of D k j) * D.E₁ j) + slack (own_problem D) k

abbrev pub dependent_exceeds : DependentNet → ℕ → Bool
dependent_exceeds D = exceeds_with (dependent_residual D) (dependent_slack D)

abbrev pub dependent_bound : DependentNet → ℕ → ℕ
dependent_bound D = bound_with (own_problem D) (dependent_residual D) (dependent_slack D)
