-- What the check of the dependent net by itself says and leaves, once the main net is accepted; cited by the contract of `check_dependent_net` alone.
--   DependentAs D r E L — what is said, and its two limit lists
use Rattle.std.specs.Prelude.{List, ◌≡◌, ℕ}
use Rattle.rules.specs.Refusal.{code, Outcome}
use Rattle.check_spec.specs.Checked.{inverse_after}
use Rattle.dependent_spec.specs.Nets.{DependentNet}
use Rattle.dependent_spec.specs.Order.{dependent_answer}
use Rattle.dependent_spec.specs.Together.{dependent_solution_after}

pub record DependentAs (D : DependentNet) (r : Outcome) (E L : List ℕ) : Type 0 where
  pub says : code r ≡ dependent_answer D
  pub solution_bounds : E ≡ dependent_solution_after (dependent_answer D) D
  pub inverse_bounds : L ≡ inverse_after (dependent_answer D) D.own
