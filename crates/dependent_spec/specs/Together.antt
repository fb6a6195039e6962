-- What the check of two nets says and leaves (02, Paper 8: "either net's leaves the limit lists of both").
--   dependent_solution_after code D — the solution limits of the dependent net where this is said: its limits where it is nothing, as before where it is a
--     refusal of either net. The other three lists are those of a check on lists (`solution_after`, `inverse_after`)
--   CheckedTogether — the contract of `check_dependent`: what is said, the four limit lists, and what acceptance shows for the limits that the call wrote
use Rattle.std.specs.Prelude.{List, [], ◌≡◌, ℕ, ◌+◌, ◌*◌, get_or}
use Rattle.linear.specs.Written.{written}
use Rattle.rules.specs.Order.{if_accepted}
use Rattle.check_spec.specs.Checked.{solution_after, inverse_after}
use Rattle.dependent_spec.specs.Order.{CheckedNets, joint_answer, nets_code}
use Rattle.dependent_spec.specs.Nets.{Nets, DependentNet, dependent_of}
use Rattle.dependent_spec.specs.Reckoning.{dependent_bound}
use Rattle.dependent_spec.specs.Joint.{EnclosesBoth}

abbrev pub dependent_solution_after : List ℕ → DependentNet → List ℕ
dependent_solution_after code D = if_accepted code (written D.own.solution_bounds 0 1 (dependent_bound D) D.own.n) D.own.solution_bounds

pub record CheckedTogether (J : Nets) (r : CheckedNets) (E₁ L₁ E₂ L₂ : List ℕ) : Type 0 where
  pub says : nets_code r ≡ joint_answer J
  pub main_solution : E₁ ≡ solution_after (joint_answer J) J.main
  pub main_inverse : L₁ ≡ inverse_after (joint_answer J) J.main
  pub dependent_solution : E₂ ≡ dependent_solution_after (joint_answer J) (dependent_of J)
  pub dependent_inverse : L₂ ≡ inverse_after (joint_answer J) J.dependent
  pub encloses : nets_code r ≡ [] →
      EnclosesBoth J (λ (i : ℕ). get_or E₁ i 0) (λ (i j : ℕ). get_or L₁ (i * J.main.n + j) 0)
      (λ (i : ℕ). get_or E₂ i 0) (λ (i j : ℕ). get_or L₂ (i * J.dependent.n + j) 0)
