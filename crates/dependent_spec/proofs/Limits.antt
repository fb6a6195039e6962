-- The check of a dependent net reads only the first n1 of the main net's limits.
--   slack_same, answer_same, bound_same — what is said and the limits, by limits E and F of the main net that agree there
--   dependent_same — the contract of its check
use mathlib.Core.Path.{◌≡◌, refl, ap, ◌∙◌}
use mathlib.Core.List.{List}
use Prim.Native.Nat.{ℕ, ◌+◌, ◌*◌, ◌<◌}
use lib.IntN.{ℤ, nat_abs}
use Rattle.integer.proofs.Search.{first_ext}
use Rattle.integer.proofs.Sum.{sumℕ_ext}
use Rattle.linear.specs.Matrix.{Vec}
use Rattle.linear.proofs.Slack.{slack_ext}
use Rattle.linear.proofs.Written.{written_ext}
use Rattle.rules.specs.Refusal.{Outcome}
use Rattle.enclosure.specs.Reckoning.{slack, magnitudes_with, bound_with}
use Rattle.enclosure.proofs.Bounds.{bound_ext}
use Rattle.check_spec.specs.Input.{Input}
use Rattle.dependent_spec.specs.Nets.{DependentNet, dependent_by, coupling_of}
use Rattle.dependent_spec.specs.Reckoning.{own_problem, dependent_residual, dependent_slack, dependent_exceeds, dependent_bound}
use Rattle.dependent_spec.specs.Order.{dependent_answer}
use Rattle.dependent_spec.specs.Checked.{DependentAs}

module _ (n₁ s₁ : ℕ) (X₁ : Vec) (E F : ℕ → ℕ) (coupling : List ℤ) (own : Input) (h : (j : ℕ) → j < n₁ → E j ≡ F j) where
  abbrev D : DependentNet
  D = dependent_by n₁ s₁ X₁ E coupling own

  abbrev B : DependentNet
  B = dependent_by n₁ s₁ X₁ F coupling own

  residual_same : (k : ℕ) → dependent_residual D k ≡ dependent_residual B k
  unfolding dependent_residual
  residual_same k = refl

  slack_same : (k : ℕ) → dependent_slack D k ≡ dependent_slack B k
  unfolding dependent_slack
  slack_same k =
      ap (λ (x : ℕ). x + slack (own_problem D) k)
      (sumℕ_ext n₁ (λ (j : ℕ). nat_abs (coupling_of D k j) * E j) (λ (j : ℕ). nat_abs (coupling_of D k j) * F j) (λ j l. rw (h j l)))

  exceeds_same : (k : ℕ) → dependent_exceeds D k ≡ dependent_exceeds B k
  exceeds_same k = rw (residual_same k, slack_same k)

  pub answer_same : dependent_answer D ≡ dependent_answer B
  unfolding dependent_answer
  answer_same = rw (first_ext own.n (dependent_exceeds D) (dependent_exceeds B) (λ k l. exceeds_same k))

  pub bound_same : (i : ℕ) → dependent_bound D i ≡ dependent_bound B i
  unfolding bound_with magnitudes_with
  bound_same i =
      bound_ext own.n _ _ _ _ _ i
      (λ m l. slack_ext own.n (own_problem D).G (own_problem D).G (dependent_residual D) (dependent_residual B) (dependent_slack D) (dependent_slack B) m (λ j lj. refl)
      (λ j lj. residual_same j) (λ j lj. slack_same j))
      (λ m l. refl)

  pub dependent_same : {r : Outcome} {K L : List ℕ} → DependentAs D r K L → DependentAs B r K L
  dependent_same {r} {K} {L} x = record {
    says = x.says ∙ answer_same;
    solution_bounds = rw (answer_same, written_ext own.solution_bounds 0 1 (dependent_bound D) (dependent_bound B) own.n (λ i l. bound_same i)) at x.solution_bounds;
    inverse_bounds = rw answer_same at x.inverse_bounds;
  }
