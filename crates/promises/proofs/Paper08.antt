-- The theorems for specs/Paper08, a theorem for each statement.
use mathlib.Core.List.{List, []}
use mathlib.Core.Path.{◌≡◌, refl, sym, subst, ◌∙◌}
use Prim.Native.Nat.{ℕ}
use native.Mathlib.Omega.{arith}
use Rattle.linear.specs.Matrix.{apply}
use Rattle.linear.proofs.Written.{front_at}
use Rattle.check_spec.proofs.Fit.{Fit}
use Rattle.check_spec.proofs.Written.{accepted_fit, solution_at, inverse_at}
use Rattle.dependent_spec.specs.Nets.{Nets, dependent_of}
use Rattle.dependent_spec.specs.Order.{nets_code, joint_answer, CheckedNets}
use Rattle.dependent_spec.specs.Reckoning.{dependent_residual, dependent_slack, dependent_bound}
use Rattle.dependent_spec.specs.Stated.{StatedTogether, of_main, of_dependent}
use Rattle.dependent_spec.specs.Together.{CheckedTogether}
use Rattle.dependent_spec.proofs.Largest.{joint_none}
use Rattle.dependent_spec.proofs.Statements.{own_fit, passed_of, stated_together, code_of_together}
use Rattle.promises.specs.Paper08 as paper
use Rattle.promises.specs.Ways.{Refused}
use Rattle.promises.proofs.Ways.{refused_old}

pub dependent_residual_is : paper.DependentResidualIs
unfolding dependent_residual apply
dependent_residual_is J k = refl

pub dependent_slack_is : paper.DependentSlackIs
unfolding dependent_slack
dependent_slack_is J k = refl

module _ (J : Nets) (r : CheckedNets) (E₁ L₁ E₂ L₂ : List ℕ) (x : CheckedTogether J r E₁ L₁ E₂ L₂) (e : nets_code r ≡ []) where
  none : joint_answer J ≡ []
  none = sym x.says ∙ e

  main_fit : Fit J.main
  main_fit = accepted_fit J.main (joint_none J none).0

  dependent_fit : Fit J.dependent
  dependent_fit = own_fit (dependent_of J) (passed_of (dependent_of J) (joint_none J none).1).usable

pub both_limits_computed : paper.BothLimitsComputed
both_limits_computed J r E₁ L₁ E₂ L₂ x e =
    let f = main_fit J r E₁ L₁ E₂ L₂ x e in
    let g = dependent_fit J r E₁ L₁ E₂ L₂ x e in
    let z = none J r E₁ L₁ E₂ L₂ x e in (
      λ i l. rw (x.main_solution, z) (solution_at J.main f i l),
      λ i l. rw (x.dependent_solution, z) (front_at J.dependent.solution_bounds (dependent_bound (dependent_of J)) 0 J.dependent.n i l (omega (arith, g.n_max, g.solution_long))),
    )

pub both_inverse_limits_computed : paper.BothInverseLimitsComputed
both_inverse_limits_computed J r E₁ L₁ E₂ L₂ x e =
    let z = none J r E₁ L₁ E₂ L₂ x e in (
      λ i j li lj. rw (x.main_inverse, z) (inverse_at J.main (main_fit J r E₁ L₁ E₂ L₂ x e) i j li lj),
      λ i j li lj. rw (x.dependent_inverse, z) (inverse_at J.dependent (dependent_fit J r E₁ L₁ E₂ L₂ x e) i j li lj),
    )

pub joint_enclosed : paper.JointEnclosed
joint_enclosed J r E₁ L₁ E₂ L₂ x e = (x.encloses e).joint

pub refusal_names_net : paper.RefusalNamesNet
refusal_names_net J r E₁ L₁ E₂ L₂ x k ks =
    (λ y. x.says ∙ code_of_together J (of_main k ks y), λ y z. x.says ∙ code_of_together J (of_dependent k ks y z))

pub together_refuses_as_stated : paper.TogetherRefusesAsStated
together_refuses_as_stated J r E₁ L₁ E₂ L₂ x w = (λ e. subst (StatedTogether J) (sym x.says ∙ e) (stated_together J), λ y. x.says ∙ code_of_together J y)

pub refused_together_leaves : paper.RefusedTogetherLeaves
refused_together_leaves J r E₁ L₁ E₂ L₂ x h =
    let k : Refused _ = rw x.says at h in
    (x.main_solution ∙ refused_old _ _ _ k, x.main_inverse ∙ refused_old _ _ _ k, x.dependent_solution ∙ refused_old _ _ _ k, x.dependent_inverse ∙ refused_old _ _ _ k)
