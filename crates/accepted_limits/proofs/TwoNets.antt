-- The limits of two accepted nets are good, those of the dependent net as a problem in solution steps (specs/TwoNets).
--   steps_residual, steps_slack — the residual and the slack of that problem are Paper 8's;  steps_bound — so are its limits
--   both_parts    — where nothing is said of two nets, nothing is said of either
--   together_good — two accepted nets;  together_zero_good — where `kodarfi_check_dependent` answers 0
use mathlib.Core.List.{List, [], ◌∷◌}
use mathlib.Core.Path.{◌≡◌, refl, sym, ap, ◌∙◌}
use Prim.Native.Nat.{ℕ}
use native.Mathlib.Omega.{arith}
use lib.IntN.{pos, ◌-ℤ◌, ◌*ℤ◌}
use Rattle.integer.proofs.Ring.{one-*}
use Rattle.linear.specs.Matrix.{apply}
use Rattle.linear.proofs.Slack.{slack_ext}
use Rattle.rules.proofs.Verdicts.{accepted_new, nothing_is_not}
use Rattle.enclosure.specs.Problem.{S}
use Rattle.enclosure.specs.Reckoning.{defect, load, margin, residual, slack, magnitudes_with, bound_with, bound, inverse_bound}
use Rattle.enclosure.specs.Sound.{Margins}
use Rattle.enclosure.proofs.Bounds.{bound_ext}
use Rattle.check_spec.specs.Order.{answer}
use Rattle.dependent_spec.specs.Nets.{Nets, DependentNet, coupling_of, dependent_of}
use Rattle.dependent_spec.specs.Reckoning.{own_problem, dependent_residual, dependent_slack, dependent_bound}
use Rattle.dependent_spec.specs.Order.{dependent_answer, joint_answer, nets_code, CheckedNets}
use Rattle.dependent_spec.specs.Together.{CheckedTogether}
use Rattle.dependent_spec.proofs.Statements.{own_fit, passed_of, joint_main, joint_dependent}
use Rattle.calls_spec.specs.TwoNets.{DependentExported}
use Rattle.calls_spec.proofs.TwoNets.{together_zero}
use Rattle.good_limits.specs.Good.{Good}
use Rattle.accepted_limits.specs.TwoNets.{dependent_in_steps, GoodNets}
use Rattle.good_limits.proofs.Good.{limits_good, good_as}
use Rattle.accepted_limits.proofs.Lists.{written_good, check_good}

module _ (D : DependentNet) where
  steps_residual : (k : ℕ) → residual (dependent_in_steps D) k ≡ dependent_residual D k
  unfolding residual dependent_residual
  steps_residual k =
      ap (λ z. z -ℤ apply (own_problem D).n (own_problem D).A (own_problem D).X k)
      (one-* (pos (S (own_problem D)) *ℤ (own_problem D).b k -ℤ apply D.n₁ (coupling_of D) D.X₁ k))

  steps_slack : (k : ℕ) → slack (dependent_in_steps D) k ≡ dependent_slack D k
  steps_slack k = omega arith

  pub steps_bound : (i : ℕ) → bound (dependent_in_steps D) i ≡ dependent_bound D i
  unfolding bound bound_with magnitudes_with margin load defect
  steps_bound i =
      bound_ext (own_problem D).n _ _ _ _ (own_problem D).w i
      (λ m l. slack_ext (own_problem D).n (own_problem D).G (own_problem D).G (residual (dependent_in_steps D)) (dependent_residual D) (slack (dependent_in_steps D)) (dependent_slack D) m
      (λ j lj. refl) (λ j lj. steps_residual j) (λ j lj. steps_slack j))
      (λ m l. refl)

  steps_margins : Margins (own_problem D) → Margins (dependent_in_steps D)
  unfolding margin load defect
  steps_margins h = h

  steps_good : dependent_answer D ≡ [] → Good (dependent_in_steps D) (dependent_bound D) (inverse_bound (own_problem D))
  steps_good h =
      let p = passed_of D h in
      let fit = own_fit D p.usable in
      good_as (dependent_in_steps D) (bound (dependent_in_steps D)) (dependent_bound D) (inverse_bound (dependent_in_steps D)) (inverse_bound (own_problem D)) (λ i l. sym (steps_bound i)) (λ i j li lj. refl)
      (limits_good (dependent_in_steps D) fit.n_pos fit.heavy (steps_margins p.margins))

-- ---- both nets
module _ (J : Nets) where
  both_parts : joint_answer J ≡ [] → (answer J.main ≡ []) × (dependent_answer (dependent_of J) ≡ [])
  both_parts j = go (answer J.main) refl (dependent_answer (dependent_of J)) refl
    where
      go : (x : List ℕ) → answer J.main ≡ x → (y : List ℕ) → dependent_answer (dependent_of J) ≡ y → (answer J.main ≡ []) × (dependent_answer (dependent_of J) ≡ [])
      go (k ∷ ks) e y f = absurd (nothing_is_not (sym (joint_main J e) ∙ j))
      go [] e (k ∷ ks) f = absurd (nothing_is_not (sym (joint_dependent J e f) ∙ j))
      go [] e [] f = (e, f)

  pub together_good : (r : CheckedNets) (E₁ L₁ E₂ L₂ : List ℕ) → CheckedTogether J r E₁ L₁ E₂ L₂ → nets_code r ≡ [] → GoodNets J E₁ L₁ E₂ L₂
  together_good r E₁ L₁ E₂ L₂ x e =
      let j : joint_answer J ≡ [] = sym x.says ∙ e in
      let (m, d) = both_parts j in
      let fit = own_fit (dependent_of J) (passed_of (dependent_of J) d).usable in
      record {
        main = check_good J.main m (x.main_solution ∙ accepted_new _ _ j) (x.main_inverse ∙ accepted_new _ _ j);
        dependent =
            written_good (dependent_in_steps (dependent_of J)) (dependent_bound (dependent_of J)) (inverse_bound (own_problem (dependent_of J))) J.dependent.solution_bounds J.dependent.inverse_bounds
            fit.n_max fit.solution_long fit.inverse_long (x.dependent_solution ∙ accepted_new _ _ j) (x.dependent_inverse ∙ accepted_new _ _ j)
            (steps_good (dependent_of J) d);
      }

pub together_zero_good : {J : Nets} {number net : ℕ} {places E₁ L₁ E₂ L₂ : List ℕ} → DependentExported J number net places E₁ L₁ E₂ L₂ → number ≡ 0 → GoodNets J E₁ L₁ E₂ L₂
together_zero_good {J} {number} {net} {places} {E₁} {L₁} {E₂} {L₂} x e =
    together_good J x.answer E₁ L₁ E₂ L₂ x.checked (x.checked.says ∙ together_zero x e)
