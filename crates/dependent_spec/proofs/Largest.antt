-- Where both nets are accepted, every limit of either is at most 2^60.
--   joint_none — nothing is said of both exactly where nothing is said of each
--   dependent_magnitude — the solution limits of an accepted dependent net: 6's test, with the slack of C and of the tolerances, bounds them
use mathlib.Core.Path.{◌≡◌, refl, sym, ◌∙◌}
use mathlib.Core.List.{List, [], ◌∷◌}
use Prim.Native.Nat.{ℕ, ◌+◌, ◌*◌, ◌≤◌, ◌<◌}
use borrow.Author.Tests.{ltb-false}
use lib.IntN.{nat_abs}
use Rattle.linear.proofs.Places.{place}
use Rattle.rules.proofs.Verdicts.{nothing_is_not}
use Rattle.enclosure.specs.Largest.{largest_bound}
use Rattle.enclosure.specs.Reckoning.{allowed_residual}
use Rattle.enclosure.proofs.Largest.{bound_magnitude}
use Rattle.enclosure.proofs.Margin.{margin_above}
use Rattle.check_spec.specs.Order.{answer}
use Rattle.dependent_spec.specs.Nets.{Nets, DependentNet, dependent_of}
use Rattle.dependent_spec.specs.Reckoning.{own_problem, dependent_residual, dependent_slack, dependent_bound}
use Rattle.dependent_spec.specs.Order.{dependent_answer, joint_answer}
use Rattle.dependent_spec.proofs.Statements.{own_fit, passed_of, joint_main, joint_dependent}

pub joint_none : (J : Nets) → joint_answer J ≡ [] → (answer J.main ≡ []) × (dependent_answer (dependent_of J) ≡ [])
joint_none J e = go (answer J.main) refl (dependent_answer (dependent_of J)) refl
  where
    go : (x : List ℕ) → answer J.main ≡ x → (y : List ℕ) → dependent_answer (dependent_of J) ≡ y → (answer J.main ≡ []) × (dependent_answer (dependent_of J) ≡ [])
    go (k ∷ ks) f y g = absurd (nothing_is_not (sym (joint_main J f) ∙ e))
    go [] f (k ∷ ks) g = absurd (nothing_is_not (sym (joint_dependent J f g) ∙ e))
    go [] f [] g = (f, g)

pub dependent_magnitude : (D : DependentNet) → dependent_answer D ≡ [] → (i : ℕ) → i < D.own.n → dependent_bound D i ≤ largest_bound
dependent_magnitude D e =
    let p = passed_of D e in
    let fit = own_fit D p.usable in
    bound_magnitude (own_problem D) (dependent_residual D) (dependent_slack D) (record {
      n_max = fit.n_max;
      inverse = λ i j li lj. fit.inverse.within.magnitudes (i * D.own.n + j) (place li lj);
      weights = fit.weights.within.magnitudes;
      residuals = λ k l. ltb-false allowed_residual (nat_abs (dependent_residual D k) + dependent_slack D k) (p.residuals k l);
      margins = λ m l. margin_above (own_problem D) m (p.margins m l);
    })
