-- The rest of each list is neither read nor written by a call of the check of two nets (specs/Agree).
--   same_together — two calls that agree on the places used say the same, and where nothing is said write the same
--   rest_kept     — what stands past these places in the four limit lists is as before, whatever is said
use mathlib.Core.Path.{◌≡◌, sym, ◌∙◌, subst}
use mathlib.Core.List.{List, []}
use Prim.Native.Nat.{ℕ, ◌*◌, ◌/◌, ◌%◌, ◌<◌}
use native.Mathlib.Omega.{arith}
use native.Mathlib.Nat.{mod-lt, div-lt_iff_lt-mul}
use Rattle.linear.specs.Written.{written}
use Rattle.linear.proofs.Places.{square}
use Rattle.linear.proofs.Written.{same_written}
use Rattle.rules.specs.Order.{if_accepted}
use Rattle.rules.proofs.Verdicts.{accepted_new}
use Rattle.enclosure.specs.Reckoning.{bound, inverse_bound}
use Rattle.check_spec.specs.Input.{Input, problem}
use Rattle.check_spec.specs.Agree.{Agree}
use Rattle.check_spec.proofs.Agreed.{like, like_bound, like_inverse}
use Rattle.check_spec.proofs.Fit.{Fit, fit_of}
use Rattle.check_spec.proofs.Lengths.{long_of}
use Rattle.check_spec.proofs.Statements.{accepted_usable}
use Rattle.check_spec.proofs.Written.{past_kept}
use Rattle.dependent_spec.specs.Order.{CheckedNets, joint_answer, nets_code}
use Rattle.dependent_spec.specs.Nets.{Nets, dependent_of}
use Rattle.dependent_spec.specs.Reckoning.{dependent_bound}
use Rattle.dependent_spec.specs.Together.{CheckedTogether}
use Rattle.dependent_spec.specs.Agree.{AgreeingNets, SameTogether, SameRest, RestKept}
use Rattle.dependent_spec.proofs.Same.{K', K'_is, joint_alike, bound_alike}
use Rattle.dependent_spec.proofs.Largest.{joint_none}
use Rattle.dependent_spec.proofs.Statements.{passed_of, own_fit}

-- ---- one list
same_rest : (w : List ℕ) (n : ℕ) (xs : List ℕ) (f : ℕ → ℕ) {zs : List ℕ} → zs ≡ if_accepted w (written xs 0 1 f n) xs → SameRest n zs xs
same_rest w n xs f p i l = rw p (past_kept 0 w n xs f i l)

-- the limits of the inverse, place by place
inverse_places : (I J : Input) (a : Agree I J) → 0 < I.n → (k : ℕ) → k < I.n * I.n →
    inverse_bound (problem I) (k / I.n) (k % I.n) ≡ inverse_bound (problem (like I J a)) (k / I.n) (k % I.n)
inverse_places I J a n_pos k l = like_inverse I J a (k / I.n) (k % I.n) ((div-lt_iff_lt-mul n_pos).1 l) (mod-lt k n_pos)

pub same_together : (J K : Nets) → AgreeingNets J K → {r r' : CheckedNets} {E₁ L₁ E₂ L₂ E₁' L₁' E₂' L₂' : List ℕ} →
    CheckedTogether J r E₁ L₁ E₂ L₂ → CheckedTogether K r' E₁' L₁' E₂' L₂' → SameTogether J r r' E₁ L₁ E₂ L₂ E₁' L₁' E₂' L₂'
same_together J K a {r} {r'} {E₁} {L₁} {E₂} {L₂} {E₁'} {L₁'} {E₂'} {L₂'} c d = record {
  says = c.says ∙ joint_alike J K a ∙ sym d'.says;
  main_solution = λ z.
      let f = fit₁ z in
      same_written 0 n₁ J.main.solution_bounds K.main.solution_bounds (bound (problem J.main)) (bound (problem (K' J K a).main))
      (omega (arith, f.n_max, f.solution_long)) (omega (arith, f.n_max, (long_of K.main a.main.long').solution)) (like_bound J.main K.main a.main)
      (c.main_solution ∙ accepted_new _ _ (none z)) (d'.main_solution ∙ accepted_new _ _ (none' z));
  main_inverse = λ z.
      let f = fit₁ z in
      same_written 0 (n₁ * n₁) J.main.inverse_bounds K.main.inverse_bounds _ _
      (omega (arith, square f.n_max, f.inverse_long)) (omega (arith, square f.n_max, (long_of K.main a.main.long').inverses)) (inverse_places J.main K.main a.main f.n_pos)
      (c.main_inverse ∙ accepted_new _ _ (none z)) (d'.main_inverse ∙ accepted_new _ _ (none' z));
  dependent_solution = λ z.
      let f = fit₂ z in
      same_written 0 n₂ J.dependent.solution_bounds K.dependent.solution_bounds (dependent_bound (dependent_of J)) (dependent_bound (dependent_of (K' J K a)))
      (omega (arith, f.n_max, f.solution_long)) (omega (arith, f.n_max, (long_of K.dependent a.dependent.long').solution)) (bound_alike J K a)
      (c.dependent_solution ∙ accepted_new _ _ (none z)) (d'.dependent_solution ∙ accepted_new _ _ (none' z));
  dependent_inverse = λ z.
      let f = fit₂ z in
      same_written 0 (n₂ * n₂) J.dependent.inverse_bounds K.dependent.inverse_bounds _ _
      (omega (arith, square f.n_max, f.inverse_long)) (omega (arith, square f.n_max, (long_of K.dependent a.dependent.long').inverses))
      (inverse_places J.dependent K.dependent a.dependent f.n_pos)
      (c.dependent_inverse ∙ accepted_new _ _ (none z)) (d'.dependent_inverse ∙ accepted_new _ _ (none' z));
}
  where
    n₁ : ℕ
    n₁ = J.main.n

    n₂ : ℕ
    n₂ = J.dependent.n

    d' : CheckedTogether (K' J K a) r' E₁' L₁' E₂' L₂'
    d' = subst (λ (X : Nets). CheckedTogether X r' E₁' L₁' E₂' L₂') (sym (K'_is J K a)) d

    none : nets_code r ≡ [] → joint_answer J ≡ []
    none z = sym c.says ∙ z

    none' : nets_code r ≡ [] → joint_answer (K' J K a) ≡ []
    none' z = sym (joint_alike J K a) ∙ none z

    fit₁ : nets_code r ≡ [] → Fit J.main
    fit₁ z = let u = accepted_usable J.main (joint_none J (none z)).0 in fit_of J.main u.long u.inside

    fit₂ : nets_code r ≡ [] → Fit J.dependent
    fit₂ z = own_fit (dependent_of J) (passed_of (dependent_of J) (joint_none J (none z)).1).usable

pub rest_kept : (J : Nets) {r : CheckedNets} {E₁ L₁ E₂ L₂ : List ℕ} → CheckedTogether J r E₁ L₁ E₂ L₂ → RestKept J E₁ L₁ E₂ L₂
rest_kept J c = record {
  main_solution = same_rest (joint_answer J) J.main.n J.main.solution_bounds _ c.main_solution;
  main_inverse = same_rest (joint_answer J) (J.main.n * J.main.n) J.main.inverse_bounds _ c.main_inverse;
  dependent_solution = same_rest (joint_answer J) J.dependent.n J.dependent.solution_bounds _ c.dependent_solution;
  dependent_inverse = same_rest (joint_answer J) (J.dependent.n * J.dependent.n) J.dependent.inverse_bounds _ c.dependent_inverse;
}
