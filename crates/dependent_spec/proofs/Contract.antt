-- The contract of the check of two nets, case by case.
--   together_main — the main net is refused;  together_dependent — the dependent net is;  together_accepted — neither
--   lent_answer  — a check on lists into other limit lists that are long enough says the same
use mathlib.Core.Path.{◌≡◌, sym, ◌∙◌}
use mathlib.Core.List.{List, [], ◌∷◌}
use Prim.Native.Nat.{ℕ, ◌+◌, ◌*◌, ◌/◌, ◌%◌, ◌≤◌}
use native.Mathlib.Omega.{arith}
use borrow.Author.Tests.{eqb-true, le-ltb}
use lib.ListN.{get_or, length}
use Rattle.linear.specs.Written.{written}
use Rattle.linear.proofs.Places.{place, square, place_column, place_row}
use Rattle.linear.proofs.Written.{front_at}
use Rattle.rules.specs.Refusal.{code, number_of, values_of}
use Rattle.std.specs.Prelude.{Err, Ok}
use Rattle.rules.specs.declared.Refusal.{Refusal}
use Rattle.rules.proofs.Ranges.{both_left, both_right}
use Rattle.rules.proofs.Verdicts.{accepted_new, accepted_old, nothing_is_not}
use Rattle.enclosure.specs.Reckoning.{bound, inverse_bound}
use Rattle.check_spec.specs.Input.{Input, input, problem, in_ranges}
use Rattle.check_spec.specs.Order.{answer}
use Rattle.check_spec.specs.Stated.{Usable}
use Rattle.check_spec.proofs.Contract.{answer_ready, code_sound, written_encloses}
use Rattle.check_spec.proofs.Fit.{Fit, fit_of}
use Rattle.check_spec.proofs.Statements.{accepted_usable}
use Rattle.dependent_spec.specs.declared.NetsRefusal.TheVariants.{Main, Dependent}
use Rattle.dependent_spec.specs.Nets.{Nets, dependent_of}
use Rattle.dependent_spec.specs.Reckoning.{dependent_bound}
use Rattle.dependent_spec.specs.Order.{dependent_answer, joint_answer}
use Rattle.dependent_spec.specs.Together.{CheckedTogether}
use Rattle.dependent_spec.proofs.Joint.{encloses_both, encloses_both_as}
use Rattle.dependent_spec.proofs.Statements.{own_fit, Passed, passed_of, joint_main, joint_dependent, joint_accepted}

module _ (J : Nets) where
  pub together_main : (x : Refusal) → code (Err x) ≡ answer J.main →
      CheckedTogether J (Err (Main x)) J.main.solution_bounds J.main.inverse_bounds J.dependent.solution_bounds J.dependent.inverse_bounds
  together_main x e =
      let j : joint_answer J ≡ 1 ∷ number_of x ∷ values_of x = joint_main J (sym e) in
      record {
        says = sym j;
        main_solution = sym (accepted_old _ _ j);
        main_inverse = sym (accepted_old _ _ j);
        dependent_solution = sym (accepted_old _ _ j);
        dependent_inverse = sym (accepted_old _ _ j);
        encloses = λ n. absurd (nothing_is_not n);
      }

  pub together_dependent : (x : Refusal) → answer J.main ≡ [] → code (Err x) ≡ dependent_answer (dependent_of J) →
      CheckedTogether J (Err (Dependent x)) J.main.solution_bounds J.main.inverse_bounds J.dependent.solution_bounds J.dependent.inverse_bounds
  together_dependent x e f =
      let j : joint_answer J ≡ 2 ∷ number_of x ∷ values_of x = joint_dependent J e (sym f) in
      record {
        says = sym j;
        main_solution = sym (accepted_old _ _ j);
        main_inverse = sym (accepted_old _ _ j);
        dependent_solution = sym (accepted_old _ _ j);
        dependent_inverse = sym (accepted_old _ _ j);
        encloses = λ n. absurd (nothing_is_not n);
      }

  -- n and s of both nets, and their weights, where both are accepted
  module _ (e : answer J.main ≡ []) (f : dependent_answer (dependent_of J) ≡ []) where
    usable : Usable J.main
    usable = accepted_usable J.main e

    fit₁ : Fit J.main
    fit₁ = fit_of J.main usable.long usable.inside

    passed : Passed (dependent_of J)
    passed = passed_of (dependent_of J) f

    fit₂ : Fit J.dependent
    fit₂ = own_fit (dependent_of J) passed.usable

    one_scale : J.main.s ≡ J.dependent.s
    one_scale = sym (eqb-true J.dependent.s J.main.s (both_left _ _ (both_right (in_ranges J.dependent) _ passed.usable.inside)))

    pub together_accepted : {E₁ L₁ E₂ L₂ : List ℕ} →
        E₁ ≡ written J.main.solution_bounds 0 1 (bound (problem J.main)) J.main.n →
        L₁ ≡ written J.main.inverse_bounds 0 1 (λ (k : ℕ). inverse_bound (problem J.main) (k / J.main.n) (k % J.main.n)) (J.main.n * J.main.n) →
        E₂ ≡ written J.dependent.solution_bounds 0 1 (dependent_bound (dependent_of J)) J.dependent.n →
        L₂ ≡ written J.dependent.inverse_bounds 0 1 (λ (k : ℕ). inverse_bound (problem J.dependent) (k / J.dependent.n) (k % J.dependent.n)) (J.dependent.n * J.dependent.n) →
        CheckedTogether J (Ok tt) E₁ L₁ E₂ L₂
    together_accepted {E₁} {L₁} {E₂} {L₂} h₁ g₁ h₂ g₂ =
        let j : joint_answer J ≡ [] = joint_accepted J e f in
        let n : ℕ = J.dependent.n in
        let margins = (code_sound (problem J.main) (sym (answer_ready J.main usable.long usable.inside) ∙ e)).margins in
        record {
          says = sym j;
          main_solution = h₁ ∙ sym (accepted_new _ _ j);
          main_inverse = g₁ ∙ sym (accepted_new _ _ j);
          dependent_solution = h₂ ∙ sym (accepted_new _ _ j);
          dependent_inverse = g₂ ∙ sym (accepted_new _ _ j);
          encloses = λ z.
              encloses_both_as J (bound (problem J.main)) (λ (i : ℕ). get_or E₁ i 0) (inverse_bound (problem J.main)) (λ (i j : ℕ). get_or L₁ (i * J.main.n + j) 0)
              (dependent_bound (dependent_of J)) (λ (i : ℕ). get_or E₂ i 0) (inverse_bound (problem J.dependent)) (λ (i j : ℕ). get_or L₂ (i * n + j) 0)
              (written_encloses J.main usable.long usable.inside h₁ g₁ margins)
              (λ i l. rw h₁ (front_at J.main.solution_bounds (bound (problem J.main)) 0 J.main.n i l (omega (arith, fit₁.n_max, fit₁.solution_long))))
              (λ i l. rw h₂ (front_at J.dependent.solution_bounds (dependent_bound (dependent_of J)) 0 n i l (omega (arith, fit₂.n_max, fit₂.solution_long))))
              (λ i j li lj. rw g₂ (front_at J.dependent.inverse_bounds (λ (k : ℕ). inverse_bound (problem J.dependent) (k / n) (k % n)) 0 (n * n) (i * n + j) (place li lj)
              (omega (arith, square fit₂.n_max, fit₂.inverse_long)) ∙ rw (place_column i j n lj, place_row i j n lj)))
              (encloses_both J one_scale fit₁.heavy fit₂.heavy margins passed.margins);
        }

-- ---- a check on lists into other limit lists
abbrev pub lent : Input → List ℕ → List ℕ → Input
lent I E L = input I.n I.s I.t I.matrix I.right I.tolerance I.guess I.inverse I.weights E L

pub lent_answer : (I : Input) (E L : List ℕ) → 32 ≤ length I.solution_bounds → 1024 ≤ length I.inverse_bounds → 32 ≤ length E → 1024 ≤ length L →
    answer (lent I E L) ≡ answer I
unfolding answer
lent_answer I E L h g h' g' = rw (le-ltb (length E) 32 h', le-ltb (length L) 1024 g', le-ltb (length I.solution_bounds) 32 h, le-ltb (length I.inverse_bounds) 1024 g)
