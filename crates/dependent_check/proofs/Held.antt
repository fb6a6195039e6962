-- The check of two nets from what the check of the main net, held by value, and that of the dependent net say and leave.
--   short_solution, short_inverse — 8 of the main net by its limit lists
--   main_refused, dependent_refused, both_accepted — the contract, by what is said of each net
--   marks_few, guess_known — what the check of the dependent net asks of the main net;  limits_long, inverse_long — the arrays that hold its limits
use mathlib.Core.Path.{◌≡◌, sym, ap, ◌∙◌}
use mathlib.Core.Bool.{true, ◌||◌}
use mathlib.Core.List.{List, []}
use Prim.Native.Nat.{ℕ, ◌*◌, ◌/◌, ◌%◌, ◌≤◌, ◌<◌, ◌^◌}
use borrow.Author.Tests.{lt-ltb}
use lib.Dec.{lit≤}
use lib.ListN.{get_or, length, replicate}
use Rattle.linear.specs.Reach.{ColumnList}
use Rattle.linear.specs.Slice.{vector_of}
use Rattle.linear.specs.Written.{written}
use Rattle.linear.proofs.Written.{written_length, written_ext}
use Rattle.rules.specs.Range.{short_matrix, short_column}
use Rattle.rules.specs.Refusal.{code, Outcome}
use Rattle.std.specs.Prelude.{Ok, Err}
use Rattle.rules.specs.declared.Refusal.{Refusal}
use Rattle.rules.specs.declared.Refusal.TheVariants.{TooShort}
use Rattle.rules.proofs.Ranges.{or_right}
use Rattle.rules.proofs.Verdicts.{accepted_new, accepted_old}
use Rattle.enclosure.specs.Reckoning.{bound, inverse_bound}
use Rattle.check_spec.specs.Checked.{Checked}
use Rattle.check_spec.specs.Input.{Input, problem, short}
use Rattle.check_spec.specs.Order.{answer}
use Rattle.check_spec.proofs.Contract.{answer_short}
use Rattle.check_spec.proofs.Fit.{Fit}
use Rattle.check_spec.proofs.Written.{solution_written, inverse_written, accepted_fit, inverse_place, checked_fit, checked_solution}
use Rattle.dependent_spec.specs.declared.NetsRefusal.TheVariants.{Main, Dependent}
use Rattle.dependent_spec.specs.Nets.{Nets, dependent_by, dependent_of}
use Rattle.dependent_spec.specs.Order.{dependent_answer}
use Rattle.dependent_spec.specs.Checked.{DependentAs}
use Rattle.dependent_spec.specs.Together.{CheckedTogether}
use Rattle.dependent_spec.proofs.Contract.{together_main, together_dependent, together_accepted, lent, lent_answer}
use Rattle.dependent_spec.proofs.Limits.{dependent_same}

-- 8 by one of the two limit lists, which come last
by_limits : (I : Input) → short_column (length I.solution_bounds) || short_matrix (length I.inverse_bounds) ≡ true → short I ≡ true
by_limits I e =
    or_right (short_matrix (length I.matrix))
    (or_right (short_column (length I.right))
    (or_right (short_column (length I.tolerance))
    (or_right (short_column (length I.guess)) (or_right (short_matrix (length I.inverse)) (or_right (short_column (length I.weights)) e)))))

module _ (J : Nets) where
  too_short : short J.main ≡ true →
      CheckedTogether J (Err (Main TooShort)) J.main.solution_bounds J.main.inverse_bounds J.dependent.solution_bounds J.dependent.inverse_bounds
  too_short e = together_main J TooShort (sym (answer_short J.main e))

  pub short_solution : length J.main.solution_bounds < 32 →
      CheckedTogether J (Err (Main TooShort)) J.main.solution_bounds J.main.inverse_bounds J.dependent.solution_bounds J.dependent.inverse_bounds
  short_solution h = too_short (by_limits J.main (rw (lt-ltb _ _ h)))

  pub short_inverse : length J.main.inverse_bounds < 1024 →
      CheckedTogether J (Err (Main TooShort)) J.main.solution_bounds J.main.inverse_bounds J.dependent.solution_bounds J.dependent.inverse_bounds
  short_inverse h = too_short (by_limits J.main (or_right (short_column (length J.main.solution_bounds)) (lt-ltb _ _ h)))

  -- the main net's input, with limit lists of its own
  abbrev own : Input
  own = lent J.main (replicate 32 0) (replicate 1024 0)

  module _ (h : 32 ≤ length J.main.solution_bounds) (g : 1024 ≤ length J.main.inverse_bounds) {r : Outcome} {E L : List ℕ} (x : Checked own r E L) where
    code_main : code r ≡ answer J.main
    code_main = x.says ∙ lent_answer J.main (replicate 32 0) (replicate 1024 0) h g (lit≤ tt) (lit≤ tt)

    pub main_refused : (y : Refusal) → r ≡ Err y →
        CheckedTogether J (Err (Main y)) J.main.solution_bounds J.main.inverse_bounds J.dependent.solution_bounds J.dependent.inverse_bounds
    main_refused y e = together_main J y (ap code (sym e) ∙ code_main)

    module _ (e : r ≡ Ok tt) where
      main_accepted : answer J.main ≡ []
      main_accepted = sym code_main ∙ ap code e

      own_accepted : answer own ≡ []
      own_accepted = sym x.says ∙ ap code e

      fit : Fit J.main
      fit = accepted_fit J.main main_accepted

      pub marks_few : J.main.n ≤ 32
      marks_few = fit.n_max

      pub guess_known : ColumnList J.main.guess J.main.n (2 ^ 36)
      guess_known = fit.guess

      pub limits_long : length E ≡ 32
      limits_long = ap length (x.solution_bounds ∙ solution_written own own_accepted) ∙ written_length (replicate 32 0) 0 1 (bound (problem J.main)) J.main.n

      pub inverse_long : length L ≡ 1024
      inverse_long =
          ap length (x.inverse_bounds ∙ inverse_written own own_accepted)
          ∙ written_length (replicate 1024 0) 0 1 (λ (k : ℕ). inverse_bound (problem J.main) (k / J.main.n) (k % J.main.n)) (J.main.n * J.main.n)

      limit_is : (i : ℕ) → i < J.main.n → get_or E i 0 ≡ bound (problem J.main) i
      limit_is i l = checked_solution own r E L x (ap code e) i l

      inverse_is : (k : ℕ) → k < J.main.n * J.main.n → get_or L k 0 ≡ inverse_bound (problem J.main) (k / J.main.n) (k % J.main.n)
      inverse_is k l =
          rw (x.inverse_bounds ∙ inverse_written own own_accepted)
          (inverse_place own (checked_fit own r E L x (ap code e)) k l)

      module _ {q : Outcome} {K M : List ℕ}
          (y : DependentAs (dependent_by J.main.n J.main.s (vector_of J.main.guess) (λ (j : ℕ). get_or E j 0) J.coupling J.dependent) q K M) where
        z : DependentAs (dependent_of J) q K M
        z = dependent_same J.main.n J.main.s (vector_of J.main.guess) (λ (j : ℕ). get_or E j 0) (bound (problem J.main)) J.coupling J.dependent limit_is y

        pub dependent_refused : (w : Refusal) → q ≡ Err w → CheckedTogether J (Err (Dependent w)) J.main.solution_bounds J.main.inverse_bounds K M
        dependent_refused w f =
            let s : code (Err w) ≡ dependent_answer (dependent_of J) = ap code (sym f) ∙ z.says in
            rw (z.solution_bounds ∙ accepted_old _ _ (sym s), z.inverse_bounds ∙ accepted_old _ _ (sym s)) (together_dependent J w main_accepted s)

        pub both_accepted : q ≡ Ok tt → {A B : List ℕ} → A ≡ written J.main.solution_bounds 0 1 (λ (i : ℕ). get_or E i 0) J.main.n →
            B ≡ written J.main.inverse_bounds 0 1 (λ (i : ℕ). get_or L i 0) (J.main.n * J.main.n) → CheckedTogether J (Ok tt) A B K M
        both_accepted f {A} {B} a b =
            let s : dependent_answer (dependent_of J) ≡ [] = sym z.says ∙ ap code f in
            together_accepted J main_accepted s
            (a ∙ written_ext J.main.solution_bounds 0 1 (λ (i : ℕ). get_or E i 0) (bound (problem J.main)) J.main.n limit_is)
            (b ∙ written_ext J.main.inverse_bounds 0 1 (λ (i : ℕ). get_or L i 0) (λ (k : ℕ). inverse_bound (problem J.main) (k / J.main.n) (k % J.main.n)) (J.main.n * J.main.n) inverse_is)
            (z.solution_bounds ∙ accepted_new _ _ s) (z.inverse_bounds ∙ accepted_new _ _ s)
