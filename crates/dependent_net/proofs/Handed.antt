-- A dependent net that passes 8 and 3, as work for the reckoning: its base is S·b2 − C·X1, its slacks are |C|·E1, each limit capped, and S·d2, and what is
-- allowed is 2^25 less the slack; in the columns it is the sum along the row.
--   coupling_list, scaled_list, own_slacks — magnitudes of C, S·b2 and S·d2
--   HandedDependent — what the arrays hold;  workable — the reckoning may start on it
--   computed_dependent — what the reckoning makes of it is the contract of the check
use mathlib.Core.Path.{◌≡◌, refl, sym, ap, ap₂, ◌∙◌}
use mathlib.Core.Bool.{Bool, true, false, ◌||◌}
use mathlib.Core.List.{List, [], ◌∷◌}
use Prim.Native.Nat.{ℕ, ◌+◌, ◌*◌, ◌≤◌, ◌<◌, ◌^◌}
use native.Mathlib.Omega.{arith}
use native.Mathlib.Nat.{mul-le-mul_right}
use borrow.Author.Tests.{ltb-true, ltb-false}
use lib.Dec.{eqb, ltb}
use lib.IntN.{ℤ, pos, nat_abs, ◌*ℤ◌}
use lib.ListN.{get_or, length, replicate, get_or-replicate}
use Rattle.integer.proofs.Search.{first_ext}
use Rattle.linear.specs.Reach.{ColumnList}
use Rattle.linear.specs.Slice.{at, vector_of}
use Rattle.linear.specs.Written.{written}
use Rattle.linear.proofs.Places.{row_reach}
use Rattle.linear.proofs.Slack.{slack_ext}
use Rattle.linear.proofs.Written.{written_ext}
use Rattle.rules.specs.Order.{if_accepted}
use Rattle.rules.specs.Range.{all_in_range}
use Rattle.rules.specs.declared.Kind.TheVariants as kind
use Rattle.rules.specs.Refusal.{Outcome}
use Rattle.rules.proofs.AllInRange.{all_at}
use Rattle.rules.proofs.Ranges.{both_right, matrix_range, neither_left}
use Rattle.enclosure.specs.Reckoning.{margin, load, defect, residual, slack, allowed_residual, row_sum, exceeds, magnitudes_with, bound_with, bound}
use Rattle.enclosure.proofs.Bounds.{bound_ext}
use Rattle.check_arrays.specs.Arrays.{PrefixIs}
use Rattle.check_arrays.specs.Parts.{residual_from, above_allowed}
use Rattle.check_arrays.proofs.Magnitudes.{scaled_magnitude}
use Rattle.check_allowances.specs.Sum.{row_sum_of}
use Rattle.check_allowances.specs.Allowed.{slack_at, allowed_beside}
use Rattle.check_allowances.proofs.Allowed.{slack_magnitude, allowed_magnitude, allowed_test}
use Rattle.check_spec.specs.Input.{Input, in_ranges}
use Rattle.check_spec.proofs.Fit.{Fit}
use Rattle.check_lists.specs.Work.{Work, work, work_problem, work_residual, work_slack, work_answer, Workable, ComputedAs}
use Rattle.dependent_spec.specs.Nets.{DependentNet, dependent_by, coupling_of}
use Rattle.dependent_spec.specs.Reckoning.{own_problem, dependent_residual, dependent_slack, dependent_exceeds, dependent_bound}
use Rattle.dependent_spec.specs.Order.{dependent_computed, dependent_answer}
use Rattle.dependent_spec.specs.Stated.{UsableDependent}
use Rattle.dependent_spec.specs.Checked.{DependentAs}
use Rattle.dependent_spec.proofs.Statements.{answer_ready, own_fit, passed_of}
use Rattle.dependent_coupling.specs.Carried.{capped_sum}
use Rattle.dependent_coupling.proofs.Cap.{capped_test, capped_where}
use Rattle.dependent_coupling.proofs.Rows.{base_magnitude}

-- a magnitude above what is allowed is so with its slack
absorbed : (c z y : ℕ) → ltb c (z + y) || ltb c z ≡ ltb c (z + y)
absorbed c z y = go (ltb c z) refl (ltb c (z + y)) refl
  where
    go : (a : Bool) → ltb c z ≡ a → (b : Bool) → ltb c (z + y) ≡ b → b || a ≡ b
    go false e false f = refl
    go false e true f = refl
    go true e true f = refl
    go true e false f = let x : c < z = ltb-true c z e in let h : z + y ≤ c = ltb-false c (z + y) f in absurd (omega arith)

-- the arrays: S·b2, the base, S·d2, the slacks, what is allowed, the sums along the rows, what is allowed in the columns
pub record HandedDependent (marks : ℕ) (guess : List ℤ) (limits : List ℕ) (coupling : List ℤ) (I : Input) (p b : List ℤ) (τ σ : List ℕ) (a : List ℤ) (w : List ℕ) (c : List ℤ) : Type 0 where
  pub scaled_long : length p ≡ 32
  pub scaled : PrefixIs (pos 0) p I.n (λ (k : ℕ). pos (2 ^ I.s) *ℤ at I.right k)
  pub base_long : length b ≡ 32
  pub base : PrefixIs (pos 0) b I.n (residual_from marks p coupling guess)
  pub own : PrefixIs 0 τ I.n (λ (k : ℕ). slack_at I.s (at I.tolerance k))
  pub slacks : PrefixIs 0 σ I.n (λ (k : ℕ). capped_sum marks coupling limits k + get_or τ k 0)
  pub allowed_long : length a ≡ 32
  pub allowed : PrefixIs (pos 0) a I.n (λ (k : ℕ). allowed_beside (get_or σ k 0) (get_or (replicate 32 allowed_residual) k 0))
  pub sums : PrefixIs 0 w I.n (row_sum_of I.n I.matrix)
  pub in_columns_long : length c ≡ 32
  pub in_columns : PrefixIs (pos 0) c I.n (λ (k : ℕ). allowed_beside (get_or (replicate 32 0) k 0) (get_or w k 0))

-- C, as far as it is used
pub coupling_list : (marks : ℕ) (coupling : List ℤ) (n : ℕ) → n ≤ 32 → marks ≤ 32 → 1024 ≤ length coupling → all_in_range kind.Matrix (n * marks) (at coupling) ≡ true →
    ColumnList coupling (n * marks) (2 ^ 20)
coupling_list marks coupling n n_max m long e = record {
  long = omega (arith, mul-le-mul_right marks n_max);
  within = record { magnitudes = λ k l. matrix_range (at coupling k) (all_at kind.Matrix (n * marks) (at coupling) e k l) };
}

-- S·b2 and S·d2
pub scaled_list : (I : Input) → Fit I → {p : List ℤ} → length p ≡ 32 → PrefixIs (pos 0) p I.n (λ (k : ℕ). pos (2 ^ I.s) *ℤ at I.right k) → ColumnList p I.n (2 ^ 50)
scaled_list I fit {p} long h = record {
  long = omega (arith, fit.n_max);
  within = record { magnitudes = λ k l. rw (h.each k l) (scaled_magnitude I.s (at I.right k) fit.solution_scale (fit.right.within.magnitudes k l)) };
}

pub own_slacks : (I : Input) → Fit I → {τ : List ℕ} → PrefixIs 0 τ I.n (λ (k : ℕ). slack_at I.s (at I.tolerance k)) → (k : ℕ) → k < I.n → get_or τ k 0 ≤ 2 ^ 40
own_slacks I fit {τ} h k l = rw (h.each k l) (slack_magnitude I.s (at I.tolerance k) fit.solution_scale (fit.tolerance.within.magnitudes k l))

module _ (marks s₁ : ℕ) (guess : List ℤ) (limits : List ℕ) (coupling : List ℤ) (I : Input) where
  abbrev D : DependentNet
  D = dependent_by marks s₁ (vector_of guess) (λ j. get_or limits j 0) coupling I

  module _ (n_max : marks ≤ 32) (known : ColumnList guess marks (2 ^ 36)) (u : UsableDependent D)
      {p b a c : List ℤ} {τ σ w : List ℕ} (h : HandedDependent marks guess limits coupling I p b τ σ a w c) where
    abbrev W : Work
    W = work I.n I.t I.matrix b a c σ I.guess I.inverse I.weights I.solution_bounds I.inverse_bounds

    fit : Fit I
    fit = own_fit D u

    coupled : ColumnList coupling (I.n * marks) (2 ^ 20)
    coupled =
        coupling_list marks coupling I.n fit.n_max n_max (ltb-false (length coupling) 1024 (neither_left _ _ u.long))
        (both_right (eqb I.s s₁) _ (both_right (in_ranges I) _ u.inside))

    sum_is : (k : ℕ) → k < I.n → get_or w k 0 ≡ row_sum (own_problem D) k
    unfolding row_sum
    sum_is k l = h.sums.each k l

    -- 2^25 in every row
    alone : (k : ℕ) → k < I.n → get_or (replicate 32 allowed_residual) k 0 ≡ allowed_residual
    alone k l = get_or-replicate 32 k allowed_residual 0 (omega (arith, fit.n_max))

    allowed_is : (k : ℕ) → k < I.n → (z : ℤ) → above_allowed (at a k) z ≡ ltb allowed_residual (nat_abs z + get_or σ k 0)
    allowed_is k l z =
        rw (h.allowed.each k l, alone k l) (allowed_test (get_or σ k 0) allowed_residual z ∙ absorbed allowed_residual (nat_abs z) (get_or σ k 0))

    pub workable : Workable W
    unfolding row_sum
    workable = record {
      n_pos = fit.n_pos;
      n_max = fit.n_max;
      inverse_scale = fit.inverse_scale;
      matrix = fit.matrix;
      base = record {
        long = omega (arith, h.base_long, fit.n_max);
        within = record {
          magnitudes = λ k l. rw (h.base.each k l)
              (base_magnitude k p coupling guess n_max ((scaled_list I fit h.scaled_long h.scaled).within.magnitudes k l) (row_reach coupled k l) known);
        };
      };
      allowed = record { long = omega (arith, h.allowed_long, fit.n_max); within = record { magnitudes = λ k l. rw (h.allowed.each k l) (allowed_magnitude (get_or σ k 0) _) } };
      room = λ k l z e. ltb-false allowed_residual (nat_abs z + get_or σ k 0) (sym (allowed_is k l z) ∙ e);
      in_columns = record {
        long = omega (arith, h.in_columns_long, fit.n_max);
        within = record { magnitudes = λ k l. rw (h.in_columns.each k l) (allowed_magnitude (get_or (replicate 32 0) k 0) (get_or w k 0)) };
      };
      column_rule = λ k l. h.in_columns.each k l ∙ ap₂ allowed_beside (get_or-replicate 32 k 0 0 (omega (arith, fit.n_max))) (sum_is k l);
      guess = fit.guess;
      inverse = fit.inverse;
      weights = fit.weights;
      solution_long = fit.solution_long;
      inverse_long = fit.inverse_long;
    }

    -- the residuals are the net's
    residual_is : (k : ℕ) → k < I.n → work_residual W k ≡ dependent_residual D k
    unfolding dependent_residual
    residual_is k l = rw (h.base.each k l, h.scaled.each k l)

    -- the slack as the code has it
    slack_here : (k : ℕ) → k < I.n → get_or σ k 0 ≡ capped_sum marks coupling limits k + slack (own_problem D) k
    slack_here k l = rw (h.slacks.each k l, h.own.each k l)

    exceeds_is : (k : ℕ) → k < I.n → above_allowed (at a k) (work_residual W k) ≡ dependent_exceeds D k
    unfolding dependent_slack
    exceeds_is k l =
        allowed_is k l (work_residual W k)
        ∙ rw (residual_is k l, slack_here k l)
        (capped_test marks allowed_residual (λ j. nat_abs (coupling_of D k j)) D.E₁ (nat_abs (dependent_residual D k)) (slack (own_problem D) k))

    answer_is : work_answer W ≡ dependent_computed D
    unfolding margin load defect exceeds row_sum residual
    answer_is = rw (first_ext I.n (λ (k : ℕ). above_allowed (at a k) (work_residual W k)) (dependent_exceeds D) exceeds_is)

    -- where 6 is not said, the slack is the exact one
    slack_is : dependent_computed D ≡ [] → (k : ℕ) → k < I.n → work_slack W k ≡ dependent_slack D k
    unfolding dependent_slack
    slack_is e k l =
        slack_here k l
        ∙ ap (λ (x : ℕ). x + slack (own_problem D) k)
        (capped_where marks allowed_residual (λ j. nat_abs (coupling_of D k j)) D.E₁ (nat_abs (dependent_residual D k)) (slack (own_problem D) k)
        ((passed_of D (answer_ready D u.long u.inside ∙ e)).residuals k l))

    bound_is : dependent_computed D ≡ [] → (i : ℕ) → bound_with (work_problem W) (work_residual W) (work_slack W) i ≡ dependent_bound D i
    unfolding bound_with magnitudes_with margin load defect
    bound_is e i =
        bound_ext I.n _ _ _ _ _ i
        (λ m l. slack_ext I.n (own_problem D).G (own_problem D).G (work_residual W) (dependent_residual D) (work_slack W) (dependent_slack D) m (λ j lj. refl) residual_is (slack_is e))
        (λ m l. refl)

    solution_is : (l : List ℕ) → dependent_computed D ≡ l →
        if_accepted l (written I.solution_bounds 0 1 (bound_with (work_problem W) (work_residual W) (work_slack W)) I.n) I.solution_bounds
        ≡ if_accepted l (written I.solution_bounds 0 1 (dependent_bound D) I.n) I.solution_bounds
    solution_is [] e = written_ext I.solution_bounds 0 1 (bound_with (work_problem W) (work_residual W) (work_slack W)) (dependent_bound D) I.n (λ i l. bound_is e i)
    solution_is (k ∷ ks) e = refl

    pub computed_dependent : {r : Outcome} {E L : List ℕ} → ComputedAs W r E L → DependentAs D r E L
    computed_dependent {r} {E} {L} x =
        let y : dependent_answer D ≡ dependent_computed D = answer_ready D u.long u.inside in
        record {
          says = x.says ∙ (answer_is ∙ sym y);
          solution_bounds = rw y ((rw answer_is at x.solution_bounds) ∙ solution_is (dependent_computed D) refl);
          inverse_bounds = rw y (unfold bound bound_with magnitudes_with residual margin load defect in rw answer_is at x.inverse_bounds);
        }
