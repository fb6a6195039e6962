-- A check on lists that passes 8 and 3, as work for the reckoning: its base is S·b, its slacks are S·d, and what is allowed is 2^25 less the slack and at most
-- the sum along the row; in the columns, which have no slack, it is at most that sum.
--   work_of I base allowed allowed_in_columns slacks — the work
--   Handed   — what the arrays hold;  workable — the reckoning may start on it
--   computed_checked — what the reckoning makes of it is the contract of the check
use mathlib.Core.Path.{◌≡◌, refl, sym, ap, ap₂, ◌∙◌}
use mathlib.Core.Bool.{true, false}
use mathlib.Core.List.{List}
use Prim.Native.Nat.{ℕ, ◌+◌, ◌<◌, ◌^◌}
use native.Mathlib.Omega.{arith}
use borrow.Author.Tests.{ltb-false}
use lib.Dec.{ltb}
use lib.IntN.{ℤ, pos, nat_abs, ◌*ℤ◌}
use lib.ListN.{get_or, length, replicate, get_or-replicate}
use Rattle.integer.proofs.Search.{first_ext}
use Rattle.linear.specs.Slice.{at}
use Rattle.linear.specs.Written.{written}
use Rattle.linear.proofs.Slack.{slack_ext}
use Rattle.linear.proofs.Written.{written_ext}
use Rattle.rules.proofs.Ranges.{neither_left}
use Rattle.rules.specs.Refusal.{Outcome}
use Rattle.enclosure.specs.Reckoning.{margin, load, defect, residual, slack, allowed_residual, row_sum, exceeds, magnitudes_with, bound_with, bound}
use Rattle.enclosure.proofs.Bounds.{bound_ext}
use Rattle.check_arrays.specs.Arrays.{PrefixIs}
use Rattle.check_arrays.specs.Parts.{above_allowed}
use Rattle.check_arrays.proofs.Magnitudes.{scaled_magnitude}
use Rattle.check_allowances.specs.Sum.{row_sum_of}
use Rattle.check_allowances.specs.Allowed.{slack_at, allowed_beside}
use Rattle.check_allowances.proofs.Allowed.{allowed_magnitude, allowed_test}
use Rattle.check_spec.specs.Checked.{Checked}
use Rattle.check_spec.specs.Input.{Input, problem, short, in_ranges}
use Rattle.check_spec.specs.Order.{checked_of}
use Rattle.check_spec.proofs.Contract.{checked_ready}
use Rattle.check_spec.proofs.Fit.{Fit, fit_of}
use Rattle.check_lists.specs.Work.{Work, work, work_problem, work_residual, work_slack, work_answer, Workable, ComputedAs}

abbrev pub work_of : Input → List ℤ → List ℤ → List ℤ → List ℕ → Work
work_of I base allowed allowed_in_columns slacks =
    work I.n I.t I.matrix base allowed allowed_in_columns slacks I.guess I.inverse I.weights I.solution_bounds I.inverse_bounds

pub record Handed (I : Input) (b a c : List ℤ) (σ w : List ℕ) : Type 0 where
  pub base_long : length b ≡ 32
  pub base : PrefixIs (pos 0) b I.n (λ (k : ℕ). pos (2 ^ I.s) *ℤ at I.right k)
  pub allowed_long : length a ≡ 32
  pub allowed : PrefixIs (pos 0) a I.n (λ (k : ℕ). allowed_beside (get_or σ k 0) (get_or w k 0))
  pub in_columns_long : length c ≡ 32
  pub in_columns : PrefixIs (pos 0) c I.n (λ (k : ℕ). allowed_beside (get_or (replicate 32 0) k 0) (get_or w k 0))
  pub sums : PrefixIs 0 w I.n (row_sum_of I.n I.matrix)
  pub slacks : PrefixIs 0 σ I.n (λ (k : ℕ). slack_at I.s (at I.tolerance k))

module _ (I : Input) {base allowed columns : List ℤ} {slacks sums : List ℕ} (e : short I ≡ false) (f : in_ranges I ≡ true) (h : Handed I base allowed columns slacks sums) where
  abbrev W : Work
  W = work_of I base allowed columns slacks

  fit : Fit I
  fit = fit_of I e f

  -- the sums along the rows are the problem's
  sum_is : (k : ℕ) → k < I.n → get_or sums k 0 ≡ row_sum (problem I) k
  unfolding row_sum
  sum_is k l = h.sums.each k l

  pub workable : Workable W
  unfolding row_sum
  workable = record {
    n_pos = fit.n_pos;
    n_max = fit.n_max;
    inverse_scale = fit.inverse_scale;
    matrix = fit.matrix;
    base = record {
      long = omega (arith, h.base_long, fit.n_max);
      within = record { magnitudes = λ k l. rw (h.base.each k l) (omega (arith, scaled_magnitude I.s (at I.right k) fit.solution_scale (fit.right.within.magnitudes k l))) };
    };
    allowed = record { long = omega (arith, h.allowed_long, fit.n_max); within = record { magnitudes = λ k l. rw (h.allowed.each k l) (allowed_magnitude (get_or slacks k 0) (get_or sums k 0)) } };
    room = λ k l z p. ltb-false allowed_residual (nat_abs z + get_or slacks k 0)
        (neither_left _ (ltb (get_or sums k 0) (nat_abs z)) (sym (allowed_test (get_or slacks k 0) (get_or sums k 0) z) ∙ (rw (h.allowed.each k l) at p)));
    in_columns = record {
      long = omega (arith, h.in_columns_long, fit.n_max);
      within = record { magnitudes = λ k l. rw (h.in_columns.each k l) (allowed_magnitude (get_or (replicate 32 0) k 0) (get_or sums k 0)) };
    };
    column_rule = λ k l. h.in_columns.each k l ∙ ap₂ allowed_beside (get_or-replicate 32 k 0 0 (omega (arith, fit.n_max))) (sum_is k l);
    guess = fit.guess;
    inverse = fit.inverse;
    weights = fit.weights;
    solution_long = fit.solution_long;
    inverse_long = fit.inverse_long;
  }

  -- the residuals and the slacks are the problem's
  residual_is : (k : ℕ) → k < I.n → work_residual W k ≡ residual (problem I) k
  unfolding residual
  residual_is k l = rw (h.base.each k l)

  exceeds_is : (k : ℕ) → k < I.n → above_allowed (at allowed k) (work_residual W k) ≡ exceeds (problem I) k
  unfolding exceeds
  exceeds_is k l =
      ap (λ (a : ℤ). above_allowed a (work_residual W k)) (h.allowed.each k l) ∙ allowed_test (get_or slacks k 0) (get_or sums k 0) (work_residual W k)
      ∙ rw (residual_is k l, h.slacks.each k l, sum_is k l)

  answer_is : work_answer W ≡ checked_of (problem I)
  unfolding margin load defect exceeds row_sum residual
  answer_is = rw (first_ext I.n (λ (k : ℕ). above_allowed (at allowed k) (work_residual W k)) (exceeds (problem I)) exceeds_is)

  bound_is : (i : ℕ) → bound_with (work_problem W) (work_residual W) (work_slack W) i ≡ bound (problem I) i
  unfolding bound bound_with magnitudes_with margin load defect
  bound_is i =
      bound_ext I.n _ _ _ _ _ i
      (λ m l. slack_ext I.n (problem I).G (problem I).G (work_residual W) (residual (problem I)) (work_slack W) (slack (problem I)) m (λ j lj. refl) residual_is h.slacks.each)
      (λ m l. refl)

  solution_is : written I.solution_bounds 0 1 (bound_with (work_problem W) (work_residual W) (work_slack W)) I.n ≡ written I.solution_bounds 0 1 (bound (problem I)) I.n
  solution_is = written_ext I.solution_bounds 0 1 (bound_with (work_problem W) (work_residual W) (work_slack W)) (bound (problem I)) I.n (λ i l. bound_is i)

  pub computed_checked : {r : Outcome} {E L : List ℕ} → ComputedAs W r E L → Checked I r E L
  computed_checked {r} {E} {L} x =
      checked_ready I e f (x.says ∙ answer_is) (rw (answer_is, solution_is) at x.solution_bounds)
      (unfold bound bound_with magnitudes_with residual margin load defect in rw answer_is at x.inverse_bounds)
