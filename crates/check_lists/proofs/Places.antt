-- The first rows that are refused, from what the arrays hold, and what holds where none is.
--   first_margin_lem, first_residual_lem, first_column — the code's searches are the definition's
--   positive, near, near_columns — where none is found: every margin is above 0, every residual with its slack at most 2^25 in absolute value, and every residual of a column
use mathlib.Core.Path.{◌≡◌, refl, sym, ap, ◌∙◌}
use mathlib.Core.Bool.{Bool, false, ◌||◌}
use mathlib.Core.List.{List}
use Prim.Native.Nat.{ℕ, zero, suc, ◌+◌, ◌*◌, ◌/◌, ◌%◌, ◌≤◌, ◌<◌}
use native.Mathlib.Omega.{arith}
use native.Mathlib.Nat.{mul-le-mul, mod-lt}
use borrow.Author.Tests.{eqb-false, ltb-false}
use lib.Dec.{eqb, ltb}
use lib.IntN.{ℤ, pos, nat_abs}
use lib.ListN.{get_or, length}
use Rattle.integer.specs.Finite.{first}
use Rattle.integer.proofs.Search.{first_ext, first_past}
use Rattle.linear.specs.Slice.{at}
use Rattle.linear.specs.Reach.{ColumnList}
use Rattle.rules.proofs.Ranges.{neither_left}
use Rattle.enclosure.specs.Problem.{T, column_of}
use Rattle.enclosure.specs.Reckoning.{load, margin_fails, residual, allowed_residual, row_sum, exceeds}
use Rattle.enclosure.proofs.Before.{no_slack}
use Rattle.enclosure.proofs.Margin.{cut_test, margin_test}
use Rattle.check_arrays.specs.Arrays.{PrefixIs}
use Rattle.check_arrays.specs.Parts.{cut_margin, above_allowed}
use Rattle.check_arrays.proofs.Magnitudes.{power_magnitude}
use Rattle.check_allowances.proofs.Allowed.{allowed_test}
use Rattle.check_bounds.specs.Limits.{Near}
use Rattle.check_ratios.specs.Ratio.{Positive}
use Rattle.check_spec.specs.Order.{first_margin, first_inverse_place}
use Rattle.check_lists.specs.Work.{Work, work_problem, work_residual, work_slack, Workable}
use Rattle.check_lists.proofs.Rows.{work_column}

module _ (W : Work) (ready : Workable W) where
  -- ---- margins
  module _ (margins : List ℕ) (h : PrefixIs 0 margins W.n (cut_margin (work_problem W))) where
    pub first_margin_lem : first W.n (λ (m : ℕ). eqb (get_or margins m 0) 0) ≡ first_margin (work_problem W)
    first_margin_lem =
        first_ext W.n (λ (m : ℕ). eqb (get_or margins m 0) 0) (margin_fails (work_problem W))
        (λ m l. rw (h.each m l) (cut_test (T (work_problem W) * (work_problem W).w m) (load (work_problem W) m) ∙ sym (margin_test (work_problem W) m)))

    pub positive : W.n ≤ first W.n (λ (m : ℕ). eqb (get_or margins m 0) 0) → Positive margins W.n
    positive past = record {
      above = λ m l. above (get_or margins m 0) (first_past W.n (λ (m : ℕ). eqb (get_or margins m 0) 0) past m l);
      most = λ m l. rw (h.each m l)
          (omega (arith, mul-le-mul (power_magnitude W.t ready.inverse_scale) (ready.weights.within.magnitudes m l)));
    }
      where
        above : (x : ℕ) → eqb x 0 ≡ false → 0 < x
        above zero e = absurd (eqb-false 0 0 e refl)
        above (suc x) e = omega arith

  -- ---- residuals of the guess
  module _ (residuals : List ℤ) (h : PrefixIs (pos 0) residuals W.n (work_residual W)) where
    abbrev refused : ℕ → Bool
    refused i = above_allowed (at W.allowed i) (at residuals (0 + i))

    row_is : (i : ℕ) → i < W.n → refused i ≡ above_allowed (at W.allowed i) (work_residual W i)
    row_is i l = let e : 0 + i ≡ i = omega arith in rw (e, h.each i l)

    pub first_residual_lem : first W.n refused ≡ first W.n (λ (k : ℕ). above_allowed (at W.allowed k) (work_residual W k))
    first_residual_lem = first_ext W.n refused (λ (k : ℕ). above_allowed (at W.allowed k) (work_residual W k)) row_is

    pub near : W.n ≤ first W.n refused → Near (at residuals) (work_slack W) W.n
    near past = record {
      each = λ k l. rw (h.each k l) (ready.room k l (work_residual W k) (sym (row_is k l) ∙ first_past W.n refused past k l));
    }

  -- ---- residuals of the columns
  module _ (columns : List ℤ) (h : PrefixIs (pos 0) columns (W.n * W.n) (work_column W)) where
    abbrev column_refused : ℕ → Bool
    column_refused i = above_allowed (at W.allowed_in_columns (i % W.n)) (at columns i)

    here : (i : ℕ) → column_refused i ≡ ltb allowed_residual (nat_abs (at columns i) + 0) || ltb (row_sum (work_problem W) (i % W.n)) (nat_abs (at columns i))
    here i =
        ap (λ (a : ℤ). above_allowed a (at columns i)) (ready.column_rule (i % W.n) (mod-lt i ready.n_pos))
        ∙ allowed_test 0 (row_sum (work_problem W) (i % W.n)) (at columns i)

    place_is : (i : ℕ) → i < W.n * W.n → column_refused i ≡ exceeds (column_of (work_problem W) (i / W.n)) (i % W.n)
    unfolding exceeds row_sum residual
    place_is i l = here i ∙ rw (h.each i l, no_slack (column_of (work_problem W) (i / W.n)) (i % W.n) refl)

    pub first_column : first (W.n * W.n) column_refused ≡ first_inverse_place (work_problem W)
    first_column =
        first_ext (W.n * W.n) column_refused (λ (i : ℕ). exceeds (column_of (work_problem W) (i / W.n)) (i % W.n)) place_is

    pub near_columns : W.n * W.n ≤ length columns → W.n * W.n ≤ first (W.n * W.n) column_refused → ColumnList columns (W.n * W.n) allowed_residual
    near_columns long past = record {
      long = long;
      within = record {
        magnitudes = λ k l.
            let e = sym (here k) ∙ first_past (W.n * W.n) column_refused past k l in
            omega (arith, ltb-false allowed_residual (nat_abs (at columns k) + 0) (neither_left (ltb allowed_residual (nat_abs (at columns k) + 0)) _ e));
      };
    }
