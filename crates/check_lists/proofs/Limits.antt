-- The limits that the code works out are the reckoning's.
--   solution_limit — from the residuals of the guess and the slacks;  inverse_limit — from the residuals of a column of the inverse
use mathlib.Core.Path.{◌≡◌, refl, sym, ◌∙◌}
use mathlib.Core.List.{List}
use Prim.Native.Nat.{ℕ, ◌+◌, ◌*◌, ◌-◌, ◌<◌}
use native.Mathlib.Omega.{arith}
use lib.IntN.{ℤ, pos, nat_abs}
use lib.ListN.{get_or}
use Rattle.linear.specs.Slice.{at}
use Rattle.linear.proofs.Places.{place, place_column, place_row}
use Rattle.check_biased_rows.specs.Place.{RowsOfMatrix}
use Rattle.enclosure.specs.Problem.{T, column_of}
use Rattle.enclosure.specs.Reckoning.{defect, load, margin, residual, slack, magnitudes_with, bound_with, bound, inverse_bound}
use Rattle.enclosure.proofs.Bounds.{bound_ext}
use Rattle.enclosure.proofs.Margin.{margin_cut}
use Rattle.check_arrays.specs.Arrays.{PrefixIs}
use Rattle.check_arrays.specs.Parts.{cut_margin}
use Rattle.check_bounds.specs.Limits.{inverse_part, limits_of}
use Rattle.check_ratios.specs.Ratio.{Positive}
use Rattle.check_lists.specs.Work.{Work, work_problem, work_residual, work_slack}
use Rattle.check_lists.proofs.Rows.{work_column, magnitudes_are}

module _ (W : Work) {rows : List ℕ} (biased : RowsOfMatrix rows W.n W.inverse) (margins : List ℕ)
    (hm : PrefixIs 0 margins W.n (cut_margin (work_problem W))) (pm : Positive margins W.n) where
  -- a margin that is above 0 is the signed margin's magnitude
  margin_here : (m : ℕ) → m < W.n → get_or margins m 0 ≡ nat_abs (margin (work_problem W) m)
  margin_here m l =
      let e : get_or margins m 0 ≡ T (work_problem W) * (work_problem W).w m - load (work_problem W) m = hm.each m l in
      e ∙ sym (margin_cut (work_problem W) m (omega (arith, pm.above m l)))

  pub solution_limit : (residuals : List ℤ) → PrefixIs (pos 0) residuals W.n (work_residual W) → (i : ℕ) →
      limits_of W.n rows (at residuals) (work_slack W) margins W.weights i ≡ bound_with (work_problem W) (work_residual W) (work_slack W) i
  unfolding bound_with
  solution_limit residuals h i =
      bound_ext W.n (magnitudes_with (inverse_part W.n rows) (at residuals) (work_slack W)) (λ (m : ℕ). get_or margins m 0) (magnitudes_with (work_problem W) (work_residual W) (work_slack W))
      (λ (m : ℕ). nat_abs (margin (work_problem W) m)) (λ (k : ℕ). nat_abs (at W.weights k)) i
      (λ m l. magnitudes_are W biased (at residuals) (work_residual W) (work_slack W) (work_slack W) m l h.each (λ k lk. refl)) margin_here

  pub inverse_limit : (columns : List ℤ) → PrefixIs (pos 0) columns (W.n * W.n) (work_column W) →
      (i j : ℕ) → i < W.n → j < W.n →
      limits_of W.n rows (λ (k : ℕ). at columns (j * W.n + k)) (λ (k : ℕ). 0) margins W.weights i ≡ inverse_bound (work_problem W) i j
  unfolding bound bound_with magnitudes_with margin load defect
  inverse_limit columns h i j li lj =
      bound_ext W.n (magnitudes_with (inverse_part W.n rows) (λ (k : ℕ). at columns (j * W.n + k)) (λ (k : ℕ). 0)) (λ (m : ℕ). get_or margins m 0)
      (magnitudes_with (work_problem W) (residual (column_of (work_problem W) j)) (slack (column_of (work_problem W) j))) (λ (m : ℕ). nat_abs (margin (work_problem W) m)) (λ (k : ℕ). nat_abs (at W.weights k)) i
      (λ m l. magnitudes_are W biased (λ (k : ℕ). at columns (j * W.n + k)) (residual (column_of (work_problem W) j)) (λ (k : ℕ). 0) (slack (column_of (work_problem W) j)) m l
      (λ k lk. h.each (j * W.n + k) (place lj lk) ∙ rw (place_column j k W.n lk, place_row j k W.n lk) (unfold residual in refl)) (λ k lk. omega arith)) margin_here
