-- The biased rows of the inverse stand for it.
--   inverse_rows — they are what the reckoning asks
--   margins_are  — margins of a problem without a guess are the problem's
--   work_column W — the residuals of the inverse, column after column;  columns_are — those from the rows are these;  columns_within — their magnitudes
--   magnitudes_are — magnitudes from the rows, of residuals and slacks that agree on the first n, are the problem's
use mathlib.Core.Path.{◌≡◌}
use mathlib.Core.List.{List, []}
use Prim.Native.Nat.{ℕ, ◌+◌, ◌*◌, ◌/◌, ◌%◌, ◌<◌, ◌≤◌, ◌^◌}
use lib.IntN.{ℤ, pos}
use lib.ListN.{length}
use Rattle.linear.specs.Matrix.{Vec}
use Rattle.linear.specs.Slice.{matrix_of}
use Rattle.linear.specs.Reach.{ColumnList, MatrixList}
use Rattle.linear.proofs.Places.{place}
use Rattle.linear.proofs.Slack.{slack_ext}
use Rattle.check_biased_rows.specs.Biased.{unbiased_rows}
use Rattle.check_biased_rows.specs.Place.{RowsOfMatrix}
use Rattle.enclosure.specs.Problem.{column_of, problem_of}
use Rattle.enclosure.specs.Reckoning.{defect, load, residual, magnitudes_with}
use Rattle.check_arrays.specs.Arrays.{PrefixIs}
use Rattle.check_arrays.specs.Parts.{rows_part, column_residual, cut_margin}
use Rattle.check_arrays.specs.Rows.{InverseRows}
use Rattle.check_arrays.proofs.Columns.{in_square}
use Rattle.check_arrays.proofs.Filled.{prefix_as}
use Rattle.check_arrays.proofs.Magnitudes.{residual_magnitude}
use Rattle.check_defects.proofs.Product.{residual_of_rows}
use Rattle.check_bounds.specs.Limits.{inverse_part}
use Rattle.check_lists.specs.Work.{Work, work_problem}

module _ (n : ℕ) (inverse : List ℤ) {rows : List ℕ} (h : RowsOfMatrix rows n inverse) where
  stands_for : (i k : ℕ) → i < n → k < n → unbiased_rows rows n i k ≡ matrix_of inverse n i k
  stands_for = h.stands

  pub inverse_rows : MatrixList inverse n → InverseRows rows n
  inverse_rows q = record {
    rows = h.rows;
    magnitudes = λ i k li lk. rw (stands_for i k li lk) (q.within.magnitudes (i * n + k) (place li lk));
  }

abbrev pub work_column : Work → Vec
work_column W i = column_residual W.n W.t W.matrix W.inverse (i / W.n) (i % W.n)

pub columns_within : (W : Work) {columns : List ℤ} → W.t ≤ 20 → W.n ≤ 32 → MatrixList W.matrix W.n → MatrixList W.inverse W.n →
    W.n * W.n ≤ length columns → PrefixIs (pos 0) columns (W.n * W.n) (work_column W) → ColumnList columns (W.n * W.n) (2 ^ 46)
columns_within W ht n_max hm hi long h = record {
  long = long;
  within = record {
    magnitudes = λ i l.
        rw (h.each i l)
        (residual_magnitude W.n W.t W.matrix W.inverse ht n_max hm hi (i / W.n) (i % W.n) (in_square W.n i l).0 (in_square W.n i l).1);
  };
}

pub margins_are : (W : Work) {margins : List ℕ} → PrefixIs 0 margins W.n (cut_margin (problem_of W.n 0 W.t W.matrix [] [] [] W.inverse W.weights)) →
    PrefixIs 0 margins W.n (cut_margin (work_problem W))
unfolding load defect
margins_are W h = h

module _ (W : Work) {rows : List ℕ} (h : RowsOfMatrix rows W.n W.inverse) where
  pub columns_are : {columns : List ℤ} →
      PrefixIs (pos 0) columns (W.n * W.n) (λ (i : ℕ). residual (column_of (rows_part W.n W.t W.matrix rows) (i / W.n)) (i % W.n)) →
      PrefixIs (pos 0) columns (W.n * W.n) (work_column W)
  columns_are =
      prefix_as (pos 0) (λ (i : ℕ). residual (column_of (rows_part W.n W.t W.matrix rows) (i / W.n)) (i % W.n)) (work_column W)
      (λ i l. residual_of_rows W.n W.t W.matrix h (i / W.n) (i % W.n) (in_square W.n i l).0 (in_square W.n i l).1)

  pub magnitudes_are : (r r' : Vec) (σ σ' : ℕ → ℕ) (m : ℕ) → m < W.n → ((k : ℕ) → k < W.n → r k ≡ r' k) → ((k : ℕ) → k < W.n → σ k ≡ σ' k) →
      magnitudes_with (inverse_part W.n rows) r σ m ≡ magnitudes_with (work_problem W) r' σ' m
  unfolding magnitudes_with
  magnitudes_are r r' σ σ' m l e f = slack_ext W.n (unbiased_rows rows W.n) (matrix_of W.inverse W.n) r r' σ σ' m (λ j lj. stands_for W.n W.inverse h m j l lj) e f
