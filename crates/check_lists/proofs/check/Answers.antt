use mathlib.Core.Path.{◌≡◌, refl, sym, ◌∙◌}
use mathlib.Core.Bool.{true, false}
use Rattle.rules.proofs.Ranges.{both, both_left, not_both, not_first, size_range}
use Rattle.check_spec.specs.Input.{Input, input, short, sizes_in_range, in_ranges}
use Rattle.check_spec.proofs.Contract.{checked_short, checked_range}
use Rattle.check_spec.proofs.Fit.{Fit, fit_of}
use Rattle.check_spec.proofs.Lengths.{long_of}
use Rattle.check_lists.proofs.Handed.{Handed, workable, computed_checked}
use Rattle.check_lists.proofs.check.Goals as goal
use Rattle.check_lists.proofs.check.Goals.{After-allowed_of-then-are_lists_in_range, After-compute_bounds, After-scaled_right, Else-is_short, Start, Then-are_lists_in_range, Then-are_sizes_in_range}

abbrev I : Start → Input
I s =
    let a = s.args in
    input a.n a.s a.t a.matrix.now a.right.now a.tolerance.now a.guess.now a.inverse.now a.weights.now a.solution_bounds.now a.inverse_bounds.now

-- what the tests showed
long : (c : Else-is_short) → short (I (goal.at.Else-is_short c).Start) ≡ false
long c = sym c.is_short.ensures ∙ c.if-is_short.false

sizes : (c : Then-are_sizes_in_range) → sizes_in_range (I (goal.at.Then-are_sizes_in_range c).Start).n (I (goal.at.Then-are_sizes_in_range c).Start).s (I (goal.at.Then-are_sizes_in_range c).Start).t ≡ true
sizes c = sym c.are_sizes_in_range.ensures ∙ c.if-are_sizes_in_range.true

within : (c : Then-are_lists_in_range) → in_ranges (I (goal.at.Then-are_lists_in_range c).Start) ≡ true
within c = both (sizes (goal.at.Then-are_lists_in_range c).Then-are_sizes_in_range) (sym c.are_lists_in_range.ensures ∙ c.if-are_lists_in_range.true)

fit : (c : Then-are_lists_in_range) → Fit (I (goal.at.Then-are_lists_in_range c).Start)
fit c = fit_of (I (goal.at.Then-are_lists_in_range c).Start) (long (goal.at.Then-are_lists_in_range c).Else-is_short) (within c)

handed : (c : After-allowed_of-then-are_lists_in_range) →
    let r = (goal.at.After-allowed_of-then-are_lists_in_range c).After-scaled_right in
    Handed (I (goal.at.After-allowed_of-then-are_lists_in_range c).Start) r.scaled_right.new.out c.allowed_of.new.out c.allowed_of-then-are_lists_in_range.new.out r.slacks_of.new.out r.row_sums_of.new.out
handed c = record {
  base_long = c.scaled_right.ensures.0;
  base = c.scaled_right.ensures.1;
  allowed_long = c.allowed_of.ensures.0;
  allowed = c.allowed_of.ensures.1;
  in_columns_long = c.allowed_of-then-are_lists_in_range.ensures.0;
  in_columns = c.allowed_of-then-are_lists_in_range.ensures.1;
  sums = c.row_sums_of.ensures.1;
  slacks = c.slacks_of.ensures.1;
}

pub returns-then-is_short : goal.returns-then-is_short
returns-then-is_short c = checked_short (I (goal.at.returns-then-is_short c).Start) (sym c.is_short.ensures ∙ c.if-is_short.true)

pub allowed_of-requires : goal.allowed_of-requires
allowed_of-requires c = ((fit (goal.at.allowed_of-requires c).Then-are_lists_in_range).n_max, refl)

pub allowed_of-requires-then-are_lists_in_range : goal.allowed_of-requires-then-are_lists_in_range
allowed_of-requires-then-are_lists_in_range c = ((fit (goal.at.allowed_of-requires-then-are_lists_in_range c).Then-are_lists_in_range).n_max, refl)

pub compute_bounds-requires : goal.compute_bounds-requires
compute_bounds-requires c =
    let z = (goal.at.compute_bounds-requires c).After-allowed_of-then-are_lists_in_range in
    let t = (goal.at.compute_bounds-requires c).Then-are_lists_in_range in workable (I (goal.at.compute_bounds-requires c).Start) (long (goal.at.compute_bounds-requires c).Else-is_short) (within (goal.at.compute_bounds-requires c).Then-are_lists_in_range) (handed (goal.at.compute_bounds-requires c).After-allowed_of-then-are_lists_in_range)

pub returns-then-are_lists_in_range : goal.returns-then-are_lists_in_range
returns-then-are_lists_in_range c =
    let r = (goal.at.returns-then-are_lists_in_range c).After-compute_bounds in
    let z = (goal.at.returns-then-are_lists_in_range c).After-allowed_of-then-are_lists_in_range in
    let t = (goal.at.returns-then-are_lists_in_range c).Then-are_lists_in_range in computed_checked (I (goal.at.returns-then-are_lists_in_range c).Start) (long (goal.at.returns-then-are_lists_in_range c).Else-is_short) (within (goal.at.returns-then-are_lists_in_range c).Then-are_lists_in_range) (handed (goal.at.returns-then-are_lists_in_range c).After-allowed_of-then-are_lists_in_range) r.compute_bounds.ensures

pub returns-else-are_lists_in_range : goal.returns-else-are_lists_in_range
returns-else-are_lists_in_range c =
    let t = (goal.at.returns-else-are_lists_in_range c).Then-are_sizes_in_range in
    checked_range (I (goal.at.returns-else-are_lists_in_range c).Start) (long (goal.at.returns-else-are_lists_in_range c).Else-is_short)
    (not_both (sizes (goal.at.returns-else-are_lists_in_range c).Then-are_sizes_in_range) (sym c.are_lists_in_range.ensures ∙ c.if-are_lists_in_range.false))

pub returns-else-are_sizes_in_range : goal.returns-else-are_sizes_in_range
returns-else-are_sizes_in_range c =
    checked_range (I (goal.at.returns-else-are_sizes_in_range c).Start) (long (goal.at.returns-else-are_sizes_in_range c).Else-is_short)
    (not_first _ (sym c.are_sizes_in_range.ensures ∙ c.if-are_sizes_in_range.false))

pub are_lists_in_range-requires-clause-n_bound : goal.are_lists_in_range-requires-clause-n_bound
are_lists_in_range-requires-clause-n_bound c = let l = long_of (I (goal.at.are_lists_in_range-requires-clause-n_bound c).Start) (long (goal.at.are_lists_in_range-requires-clause-n_bound c).Else-is_short) in (size_range _ (both_left _ _ (sizes c))).1

pub slacks_of-requires-clause-s_bound : goal.slacks_of-requires-clause-s_bound
slacks_of-requires-clause-s_bound c = let x = fit (goal.at.slacks_of-requires-clause-s_bound c).Then-are_lists_in_range in (x.solution_scale, (x.n_max, refl))

pub slacks_of-requires-clause-column_list : goal.slacks_of-requires-clause-column_list
slacks_of-requires-clause-column_list c = let x = fit (goal.at.slacks_of-requires-clause-column_list c).Then-are_lists_in_range in x.tolerance

pub row_sums_of-requires-clause-n_bound : goal.row_sums_of-requires-clause-n_bound
row_sums_of-requires-clause-n_bound c = let x = fit (goal.at.row_sums_of-requires-clause-n_bound c).Then-are_lists_in_range in (x.n_max, refl)

pub row_sums_of-requires-clause-matrix_list : goal.row_sums_of-requires-clause-matrix_list
row_sums_of-requires-clause-matrix_list c = let x = fit (goal.at.row_sums_of-requires-clause-matrix_list c).Then-are_lists_in_range in x.matrix

pub scaled_right-requires-clause-s_bound : goal.scaled_right-requires-clause-s_bound
scaled_right-requires-clause-s_bound c = let x = fit (goal.at.scaled_right-requires-clause-s_bound c).Then-are_lists_in_range in (x.solution_scale, (x.n_max, refl))

pub scaled_right-requires-clause-column_list : goal.scaled_right-requires-clause-column_list
scaled_right-requires-clause-column_list c = let x = fit (goal.at.scaled_right-requires-clause-column_list c).Then-are_lists_in_range in x.right
