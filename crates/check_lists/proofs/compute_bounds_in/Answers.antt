use mathlib.Core.Path.{◌≡◌}
use Prim.Native.Nat.{◌*◌, ◌≤◌}
use native.Mathlib.Omega.{arith}
use lib.IntN.{pos}
use lib.ListN.{length}
use Rattle.check_arrays.specs.Arrays.{PrefixIs}
use Rattle.check_lists.specs.Work.{Work, work}
use Rattle.check_lists.proofs.Outcome.{WorkedOut, refused, positive_here, weighed_here, near_here, columns_here, accepted_here}
use Rattle.check_lists.proofs.Rows.{work_column, margins_are, columns_are, columns_within}
use Rattle.check_lists.proofs.SymmetricMatrix.{symmetric_product}
use Rattle.std.proofs.Common.{rules}
use Rattle.std.proofs.lemmas.Result.{err_from_is_err_and}
use Rattle.check_lists.proofs.compute_bounds_in.Goals as goal
use Rattle.check_lists.proofs.compute_bounds_in.Goals.{After-bias_rows, After-inverse_residuals_of, After-inverse_residuals_of-arg-1, After-judge, After-store, In_ok-judge, Start}

abbrev W : Start → Work
W s =
    let a = s.args in
    work a.n a.t a.matrix.now a.base.now a.allowed.now a.allowed_in_columns.now a.slacks.now a.guess.now a.inverse.now a.weights.now a.solution_bounds.now a.inverse_bounds.now

abbrev biased-before : After-inverse_residuals_of → After-bias_rows
biased-before c = (goal.at.After-inverse_residuals_of c).After-bias_rows

residuals-are : (c : After-inverse_residuals_of) →
    PrefixIs (pos 0) c.inverse_residuals_of.new.out (c.args.n * c.args.n) (work_column (W (goal.at.After-inverse_residuals_of c).Start))
residuals-are c = columns_are (W (goal.at.After-inverse_residuals_of c).Start) c.bias_rows.ensures c.inverse_residuals_of.ensures

same-columns : (c : After-inverse_residuals_of) → length c.inverse_residuals_of.new.out ≡ length c.args.columns.now
same-columns c = search rules

long-columns : (c : After-inverse_residuals_of) → c.args.n * c.args.n ≤ length c.inverse_residuals_of.new.out
long-columns c = omega (arith, same-columns c, c.requires.n_in_bounds.1.0)

abbrev biased : After-judge → After-bias_rows
biased j = biased-before (goal.at.After-judge j).After-inverse_residuals_of

abbrev worked : (j : After-judge) →
    WorkedOut (W (goal.at.After-judge j).Start) j.bias_rows.new.out j.margins_of.new.out j.residuals_of.new.out j.inverse_residuals_of.new.out j.judge.result
worked j = record {
  biased = j.bias_rows.ensures;
  hm = margins_are (W (goal.at.After-judge j).Start) j.margins_of.ensures.1;
  hr = j.residuals_of.ensures.1;
  hc = residuals-are (goal.at.After-judge j).After-inverse_residuals_of;
  m = j.first_zero-m.result;
  k = j.first_above-k.result;
  i = j.first_above_in_columns-i.result;
  em = j.first_zero-m.ensures;
  ek = j.first_above-k.ensures;
  ei = j.first_above_in_columns-i.ensures;
  er = j.judge.ensures;
}

pub returns-in_err-judge : goal.returns-in_err-judge
returns-in_err-judge c =
    let j = (goal.at.returns-in_err-judge c).After-judge in
    let p = err_from_is_err_and c.from_residual.result c.from_residual.ensures.1 in
    rw (p.1, p.2) (refused (W (goal.at.After-judge j).Start) j.requires.workable (worked j) _ c.in_err-judge.was)

pub returns : goal.returns
returns c =
    let j = (goal.at.returns c).After-judge in
    let s = (goal.at.returns c).After-store in
    accepted_here (W (goal.at.returns c).Start) j.requires.workable (worked (goal.at.returns c).After-judge) c.in_ok-judge.was s.column_bounds-column.ensures s.store.ensures c.store_columns.ensures

pub margins_of-requires-clause-prefix_is : goal.margins_of-requires-clause-prefix_is
margins_of-requires-clause-prefix_is c = let k = (goal.at.margins_of-requires-clause-prefix_is c).After-inverse_residuals_of-arg-1 in let p = k.requires.workable in residuals-are (goal.at.margins_of-requires-clause-prefix_is c).After-inverse_residuals_of

pub first_above_in_columns-i-requires-clause-column_list : goal.first_above_in_columns-i-requires-clause-column_list
first_above_in_columns-i-requires-clause-column_list c = let k = (goal.at.first_above_in_columns-i-requires-clause-column_list c).After-inverse_residuals_of in let p = k.requires.workable in columns_within (W (goal.at.first_above_in_columns-i-requires-clause-column_list c).Start) p.inverse_scale p.n_max p.matrix p.inverse (long-columns (goal.at.first_above_in_columns-i-requires-clause-column_list c).After-inverse_residuals_of) (residuals-are (goal.at.first_above_in_columns-i-requires-clause-column_list c).After-inverse_residuals_of)

pub caps_of-requires-clause-by_index : goal.caps_of-requires-clause-by_index
caps_of-requires-clause-by_index c = let j = (goal.at.caps_of-requires-clause-by_index c).After-judge in let s = (goal.at.caps_of-requires-clause-by_index c).Start in let p = s.requires.workable in weighed_here (W (goal.at.caps_of-requires-clause-by_index c).Start) p (worked (goal.at.caps_of-requires-clause-by_index c).After-judge) c.in_ok-judge.was

pub column_bounds-column-requires-clause-positive : goal.column_bounds-column-requires-clause-positive
column_bounds-column-requires-clause-positive c = let j = (goal.at.column_bounds-column-requires-clause-positive c).After-judge in let s = (goal.at.column_bounds-column-requires-clause-positive c).Start in let p = s.requires.workable in let e = c.in_ok-judge.was in positive_here (W (goal.at.column_bounds-column-requires-clause-positive c).Start) p (worked (goal.at.column_bounds-column-requires-clause-positive c).After-judge) e

pub column_bounds-column-requires-clause-near : goal.column_bounds-column-requires-clause-near
column_bounds-column-requires-clause-near c = let j = (goal.at.column_bounds-column-requires-clause-near c).After-judge in let s = (goal.at.column_bounds-column-requires-clause-near c).Start in let p = s.requires.workable in let e = c.in_ok-judge.was in near_here (W (goal.at.column_bounds-column-requires-clause-near c).Start) p (worked (goal.at.column_bounds-column-requires-clause-near c).After-judge) e

pub store_columns-requires-clause-column_list : goal.store_columns-requires-clause-column_list
store_columns-requires-clause-column_list c = let j = (goal.at.store_columns-requires-clause-column_list c).After-judge in let s = (goal.at.store_columns-requires-clause-column_list c).Start in let p = s.requires.workable in let e = c.in_ok-judge.was in columns_here (W (goal.at.store_columns-requires-clause-column_list c).Start) p (worked (goal.at.store_columns-requires-clause-column_list c).After-judge) e (long-columns (goal.at.store_columns-requires-clause-column_list c).After-inverse_residuals_of)

pub store_columns-requires-clause-symmetric_product : goal.store_columns-requires-clause-symmetric_product
store_columns-requires-clause-symmetric_product c = let j = (goal.at.store_columns-requires-clause-symmetric_product c).After-judge in let s = (goal.at.store_columns-requires-clause-symmetric_product c).Start in let p = s.requires.workable in let e = c.in_ok-judge.was in (λ y. let both = j.are_symmetric-symmetric.ensures y in symmetric_product (W (goal.at.store_columns-requires-clause-symmetric_product c).Start) j.bias_rows.ensures (residuals-are (goal.at.store_columns-requires-clause-symmetric_product c).After-inverse_residuals_of) both.0 both.1)

pub store_columns-requires-clause-positive : goal.store_columns-requires-clause-positive
store_columns-requires-clause-positive c = let j = (goal.at.store_columns-requires-clause-positive c).After-judge in let s = (goal.at.store_columns-requires-clause-positive c).Start in let p = s.requires.workable in let e = c.in_ok-judge.was in positive_here (W (goal.at.store_columns-requires-clause-positive c).Start) p (worked (goal.at.store_columns-requires-clause-positive c).After-judge) e
