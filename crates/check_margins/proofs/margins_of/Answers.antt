use mathlib.Core.Path.{◌≡◌}
use native.Mathlib.Omega.{arith}
use lib.ListN.{length}
use Rattle.linear.proofs.Places.{square}
use Rattle.check_margins.proofs.Loads.{DefectList, residuals_symmetric, defects_within, defect_margins}
use Rattle.std.proofs.Common.{rules}
use Rattle.check_margins.proofs.margins_of.Goals as goal
use Rattle.check_margins.proofs.margins_of.Goals.{After-defects_of, Start, Then-symmetric}

-- where A and G are symmetric, the residuals of the inverse are D
symmetric-are : (c : Then-symmetric) → DefectList c.args.columns.now c.args.n c.args.t c.args.matrix.now c.args.inverse.now
symmetric-are c =
    let s = (goal.at.Then-symmetric c).Start in
    let both = s.requires.symmetric c.if-symmetric.true in
    residuals_symmetric s.args.n s.args.t s.args.matrix.now s.args.inverse.now both.0 both.1 s.requires.prefix_is

-- the length of the array of D
long : (d : After-defects_of) → length d.defects_of.result ≡ 1024
long d = search rules

pub returns-then-symmetric : goal.returns-then-symmetric
returns-then-symmetric c =
    let s = (goal.at.returns-then-symmetric c).Start in
    (c.margins_from.ensures.0, defect_margins s.args.n s.args.t s.args.matrix.now s.args.inverse.now s.args.weights.now (symmetric-are (goal.at.returns-then-symmetric c).Then-symmetric) c.margins_from.ensures.1)

pub returns : goal.returns
returns c =
    let d = (goal.at.returns c).After-defects_of in
    let s = (goal.at.returns c).Start in
    (c.margins_from-2.ensures.0, defect_margins s.args.n s.args.t s.args.matrix.now s.args.inverse.now s.args.weights.now d.defects_of.ensures c.margins_from-2.ensures.1)

pub margins_from-requires-clause-column_list : goal.margins_from-requires-clause-column_list
margins_from-requires-clause-column_list c = let s = (goal.at.margins_from-requires-clause-column_list c).Start in let p = s.requires in defects_within s.args.n s.args.t s.args.matrix.now s.args.inverse.now p.t_bound.0 p.t_bound.1.0 p.matrix_list p.matrix_list_2 p.t_bound.1.1.1 (symmetric-are (goal.at.margins_from-requires-clause-column_list c).Then-symmetric)

pub margins_from-requires-2-clause-column_list : goal.margins_from-requires-2-clause-column_list
margins_from-requires-2-clause-column_list c = let d = (goal.at.margins_from-requires-2-clause-column_list c).After-defects_of in let s = (goal.at.margins_from-requires-2-clause-column_list c).Start in let p = s.requires in defects_within s.args.n s.args.t s.args.matrix.now s.args.inverse.now p.t_bound.0 p.t_bound.1.0 p.matrix_list p.matrix_list_2 (omega (arith, square p.t_bound.1.0, long (goal.at.margins_from-requires-2-clause-column_list c).After-defects_of)) d.defects_of.ensures
