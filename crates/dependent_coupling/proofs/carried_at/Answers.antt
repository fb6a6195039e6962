use Rattle.std.proofs.Common.{◌∙◌, arith}
use Rattle.dependent_coupling.proofs.Rows.{carried_magnitude}
use Rattle.dependent_coupling.proofs.Parts.{row_bounded, row_total}
use Rattle.dependent_coupling.proofs.carried_at.Goals as goal

pub carried_along-requires-clause-small : goal.carried_along-requires-clause-small
carried_along-requires-clause-small c = row_bounded c.requires.carried c.requires.reach

pub carried_along-requires-clause-fits : goal.carried_along-requires-clause-fits
carried_along-requires-clause-fits c =
    let h = c.requires in
    rw (row_total h.carried h.reach c.args.limits.now (omega arith)) (omega (arith, carried_magnitude c.args.k h.marks_bound.0 h.reach c.args.limits.now c.args.marks (omega arith)))

pub returns : goal.returns
returns c = c.carried_along.ensures ∙ row_total c.requires.carried c.requires.reach c.args.limits.now (omega arith)
