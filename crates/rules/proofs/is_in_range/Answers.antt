use mathlib.Core.Path.{◌∙◌}
use mir.Syntax.{w64}
use mir.Val.{SFits}
use mir.ValLaws.{to_z-of_z}
use Rattle.rules.proofs.Ranges.{range_test}
use Rattle.std.proofs.Common.{rules}
use Rattle.rules.proofs.is_in_range.Goals as goal

pub returns-then-range-x : goal.returns-then-range-x
returns-then-range-x c =
    let r = c.range_of-range in
    let h : SFits w64 r.result.highest = search rules in
    let l : SFits w64 r.result.lowest = search rules in
    let low = simp (to_z-of_z w64, c.ranges.x, l) at c.if-range-x.true in
    let whole = rw low at (range_test c.args.kind c.args.x r.ensures) in
    simp (to_z-of_z w64, c.ranges.x, h) whole

pub returns-else-range-x : goal.returns-else-range-x
returns-else-range-x c =
    let r = c.range_of-range in
    let l : SFits w64 r.result.lowest = search rules in
    let low = simp (to_z-of_z w64, c.ranges.x, l) at c.if-range-x.false in
    c.if-range-x.false ∙ (rw low at (range_test c.args.kind c.args.x r.ensures))
