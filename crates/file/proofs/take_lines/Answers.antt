use mathlib.Core.Path.{◌∙◌}
use Rattle.loader_lists.specs.Lists.{Lists, lists}
use Rattle.std.proofs.Common.{rules}
use Rattle.file.proofs.Turns.{at_end, read_on, read_refusal}
use Rattle.file.proofs.take_lines.Goals as goal
use Rattle.file.proofs.take_lines.Goals.{Start}

-- the lists as they are lent
abbrev old : Start → Lists
old s = lists s.args.matrix.now s.args.right.now s.args.tolerance.now s.args.guess.now s.args.inverse.now s.args.weights.now

pub returns-in-Err : goal.returns-in-Err
returns-in-Err c =
    read_refusal c.args.file.now (old (goal.at.returns-in-Err c).Start) c.loop-at.invariant.6 c.loop-at-test.true c.line_end-end.ensures c.take-taken.ensures _ c.in-Err.is

pub loop-at-preserved : goal.loop-at-preserved
loop-at-preserved c =
    let l = c.loop-at in
    let k = c.take-taken.auto in (
      k.matrix ∙ l.invariant.0,
      k.right ∙ l.invariant.1,
      k.tolerance ∙ l.invariant.2,
      k.guess ∙ l.invariant.3,
      k.inverse ∙ l.invariant.4,
      k.weights ∙ l.invariant.5,
      read_on c.args.file.now (old (goal.at.loop-at-preserved c).Start) l.invariant.6 c.loop-at-test.true c.line_end-end.ensures c.take-taken.ensures (search rules),
    )

pub returns : goal.returns
returns c = at_end c.args.file.now (old (goal.at.returns c).Start) c.loop-at.invariant.6 c.loop-at-test.false
