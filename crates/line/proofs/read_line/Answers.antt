use Rattle.std.proofs.Common.{sym, ◌∙◌, arith}
use Rattle.line_parts.proofs.Refusals.{short, long}
use Rattle.line.proofs.read_line.Goals as goal

pub returns-then-line-gt320 : goal.returns-then-line-gt320
returns-then-line-gt320 c = c.refuse.ensures ∙ sym (long c.args.line.now (omega (arith, c.if-line-gt320.true)))

pub returns : goal.returns
returns c = c.read_short_line.ensures ∙ sym (short c.args.line.now (omega (arith, c.if-line-gt320.false)))
