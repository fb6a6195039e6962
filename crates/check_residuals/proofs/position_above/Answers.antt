use Rattle.std.proofs.Common.{rules}
use Rattle.check_residuals.proofs.position_above.Goals as goal

pub returns-then-is_above : goal.returns-then-is_above
returns-then-is_above c = (c.loop-k-test.true, search rules, c.loop-k.invariant)
