use Rattle.std.proofs.Common.{ap, not}
use native.Mathlib.Omega.{arith}
use Rattle.std.proofs.lemmas.Grind.{common_steps}
use Rattle.build_lines.specs.Line.{outside_range}
use Rattle.build_lines.proofs.is_outside_range.Goals as goal

pub returns : goal.returns
unfolding outside_range
returns c = ap not (grind (arith, common_steps))
