use lib.IntN.{pos}
use Rattle.rules.specs.Range.{in_range, all_in_range}
use Rattle.rules.proofs.Front.{every_front}
use Rattle.std.proofs.Common.{rules}
use Rattle.std.proofs.iter.runs.Made.{chains}
use Rattle.rules.proofs.all_in_range.Goals as goal

pub returns : goal.returns
returns c = unfold all_in_range in every_front (in_range c.args.kind) (pos 0) c.args.xs.now c.args.n c.requires (search (rules, chains))
