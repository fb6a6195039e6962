use native.Mathlib.Omega.{arith}
use Rattle.std.proofs.Common.{rules}
use Rattle.std.proofs.iter.runs.Made.{chains}
use Rattle.check_ratios.proofs.Fronts.{zero_front}
use Rattle.check_ratios.proofs.all_zero.Goals as goal

pub returns : goal.returns
returns c = zero_front c.args.xs.now c.args.n (omega arith) (search (rules, chains))
