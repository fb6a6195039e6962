use Rattle.common_ends.proofs.Tests.{fronts_same}
use Rattle.common_ends.proofs.are_same.Goals as goal

pub returns : goal.returns
returns c = fronts_same c.args.xs.now c.args.ys.now c.args.n c.eq.result c.requires.0 c.requires.1 c.eq.ensures
