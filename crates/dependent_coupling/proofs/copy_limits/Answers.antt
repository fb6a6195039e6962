use Rattle.dependent_coupling.proofs.Parts.{front_copied}
use Rattle.dependent_coupling.proofs.copy_limits.Goals as goal

pub returns : goal.returns
returns c = rw c.copy_from_slice.ensures.after (front_copied c.args.dst.now c.args.src.now c.args.n c.requires.1 c.requires.0)
