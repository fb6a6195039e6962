use Rattle.convert_writer.proofs.Held.{size, tolerance_small}
use Rattle.convert_writer.proofs.has_tolerance.Goals as goal
use Rattle.convert_writer.proofs.has_tolerance.Goals.{Start}

pub has_other-requires : goal.has_other-requires
has_other-requires c =
    let s = (goal.at.has_other-requires c).Start in
    let e = c.size.ensures in
    rw e ((size s.args.c s.requires).1, tolerance_small s.args.c s.requires)
