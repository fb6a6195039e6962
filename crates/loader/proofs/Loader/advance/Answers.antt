use mir.Facts.{to_z-of_z}
use mir.Syntax.{w64}
use mir.Val.{SFits}
use Rattle.std.proofs.Common.{rules}
use Rattle.loader.proofs.Advance.{size_small, scale_small, time_small}
use Rattle.loader.proofs.Loader.advance.Goals as goal

pub natural-requires : goal.natural-requires
natural-requires c =
    let f : SFits w64 c.in-Problem.n = search rules in
    rw (to_z-of_z f) (size_small c.in-Problem.is c.requires)

pub natural-requires-in-Scale : goal.natural-requires-in-Scale
natural-requires-in-Scale c =
    let f : SFits w64 c.in-Scale.s = search rules in
    rw (to_z-of_z f) (scale_small c.in-Scale.is c.requires)

pub natural-requires-in-Scale-2 : goal.natural-requires-in-Scale-2
natural-requires-in-Scale-2 c =
    let f : SFits w64 c.in-Scale.t = search rules in
    rw (to_z-of_z f) (time_small c.in-Scale.is c.requires)
