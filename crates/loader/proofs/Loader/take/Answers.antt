use mathlib.Core.Path.{sym}
use Rattle.loader_lists.specs.Lists.{Lists, lists}
use Rattle.loader.proofs.Line.{refused_so}
use Rattle.loader.proofs.Loader.take.Goals as goal
use Rattle.loader.proofs.Loader.take.Goals.{Start}

abbrev lent : Start → Lists
lent s = lists s.args.matrix.now s.args.right.now s.args.tolerance.now s.args.guess.now s.args.inverse.now s.args.weights.now

pub write_all-requires : goal.write_all-requires
write_all-requires c = (c.in-Ok.ensures (lent (goal.at.write_all-requires c).Start) (sym c.is_short-short.ensures)).room

pub returns-in-Err : goal.returns-in-Err
returns-in-Err c = refused_so c.args.self _ c.args.line.now (c.in-Err.ensures (lent (goal.at.returns-in-Err c).Start) (sym c.is_short-short.ensures))
