use Rattle.build.proofs.Contract.{ready, built}
use Rattle.build.proofs.build.Goals as goal

pub finish-requires : goal.finish-requires
finish-requires c =
    ready c.args.n c.args.observations.now c.args.layout c.args.matrix.now c.args.right.now (rw c.begin-start.ensures at c.gather-g.ensures)

pub returns : goal.returns
returns c =
    built c.args.n c.args.observations.now c.args.layout c.args.matrix.now c.args.right.now (rw c.begin-start.ensures at c.gather-g.ensures) c.finish.ensures
