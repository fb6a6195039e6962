use Rattle.build_equations.specs.declared.Layout.TheVariants.{Lower}
use Rattle.build.proofs.Contract.{ready}
use Rattle.kodarfi.proofs.Lined.{is_whole, lined}
use Rattle.kodarfi.proofs.which_line.kodarfi_build_half_line.Goals as goal

pub finish_status-requires : goal.finish_status-requires
finish_status-requires c =
    ready c.args.n c.args.observations.now Lower c.args.half.now c.args.right.now
    (is_whole c.args.n c.args.observations.now Lower c.args.half.now c.args.right.now c.begin-start.ensures c.gather-g.ensures)

pub returns : goal.returns
returns c =
    lined c.args.n c.args.observations.now Lower c.args.half.now c.args.right.now
    (is_whole c.args.n c.args.observations.now Lower c.args.half.now c.args.right.now c.begin-start.ensures c.gather-g.ensures)
    c.finish_status.ensures
