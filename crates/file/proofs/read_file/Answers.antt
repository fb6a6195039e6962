use mathlib.Core.Path.{refl}
use Rattle.loader_runs.specs.Read.{zeros}
use Rattle.file.proofs.Turns.{from_zeros}
use Rattle.file.proofs.read_file.Goals as goal
use Rattle.file.proofs.read_file.Goals.{After-take_lines-taken, Start}

pub returns : goal.returns
returns c =
    let t = (goal.at.returns c).After-take_lines-taken in
    let start = (goal.at.returns c).Start in
    from_zeros start.args.file.now t.take_lines-taken.ensures (unfold zeros in refl)
