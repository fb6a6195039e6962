use Rattle.build.proofs.Ends.{long_right, matrix_room}
use native.Mathlib.Omega.{arith}
use Rattle.build.proofs.finish.Goals as goal

pub write_equations-requires-clause-n_in_bounds : goal.write_equations-requires-clause-n_in_bounds
write_equations-requires-clause-n_in_bounds c =
    let r = c.requires.lines.ready c.in_ok-g.was in
    let l = c.requires.long c.in_ok-g.was in (
      matrix_room c.args.layout c.args.g.progress.n c.args.matrix.now c.args.right.now r.size l,
      omega (arith, r.size, long_right c.args.layout c.args.matrix.now c.args.right.now l),
    )
