use Rattle.std.proofs.Common.{ℕ, ◌<◌, arith, length-take, get_or-take}
use Rattle.linear.proofs.Places.{row_reach}
use Rattle.dependent_coupling.proofs.Rows.{carried_magnitude}
use Rattle.dependent_coupling.proofs.slacks_with.Goals as goal
use Rattle.dependent_coupling.proofs.slacks_with.Goals.{In-loop-k, Start}

pub overflow_add-out : goal.overflow_add-out
overflow_add-out c =
    let s = (goal.at.overflow_add-out c).Start in
    let k = c.loop-k.k in
    let below : k < s.args.n = omega (arith, length-take {A = ℕ}) in
    rw (c.carried_at.ensures, get_or-take s.args.n s.args.slacks k 0 below)
    (omega (arith, carried_magnitude k s.requires.marks_bound.0 (row_reach s.requires.column_list k below) s.args.limits s.args.marks (omega arith), s.requires.by_index k below))
