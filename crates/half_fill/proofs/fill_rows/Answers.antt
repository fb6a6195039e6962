use mathlib.Core.Path.{refl, sym, ◌∙◌}
use native.Mathlib.Omega.{arith}
use Rattle.half_fill.proofs.Places.{count_next}
use Rattle.half_fill.proofs.Filling.{rows_none, rows_next}
use Rattle.half_fill.proofs.fill_rows.Goals as goal
use Rattle.half_fill.proofs.fill_rows.Goals.{Start}

pub loop-i-init : goal.loop-i-init
loop-i-init c = (omega arith, (omega arith, (refl, sym (rows_none c.args.n c.args.half.now))))

pub loop-i-preserved : goal.loop-i-preserved
loop-i-preserved c =
    let s = (goal.at.loop-i-preserved c).Start in
    let l = c.loop-i in
    (omega arith, (omega arith, (omega (arith, l.invariant.1.1.0, count_next l.i), (rw l.invariant.1.0 at c.fill_row.ensures) ∙ rows_next s.args.n s.args.half.now l.i l.invariant.1.1.1)))
