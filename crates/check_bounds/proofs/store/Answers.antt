use mathlib.Core.Path.{refl, sym}
use native.Mathlib.Omega.{arith}
use Rattle.linear.proofs.Written.{written_none, written_more}
use Rattle.check_bounds.proofs.store.Goals as goal

pub loop-i-init : goal.loop-i-init
loop-i-init c = (omega arith, (omega arith, sym (written_none _ _ _ _)))

pub loop-i-preserved : goal.loop-i-preserved
loop-i-preserved c =
    let l = c.loop-i in (omega arith, (omega arith, written_more _ _ _ _ l.i l.invariant.1.1 l.invariant.1.0 refl))
