use native.Mathlib.Omega.{arith}
use Rattle.check_ratios.proofs.Ratios.{best_next}
use Rattle.check_ratios.proofs.largest_ratio_by_quotients.Goals as goal
use Rattle.check_ratios.proofs.largest_ratio_by_quotients.Goals.{Start}

pub loop-m-preserved : goal.loop-m-preserved
loop-m-preserved c =
    let s = (goal.at.loop-m-preserved c).Start in
    let l = c.loop-m in
    (omega arith, (omega arith, best_next _ _ l.m (λ k h. s.requires.positive.above k (omega arith)) l.invariant.1.1 c.ratio_of.ensures c.larger_ratio-best.ensures))
