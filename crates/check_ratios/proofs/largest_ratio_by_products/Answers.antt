use Prim.Native.Nat.{◌<◌}
use native.Mathlib.Omega.{arith}
use lib.ListN.{get_or}
use Rattle.check_ratios.proofs.Ratios.{product_moves, product_stays}
use Rattle.check_ratios.proofs.largest_ratio_by_products.Goals as goal
use Rattle.check_ratios.proofs.largest_ratio_by_products.Goals.{then-is_larger_ratio, else-is_larger_ratio, Start}

pub loop-m-preserved : goal.loop-m-preserved
loop-m-preserved c =
    let s = (goal.at.loop-m-preserved c).Start in
    let l = c.loop-m in
    let i = l.invariant.1.1 in
    let above : 0 < get_or s.args.margins.now l.k 0 = s.requires.positive.above _ (omega (arith, i.below)) in
    let e = c.is_larger_ratio.ensures in (
      omega arith,
      (
        omega arith,
        elim c.if-is_larger_ratio.branch [
          | then-is_larger_ratio w ↦ rw w.k-is (product_moves _ _ l.m l.k above i e w.if-is_larger_ratio.true)
          | else-is_larger_ratio w ↦ rw w.k-is (product_stays _ _ l.m l.k i e w.if-is_larger_ratio.false)
        ],
      ),
    )
