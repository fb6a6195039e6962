use mathlib.Core.Path.{sym}
use native.Mathlib.Omega.{arith}
use Rattle.quality_spec.proofs.Peak.{leading_stays, leading_moves, leading_end, peak_is}
use Rattle.quality.proofs.peak_of.Goals as goal
use Rattle.quality.proofs.peak_of.Goals.{then-spreads-k, else-spreads-k, In-loop-m, Start}

pub loop-m-preserved : goal.loop-m-preserved
loop-m-preserved c =
    let here = (goal.at.loop-m-preserved c).In-loop-m in
    let s = (goal.at.loop-m-preserved c).Start in
    let l = here.loop-m in
    let i = l.invariant.1.1 in
    let t = here.loop-m-test.true in (
      omega arith,
      (
        omega arith,
        elim c.if-spreads-k.branch [
          | then-spreads-k w ↦ rw w.k-is (leading_moves l.m _ _ l.k (λ j lj. (s.requires.by_index_2 j (omega arith)).0) i w.if-spreads-k.true)
          | else-spreads-k w ↦ rw w.k-is (leading_stays l.m _ _ l.k i w.if-spreads-k.false)
        ],
      ),
    )

pub returns : goal.returns
returns c =
    let i = leading_end _ _ _ c.loop-m.invariant.1.0 c.loop-m-test.false c.loop-m.invariant.1.1 in
    (i.largest_ratio_row.below, sym (peak_is _ _ _ _ i))
