use mathlib.Core.Path.{sym}
use Prim.Native.Nat.{ℕ}
use lib.IntN.{ℤ, nat_abs}
use lib.ListN.{length-take}
use native.Mathlib.Omega.{arith}
use Rattle.linear.specs.Slice.{at}
use Rattle.enclosure.proofs.Bounds.{bound_at}
use Rattle.check_arrays.proofs.Filled.{prefix_end, prefix_as}
use Rattle.check_ratios.proofs.ratio_bounds.Goals as goal
use Rattle.check_ratios.proofs.ratio_bounds.Goals.{After-way_told-1}

pub returns : goal.returns
returns c =
    let s = (goal.at.returns c).After-way_told-1 in
    let k = c.largest_ratio_of-k.ensures in
    prefix_as 0 _ _ (λ i l. sym (bound_at _ _ _ (λ (j : ℕ). nat_abs (at s.args.weights.now j)) i _ s.requires.positive.above k))
    (prefix_end 0 c.loop-i.invariant.0 (omega (arith, length-take {A = ℤ}, s.requires.column_list.long)) c.loop-i.invariant.1.1)
