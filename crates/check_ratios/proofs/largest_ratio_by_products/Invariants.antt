use Prim.Native.Nat.{ℕ, ◌≤◌}
use lib.ListN.{get_or}
use Rattle.integer.specs.LargestRatio.{LargestRatio}
use Rattle.check_ratios.proofs.largest_ratio_by_products.Given as goal

abbrev pub invariant-loop-m : goal.invariant-loop-m
invariant-loop-m l = (1 ≤ l.m) × ((l.m ≤ l.n) × LargestRatio l.m (λ (i : ℕ). get_or l.magnitudes i 0) (λ (i : ℕ). get_or l.margins i 0) l.k)
