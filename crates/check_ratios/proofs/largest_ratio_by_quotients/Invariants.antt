use Prim.Native.Nat.{ℕ, ◌≤◌}
use lib.ListN.{get_or}
use Rattle.check_ratios.proofs.Ratios.{Best}
use Rattle.check_ratios.proofs.largest_ratio_by_quotients.Given as goal

abbrev pub invariant-loop-m : goal.invariant-loop-m
invariant-loop-m l = (1 ≤ l.m) × ((l.m ≤ l.n) × Best (λ (k : ℕ). get_or l.magnitudes k 0) (λ (k : ℕ). get_or l.margins k 0) l.m l.best)
