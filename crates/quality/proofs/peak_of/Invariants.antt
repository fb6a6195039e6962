use Prim.Native.Nat.{ℕ, ◌≤◌}
use lib.ListN.{get_or}
use Rattle.quality_spec.proofs.Peak.{Leading}
use Rattle.quality.proofs.peak_of.Given as goal

abbrev pub invariant-loop-m : goal.invariant-loop-m
invariant-loop-m l = (1 ≤ l.m) × ((l.m ≤ l.n) × Leading l.m (λ (i : ℕ). get_or l.spreads i 0) (λ (i : ℕ). get_or l.margins i 0) l.k)
