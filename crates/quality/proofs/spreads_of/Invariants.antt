use mathlib.Core.Path.{◌≡◌}
use Prim.Native.Nat.{ℕ, ◌*◌, ◌≤◌, ◌-◌, ◌^◌}
use lib.IntN.{nat_abs}
use lib.ListN.{get_or, length}
use Rattle.linear.specs.Slice.{at}
use Rattle.check_arrays.specs.Arrays.{PrefixIs}
use Rattle.quality.proofs.spreads_of.Given as goal

abbrev pub invariant-loop-m : goal.invariant-loop-m
invariant-loop-m l = (l.m ≤ l.n) × ((length l.out ≡ 32) × PrefixIs 0 l.out l.m (λ (k : ℕ). 2 * (2 ^ l.t * nat_abs (at l.weights k)) - get_or l.margins k 0))
