use mathlib.Core.Path.{◌≡◌}
use Prim.Native.Nat.{ℕ, ◌*◌, ◌≤◌, ◌-◌, ◌^◌}
use lib.IntN.{nat_abs}
use lib.ListN.{length}
use Rattle.linear.specs.Slice.{at}
use Rattle.linear.specs.Place.{Carried}
use Rattle.check_arrays.specs.Arrays.{PrefixIs}
use Rattle.check_margins.specs.Load.{load_from}
use Rattle.check_margins.proofs.margins_from.Given as goal

abbrev pub invariant-loop-m : goal.invariant-loop-m
invariant-loop-m l = (l.m ≤ l.n) × (Carried 0 l.n l.m l.row × ((length l.out ≡ 32) × PrefixIs 0 l.out l.m (λ (k : ℕ). 2 ^ l.t * nat_abs (at l.weights k) - load_from l.n l.defects l.weights k)))
