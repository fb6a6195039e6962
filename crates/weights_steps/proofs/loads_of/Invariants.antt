use mathlib.Core.Path.{◌≡◌}
use Prim.Native.Nat.{◌≤◌}
use lib.ListN.{length}
use Rattle.check_arrays.specs.Arrays.{PrefixIs}
use Rattle.weights_steps.specs.Steps.{stored_load}
use Rattle.weights_steps.proofs.loads_of.Given as goal

abbrev pub invariant-loop-m : goal.invariant-loop-m
invariant-loop-m l = (l.m ≤ l.n) × ((length l.out ≡ 32) × PrefixIs 0 l.out l.m (stored_load l.n l.magnitudes l.weights))
