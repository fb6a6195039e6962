use mathlib.Core.Path.{◌≡◌}
use Prim.Native.Nat.{◌≤◌}
use lib.ListN.{length}
use Rattle.check_arrays.specs.Arrays.{PrefixIs}
use Rattle.weights_steps.specs.Steps.{shifted_next}
use Rattle.weights_steps.proofs.next_weights.Given as goal

abbrev pub invariant-loop-i : goal.invariant-loop-i
invariant-loop-i l = (l.i ≤ l.n) × ((length l.out ≡ 32) × PrefixIs 0 l.out l.i (shifted_next l.n l.loads))
