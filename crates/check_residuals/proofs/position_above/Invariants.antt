use mathlib.Core.Bool.{false}
use mathlib.Core.Path.{◌≡◌}
use Prim.Native.Nat.{ℕ, ◌<◌}
use Rattle.linear.specs.Slice.{at}
use Rattle.check_arrays.specs.Parts.{above_allowed}
use Rattle.check_residuals.proofs.position_above.Given as goal

abbrev pub invariant-loop-k : goal.invariant-loop-k
invariant-loop-k l = (i : ℕ) → i < l.k → above_allowed (at l.allowed i) (at l.column i) ≡ false
