use mathlib.Core.Bool.{false}
use mathlib.Core.Path.{◌≡◌}
use Prim.Native.Nat.{ℕ, ◌<◌, ◌^◌}
use lib.ListN.{length}
use Rattle.linear.specs.Slice.{at}
use Rattle.check_arrays.specs.Parts.{above_allowed}
use Rattle.check_residuals.proofs.is_near.Given as goal

abbrev pub invariant-loop-z : goal.invariant-loop-z
invariant-loop-z l = l.all < 2 ^ 62 → (i : ℕ) → i < length l.yielded → above_allowed (at l.allowed i) (at l.column i) ≡ false
