use mathlib.Core.Path.{◌≡◌}
use Prim.Native.Nat.{ℕ, ◌≤◌, ◌^◌}
use lib.IntN.{pos, ◌*ℤ◌}
use lib.ListN.{length}
use Rattle.linear.specs.Slice.{at}
use Rattle.check_arrays.specs.Arrays.{PrefixIs}
use Rattle.check_residuals.proofs.scaled_right.Given as goal

abbrev pub invariant-loop-k : goal.invariant-loop-k
invariant-loop-k l = (l.k ≤ l.n) × ((length l.out ≡ 32) × PrefixIs (pos 0) l.out l.k (λ (i : ℕ). pos (2 ^ l.s) *ℤ at l.right i))
