use mathlib.Core.Path.{◌≡◌}
use Prim.Native.Nat.{ℕ, ◌+◌, ◌≤◌}
use lib.ListN.{get_or, length}
use Rattle.linear.specs.Place.{Carried}
use Rattle.check_arrays.specs.Arrays.{PrefixIs}
use Rattle.dependent_coupling.specs.Carried.{capped_sum}
use Rattle.dependent_coupling.proofs.slacks_with.Given as goal

abbrev pub invariant-loop-k : goal.invariant-loop-k
invariant-loop-k l = (l.k ≤ l.n) × (Carried 0 l.marks l.k l.row × ((length l.out ≡ 32) × PrefixIs 0 l.out l.k (λ (i : ℕ). capped_sum l.marks l.coupling l.limits i + get_or l.fn.slacks i 0)))
