use mathlib.Core.Path.{◌≡◌}
use Prim.Native.Nat.{◌≤◌}
use lib.IntN.{pos}
use lib.ListN.{length}
use Rattle.linear.specs.Place.{Carried}
use Rattle.check_arrays.specs.Arrays.{PrefixIs}
use Rattle.check_arrays.specs.Parts.{residual_from}
use Rattle.dependent_coupling.proofs.base_of.Given as goal

abbrev pub invariant-loop-k : goal.invariant-loop-k
invariant-loop-k l = (l.k ≤ l.n) × (Carried 0 l.marks l.k l.row × ((length l.out ≡ 32) × PrefixIs (pos 0) l.out l.k (residual_from l.marks l.fn.base l.coupling l.guess)))
