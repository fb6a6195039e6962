use mathlib.Core.Path.{◌≡◌}
use Prim.Native.Nat.{◌≤◌}
use lib.ListN.{length}
use Rattle.linear.specs.Place.{Carried}
use Rattle.check_arrays.specs.Arrays.{columns_written}
use Rattle.check_defects.specs.Difference.{difference}
use Rattle.check_defects.proofs.differences_of.Given as goal

abbrev pub invariant-loop-m : goal.invariant-loop-m
invariant-loop-m l = (l.m ≤ l.n) × (Carried 0 l.step l.m l.start × ((length l.sums ≡ 64) × (l.out ≡ columns_written l.initial.out l.n (difference l.n l.t l.xs l.step l.stride l.rows) l.m)))
