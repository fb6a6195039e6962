use mathlib.Core.Path.{◌≡◌}
use Prim.Native.Nat.{ℕ, ◌≤◌}
use lib.ListN.{get_or, length}
use Rattle.linear.specs.Place.{Carried, place_of}
use Rattle.check_arrays.specs.Arrays.{PrefixIs}
use Rattle.check_inverse_bounds.proofs.read_across.Given as goal

abbrev pub invariant-loop-m : goal.invariant-loop-m
invariant-loop-m l = (l.m ≤ l.j) × (Carried l.j l.n l.m l.across × ((length l.out ≡ 32) × PrefixIs 0 l.out l.m (λ (i : ℕ). get_or l.list (place_of l.n i l.j) 0)))
