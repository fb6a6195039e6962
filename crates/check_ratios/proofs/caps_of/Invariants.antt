use Rattle.check_arrays.specs.Arrays.{PrefixIs}
use Rattle.linear.specs.Slice.{at}
use Rattle.integer.specs.Finite.{largest}
use lib.ListN.{get_or, length}
use lib.IntN.{nat_abs}
use Prim.Native.Nat.{ℕ, ◌/◌, ◌≤◌}
use mathlib.Core.Path.{◌≡◌}
use Rattle.check_ratios.proofs.caps_of.Given as goal

abbrev pub invariant-loop-m : goal.invariant-loop-m
invariant-loop-m l = (l.m ≤ l.n) × ((length l.out ≡ 32) × PrefixIs 0 l.out l.m (λ (k : ℕ). get_or l.margins k 0 / largest l.n (λ (i : ℕ). nat_abs (at l.weights i))))
