use mathlib.Core.Path.{◌≡◌}
use Prim.Native.Nat.{ℕ, ◌*◌, ◌≤◌}
use lib.IntN.{nat_abs}
use lib.ListN.{length}
use Rattle.integer.specs.Quotient.{ceil_div}
use Rattle.linear.specs.Slice.{at}
use Rattle.check_arrays.specs.Arrays.{PrefixIs}
use Rattle.check_ratios.proofs.ratio_bounds.Given as goal

abbrev pub invariant-loop-i : goal.invariant-loop-i
invariant-loop-i l = (l.i ≤ l.n) × ((length l.out ≡ 32) × PrefixIs 0 l.out l.i (λ (j : ℕ). ceil_div (nat_abs (at l.weights j) * l.p) l.g))
