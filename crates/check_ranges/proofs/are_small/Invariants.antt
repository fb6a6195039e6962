use Prim.Native.Nat.{ℕ, ◌≤◌, ◌<◌}
use lib.Signed.{mag}
use Rattle.linear.specs.Slice.{at}
use Rattle.rules.specs.declared.Kind.TheVariants as kind
use Rattle.check_ranges.proofs.are_small.Given as goal

abbrev pub invariant-loop-i : goal.invariant-loop-i
invariant-loop-i l = (l.i ≤ l.n) × ((j : ℕ) → j < l.i → (mag (at l.xs j) ≤ l.all) × (mag (at l.ys j) ≤ l.all))
