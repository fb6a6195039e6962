use mathlib.Core.Path.{◌≡◌}
use Prim.Native.Nat.{ℕ, ◌+◌, ◌*◌}
use lib.IntN.{nat_abs}
use lib.ListN.{length}
use Rattle.integer.specs.Finite.{sumℕ}
use Rattle.linear.specs.Slice.{at}
use Rattle.check_margins.proofs.weighted_load.Given as goal

abbrev pub invariant-loop-d : goal.invariant-loop-d
invariant-loop-d l = l.sum ≡ sumℕ (length l.yielded) (λ (k : ℕ). nat_abs (at l.defects (l.m * l.n + k)) * nat_abs (at l.weights k))
