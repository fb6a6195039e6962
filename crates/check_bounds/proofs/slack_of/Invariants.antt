use mathlib.Core.Path.{◌≡◌}
use Prim.Native.Nat.{ℕ, ◌*◌}
use lib.IntN.{nat_abs}
use lib.ListN.{get_or, length}
use Rattle.integer.specs.Finite.{sumℕ}
use Rattle.check_biased_rows.specs.Biased.{unbiased_rows}
use Rattle.check_bounds.proofs.slack_of.Given as goal

abbrev pub invariant-loop-x : goal.invariant-loop-x
invariant-loop-x l = l.sum ≡ sumℕ (length l.yielded) (λ (k : ℕ). nat_abs (unbiased_rows l.rows l.n l.m k) * get_or l.slacks k 0)
