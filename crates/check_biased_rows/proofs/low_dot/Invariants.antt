use Rattle.std.proofs.Common.{◌≡◌, ℕ, ◌*◌, length, get_or}
use Rattle.integer.specs.Finite.{sumℕ}
use Rattle.check_biased_rows.proofs.low_dot.Given as goal

abbrev pub invariant-loop-x : goal.invariant-loop-x
invariant-loop-x l = l.sum ≡ sumℕ (length l.yielded) (λ (j : ℕ). get_or l.a j 0 * get_or l.b j 0)
