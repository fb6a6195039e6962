use Rattle.std.proofs.Common.{ℕ}
use Rattle.linear.specs.Slice.{at}
use Rattle.check_arrays.specs.Arrays.{PrefixIs}
use Rattle.check_allowances.specs.Allowed.{slack_at}
use Rattle.check_allowances.proofs.slacks_of.Given as goal

abbrev pub invariant-loop-k : goal.invariant-loop-k
invariant-loop-k l = PrefixIs 0 l.slot-items l.k (λ (i : ℕ). slack_at l.s (at l.tolerance i))
