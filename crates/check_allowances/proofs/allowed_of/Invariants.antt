use Rattle.std.proofs.Common.{ℕ, pos, get_or}
use Rattle.check_arrays.specs.Arrays.{PrefixIs}
use Rattle.check_allowances.specs.Allowed.{allowed_beside}
use Rattle.check_allowances.proofs.allowed_of.Given as goal

abbrev pub invariant-loop-k : goal.invariant-loop-k
invariant-loop-k l = PrefixIs (pos 0) l.slot-items l.k (λ (i : ℕ). allowed_beside (get_or l.slacks i 0) (get_or l.sums i 0))
