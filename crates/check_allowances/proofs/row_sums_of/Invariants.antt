use Rattle.linear.specs.Place.{Carried}
use Rattle.check_arrays.specs.Arrays.{PrefixIs}
use Rattle.check_allowances.specs.Sum.{row_sum_of}
use Rattle.check_allowances.proofs.row_sums_of.Given as goal

abbrev pub invariant-loop-k : goal.invariant-loop-k
invariant-loop-k l = Carried 0 l.n l.k l.row × PrefixIs 0 l.slot-items l.k (row_sum_of l.n l.matrix)
