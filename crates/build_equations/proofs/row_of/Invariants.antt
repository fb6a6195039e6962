use Rattle.build_equations.specs.Kept.{RowSums}
use Rattle.build_equations.proofs.row_of.Given as goal

abbrev pub invariant-loop-l : goal.invariant-loop-l
invariant-loop-l l = RowSums l.seen l.k l.l-index l.row
