use Rattle.std.proofs.Common.{◌≡◌, ℕ, ◌+◌, ◌*◌, ◌<◌}
use Rattle.linear.specs.Slice.{at}
use Rattle.check_symmetry.proofs.is_row_symmetric.Given as goal

abbrev pub invariant-loop-x : goal.invariant-loop-x
invariant-loop-x l = (l.down ≡ l.x-index * l.n + l.i) × ((k : ℕ) → k < l.x-index → at l.xs (l.i * l.n + k) ≡ at l.xs (k * l.n + l.i))
