use Prim.Native.Nat.{ℕ, ◌+◌, ◌*◌}
use Rattle.linear.specs.Slice.{at}
use Rattle.linear.specs.Place.{Carried}
use Rattle.check_biased_rows.proofs.Filling.{RowPart}
use Rattle.check_biased_rows.proofs.bias_row.Given as goal

abbrev pub invariant-loop-slot : goal.invariant-loop-slot
invariant-loop-slot l =
    (Carried l.start l.stride l.slot-index l.from) × RowPart l.initial.slot-items l.slot-items 0 l.slot-index (λ (j : ℕ). at l.xs (l.start + j * l.stride)) l.sum
