use Rattle.std.proofs.Common.{◌∙◌, arith}
use Rattle.check_allowances.proofs.Magnitudes.{partial_magnitude, row_slice}
use Rattle.check_allowances.proofs.row_sum.Goals as goal

pub sum_of_magnitudes-requires : goal.sum_of_magnitudes-requires
sum_of_magnitudes-requires c =
    let h = c.requires in
    rw (row_slice h.carried h.n_bound.1 h.column_list) (omega (arith, partial_magnitude h.n_bound.0 h.column_list _ h.n_bound.1 c.args.n (omega arith)))

pub returns : goal.returns
returns c = c.sum_of_magnitudes.ensures ∙ row_slice c.requires.carried c.requires.n_bound.1 c.requires.column_list
