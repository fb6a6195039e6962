use Prim.Native.Nat.{◌/◌, ◌%◌}
use lib.IntN.{pos}
use Rattle.check_arrays.proofs.Columns.{in_square}
use Rattle.check_arrays.proofs.Filled.{prefix_as}
use Rattle.check_defects.proofs.Product.{columns_defect}
use Rattle.check_defects.proofs.defects_of.Goals as goal
use Rattle.check_defects.proofs.defects_of.Goals.{After-bias_columns, Start}

pub returns : goal.returns
returns c =
    let r = (goal.at.returns c).After-bias_columns in
    let s = (goal.at.returns c).Start in
    prefix_as (pos 0) _ _
    (λ i l. let k = in_square s.args.n i l in columns_defect s.args.n s.args.t s.args.matrix.now r.bias_columns.ensures (i / s.args.n) (i % s.args.n) k.0 k.1)
    c.differences_of.ensures
