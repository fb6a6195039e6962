use Prim.Native.Nat.{◌/◌, ◌%◌}
use lib.IntN.{pos}
use Rattle.check_arrays.proofs.Filled.{prefix_as}
use Rattle.check_defects.proofs.Product.{rows_residual}
use Rattle.check_defects.proofs.inverse_residuals_of.Goals as goal

pub returns : goal.returns
returns c =
    let a = c.args in
    prefix_as (pos 0) _ _ (λ i l. rows_residual a.n a.t a.matrix.now a.rows.now (i / a.n) (i % a.n)) c.differences_of.ensures
