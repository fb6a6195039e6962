use mathlib.Core.Path.{◌≡◌, ◌∙◌}
use Prim.Native.Nat.{◌^◌, ◌/◌, ◌%◌, ◌<◌}
use native.Mathlib.Omega.{arith}
use lib.IntN.{nat_abs, pos}
use lib.ListN.{length-set, get_or}
use Rattle.integer.proofs.Machine.{read}
use Rattle.linear.proofs.Places.{square}
use Rattle.check_arrays.specs.Parts.{column_residual}
use Rattle.check_arrays.proofs.Columns.{in_square}
use Rattle.check_arrays.proofs.Filled.{prefix_more}
use Rattle.check_arrays.proofs.Magnitudes.{residual_magnitude}
use Rattle.check_defects.proofs.Product.{residual_of_rows}
use Rattle.weights_steps.proofs.defect_magnitudes.Goals as goal
use Rattle.weights_steps.proofs.defect_magnitudes.Goals.{In-loop-i, Start}

-- the residual of this turn
module _ (c : In-loop-i) where
  residual_is : get_or c.inverse_residuals_of.new.out c.loop-i.i (pos 0)
      ≡ column_residual c.args.n c.args.t c.args.inverse.now c.args.matrix.now (c.loop-i.i / c.args.n) (c.loop-i.i % c.args.n)
  residual_is =
      let a = c.args in
      let i = c.loop-i.i in
      let l = in_square a.n i c.loop-i-test.true in
      c.inverse_residuals_of.ensures.each i c.loop-i-test.true
      ∙ residual_of_rows a.n a.t a.inverse.now c.bias_rows.ensures (i / a.n) (i % a.n) l.0 l.1

  residual-here : nat_abs (get_or c.inverse_residuals_of.new.out c.loop-i.i (pos 0)) < 2 ^ 63
  residual-here =
      let s = (goal.at.In-loop-i c).Start in
      let i = c.loop-i.i in
      let l = in_square s.args.n i c.loop-i-test.true in
      rw residual_is
      (omega (arith, residual_magnitude s.args.n s.args.t s.args.inverse.now s.args.matrix.now s.requires.t_bound.0 s.requires.t_bound.1 s.requires.matrix_list.1 s.requires.matrix_list.0 (i / s.args.n) (i % s.args.n) l.0 l.1))

  inside : c.loop-i.i < 1024
  inside = omega (arith, square c.requires.t_bound.1, c.loop-i-test.true)

pub magnitude-requires : goal.magnitude-requires
magnitude-requires c = rw (read _ c.magnitude-arg-1.given) (residual-here (goal.at.magnitude-requires c).In-loop-i)

pub loop-i-preserved : goal.loop-i-preserved
loop-i-preserved c =
    let t = (goal.at.loop-i-preserved c).In-loop-i in
    let l = t.loop-i in (
      omega arith,
      (
        simp length-set l.invariant.1.0,
        prefix_more _ _ _ _ _ l.invariant.1.1 (omega (arith, inside (goal.at.loop-i-preserved c).In-loop-i)) (rw (read _ c.magnitude-arg-1.given, residual_is (goal.at.loop-i-preserved c).In-loop-i) at c.magnitude.ensures),
      ),
    )
