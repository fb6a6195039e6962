use mathlib.Core.Path.{◌≡◌, ap, ◌∙◌}
use Prim.Native.Nat.{◌^◌}
use native.Mathlib.Omega.{arith}
use lib.IntN.{nat_abs, ◌-ℤ◌}
use mir.Syntax.{w64}
use mir.Val.{SFits}
use mir.ValLaws.{to_z-of_z}
use Rattle.integer.proofs.Absolute.{abs_sub}
use Rattle.integer.proofs.Machine.{small, read}
use Rattle.linear.specs.Matrix.{apply}
use Rattle.linear.specs.Slice.{vector_of, matrix_of}
use Rattle.linear.specs.Reach.{dot_of, Reach}
use Rattle.linear.proofs.Carried.{start_place}
use Rattle.linear.proofs.Places.{row_reach, list_reach, square_list, dot_row, dot_magnitude}
use Rattle.check_residuals.proofs.difference.Goals as goal
use Rattle.check_residuals.proofs.difference.Goals.{After-dot, Start}

-- row k, at the place that was carried to it
module _ (s : Start) where
  row_here : Reach s.args.a.now s.args.p 1 s.args.n (2 ^ 20)
  row_here = rw (start_place s.requires.carried) (row_reach (square_list s.requires.matrix_list) s.args.k s.requires.n_bound.1.0)

  row_is : dot_of s.args.a.now s.args.p 1 s.args.x.now 0 1 s.args.n ≡ apply s.args.n (matrix_of s.args.a.now s.args.n) (vector_of s.args.x.now) s.args.k
  row_is = rw (start_place s.requires.carried) (dot_row s.args.n s.args.a.now s.args.x.now s.args.k)

fits : (c : After-dot) → SFits w64 (c.args.base -ℤ c.dot.result)
fits c =
    small (c.args.base -ℤ c.dot.result)
    (omega (arith, abs_sub c.args.base c.dot.result, ap nat_abs c.dot.ensures, dot_magnitude _ _ _ _ _ _ _ _ _ (row_here c.before) (list_reach c.requires.column_list)))

pub overflow_sub-result : goal.overflow_sub-result
overflow_sub-result c = simp (read, c.ranges.base.sfits, c.dot.type_inv) (fits c)

pub returns : goal.returns
returns c =
    simp (read, c.ranges.base.sfits, c.dot.type_inv) (to_z-of_z w64 _ (fits c) ∙ ap (λ z. c.args.base -ℤ z) (c.dot.ensures ∙ row_is (goal.at.returns c).Start))
