use mathlib.Core.Path.{◌≡◌, ap, ◌∙◌}
use Prim.Native.Nat.{◌^◌}
use native.Mathlib.Omega.{arith}
use lib.IntN.{nat_abs, ◌-ℤ◌}
use mir.Syntax.{w64}
use mir.Val.{SFits}
use mir.ValLaws.{to_z-of_z}
use Rattle.integer.proofs.Absolute.{abs_sub}
use Rattle.integer.proofs.Machine.{small, read}
use Rattle.linear.specs.Matrix.{apply}
use Rattle.linear.specs.Slice.{vector_of, matrix_of}
use Rattle.linear.specs.Reach.{dot_of, Reach}
use Rattle.linear.proofs.Carried.{start_place}
use Rattle.linear.proofs.Places.{list_reach, dot_row, dot_magnitude}
use Rattle.dependent_coupling.proofs.base_at.Goals as goal
use Rattle.dependent_coupling.proofs.base_at.Goals.{After-dot, Start}

-- row k, at the place that was carried to it
module _ (s : Start) where
  row_here : Reach s.args.coupling.now s.args.row 1 s.args.marks (2 ^ 20)
  row_here = rw (start_place s.requires.carried) s.requires.reach

  row_is : dot_of s.args.coupling.now s.args.row 1 s.args.guess.now 0 1 s.args.marks ≡ apply s.args.marks (matrix_of s.args.coupling.now s.args.marks) (vector_of s.args.guess.now) s.args.k
  row_is = rw (start_place s.requires.carried) (dot_row s.args.marks s.args.coupling.now s.args.guess.now s.args.k)

-- what is taken from base: row k of C times the guess
row_taken : (c : After-dot) → c.dot.result ≡ apply c.args.marks (matrix_of c.args.coupling.now c.args.marks) (vector_of c.args.guess.now) c.args.k
row_taken c = c.dot.ensures ∙ row_is (goal.at.After-dot c).Start

fits : (c : After-dot) → SFits w64 (c.args.base -ℤ c.dot.result)
fits c =
    small (c.args.base -ℤ c.dot.result)
    (omega (arith, abs_sub c.args.base c.dot.result, ap nat_abs c.dot.ensures, dot_magnitude _ _ _ _ _ _ _ _ _ (row_here (goal.at.After-dot c).Start) (list_reach c.requires.column_list)))

pub overflow_sub-result : goal.overflow_sub-result
overflow_sub-result c = simp (read, c.ranges.base.sfits, c.dot.type_inv) (fits c)

pub returns : goal.returns
returns c =
    simp (read, c.ranges.base.sfits, c.dot.type_inv) (to_z-of_z w64 _ (fits c) ∙ ap (λ z. c.args.base -ℤ z) (row_taken (goal.at.returns c).After-dot))
