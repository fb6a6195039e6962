-- The theorems for specs/Paper03, a theorem for each statement.
use mathlib.Core.Path.{refl, sym, subst, ◌∙◌}
use Rattle.rules.specs.Range.{in_range, range_of, ranges}
use Rattle.build_lines.specs.Distinct.{weight_at, gain}
use Rattle.build_lines.specs.Stated.{BuildStated}
use Rattle.build_lines.proofs.Statements.{stated, code_of_lem}
use Rattle.build.specs.BuiltAs.{short_for}
use Rattle.build.proofs.Held.{held, right_held, repeated_built}
use Rattle.build.proofs.Diagonal.{diagonal_held}
use Rattle.promises.specs.Paper03 as paper
use Rattle.promises.specs.Ways.{Refused}
use Rattle.promises.proofs.Ways.{refused_old}

pub lines_ranged : paper.LinesRanged
unfolding in_range range_of ranges
lines_ranged = (λ z. refl, (λ z. refl, (λ z. refl, λ z. refl)))

pub matrix_filled : paper.MatrixFilled
unfolding weight_at
matrix_filled n ls a b r a' b' x e i j li lj = (held n ls a b x e).matrix i j li lj

pub right_filled : paper.RightFilled
unfolding gain
right_filled n ls layout a b r a' b' x e i l = right_held n ls layout a b x e i l

pub diagonal_twice : paper.DiagonalTwice
diagonal_twice n ls layout a b r a' b' x e = diagonal_held layout n ls a b x e

pub repeat_changes_nothing : paper.RepeatChangesNothing
repeat_changes_nothing n l xs ys layout a b r s a' b' a'' b'' x e i count_max y = repeated_built n l xs ys layout a b x e i count_max y

pub build_refuses_as_stated : paper.BuildRefusesAsStated
build_refuses_as_stated n ls layout a b r a' b' x w =
    let short = short_for layout a b in
    (λ e. subst (BuildStated n ls short) (sym x.says ∙ e) (stated n ls short), λ y. x.says ∙ code_of_lem n ls short y)

pub refused_build_leaves : paper.RefusedBuildLeaves
refused_build_leaves n ls layout a b r a' b' x h =
    let k : Refused _ = rw x.says at h in
    (x.matrix ∙ refused_old _ _ _ k, x.right ∙ refused_old _ _ _ k)
