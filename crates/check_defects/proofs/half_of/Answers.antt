use mir.Syntax.{w64}
use mir.ValLaws.{to_z-of_z}
use Rattle.check_defects.proofs.Halves.{half_below, half_above}
use Rattle.check_defects.proofs.half_of.Goals as goal

pub returns-then-x-lt0-clause-value : goal.returns-then-x-lt0-clause-value
returns-then-x-lt0-clause-value c = half_below c.args.x (simp (to_z-of_z w64, c.ranges.x) at c.if-x-lt0.true)

pub returns-else-x-lt0-clause-value : goal.returns-else-x-lt0-clause-value
returns-else-x-lt0-clause-value c = half_above c.args.x (simp (to_z-of_z w64, c.ranges.x) at c.if-x-lt0.false)
