-- The table of worked factors holds (specs/Cases), by computing.
use mathlib.Core.Path.{◌≡◌, refl}
use mathlib.Core.Bool.{true}
use Rattle.integer.specs.Finite.{sum, sumℕ, first}
use Rattle.linear.specs.Matrix.{apply, product, identity}
use Rattle.enclosure.specs.Reckoning.{defect, load, margin}
use Rattle.quality_spec.specs.Peak.{peak}
use Rattle.quality_spec.specs.Cases.{factor_cases, factor_cases_hold}

pub factor_cases_hold_lem : factor_cases_hold factor_cases ≡ true
unfolding sum sumℕ first apply product identity defect load margin peak
factor_cases_hold_lem = refl
