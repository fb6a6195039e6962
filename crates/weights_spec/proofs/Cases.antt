-- The table of worked sequences holds (specs/Cases), by computing.
use mathlib.Core.Path.{◌≡◌, refl}
use mathlib.Core.Bool.{true}
use Rattle.integer.specs.Finite.{sum, sumℕ, largest, first}
use Rattle.linear.specs.Matrix.{apply, product, identity}
use Rattle.enclosure.specs.Reckoning.{defect, load, margin}
use Rattle.weights_spec.specs.Sequence.{bits, tried, good}
use Rattle.weights_spec.specs.Cases.{search_cases, search_cases_hold}

pub search_cases_hold_lem : search_cases_hold search_cases ≡ true
unfolding sum sumℕ largest first apply product identity defect load margin bits tried good
search_cases_hold_lem = refl
