-- Cases a to k of document 01, as 01 answers them, follow from the definitions of the check before 02's Paper 9 (specs/Before): each theorem is one table, computed.
--   cases_01, cases_05 — the cases by the check of document 01, and by that of Paper 5
--   tolerances_05      — the rows with tolerances by that of Paper 5
use mathlib.Core.Path.{◌≡◌, refl}
use mathlib.Core.Bool.{true}
use Rattle.integer.specs.Finite.{sum, sumℕ, largest, first, every}
use Rattle.integer.specs.Quotient.{ceil_div}
use Rattle.linear.specs.Matrix.{apply, product, identity}
use Rattle.linear.specs.Written.{written}
use Rattle.rules.specs.Range.{ranges, range_of, in_range, all_in_range}
use Rattle.enclosure.specs.Reckoning.{defect, load, margin, residual, magnitudes_with, bound_from, bound_with, bound}
use Rattle.enclosure.specs.Schroeder.{image}
use Rattle.check_spec.specs.Before.{answer05, solution_after05, inverse_after05, answer01, written01, solution_after01, inverse_after01}
use Rattle.check_spec.specs.Cases.{tolerance_rows}
use Rattle.check_spec.specs.Cases01.{rows01, all_hold01, all_hold05}

pub cases_01 : all_hold01 rows01 ≡ true
unfolding answer01 solution_after01 inverse_after01 written01 bound_from image residual margin load defect product apply identity sum sumℕ largest first ceil_div all_in_range in_range range_of ranges every
cases_01 = refl

pub cases_05 : all_hold05 rows01 ≡ true
unfolding answer05 solution_after05 inverse_after05 written bound bound_with bound_from magnitudes_with residual margin load defect product apply identity sum sumℕ largest first ceil_div all_in_range in_range range_of ranges every
cases_05 = refl

pub tolerances_05 : all_hold05 tolerance_rows ≡ true
unfolding answer05 solution_after05 inverse_after05 written bound bound_with bound_from magnitudes_with residual margin load defect product apply identity sum sumℕ largest first ceil_div all_in_range in_range range_of ranges every
tolerances_05 = refl
