-- Cases a to k of document 01 follow from the definitions that the contract of `check` cites; and its whole file meets both halves of demand 3 on `check` itself.
--   check_cases_hold — one theorem for all rows of the table, computed
--   limits_hold   — one for the limits that 01 states, by the definitions in force
--   row_sums_hold, tolerances_hold — one for the rows at and above the sum along a row, one for the rows with tolerances
--   file_usable, file_rounded_here, file_accepted — the whole file passes 8 and 3, is a rounded exact proposal, and is accepted
use mathlib.Core.Path.{◌≡◌, refl, ◌∙◌}
use mathlib.Core.Bool.{true}
use mathlib.Core.List.{[]}
use lib.Dec.{lit<}
use Rattle.integer.specs.Finite.{sum, sumℕ, largest, first, every}
use Rattle.integer.specs.Quotient.{ceil_div}
use Rattle.linear.specs.Matrix.{apply, product, identity}
use Rattle.linear.specs.Written.{written}
use Rattle.rules.specs.Range.{ranges, range_of, in_range, all_in_range}
use Rattle.enclosure.specs.Demand.{RoundedExact}
use Rattle.enclosure.specs.Example as example
use Rattle.enclosure.specs.Reckoning.{defect, load, margin, residual, row_sum, exceeds, magnitudes_with, bound_from, bound_with, bound}
use Rattle.enclosure.proofs.Instance.{file_rounded, file_sound}
use Rattle.check_spec.specs.Cases.{rows, row_sum_rows, tolerance_rows, all_rows_hold, case_input, e}
use Rattle.check_spec.specs.Cases01.{rows01, all_limits_hold}
use Rattle.check_spec.specs.Checked.{solution_bounds_after, inverse_bounds_after}
use Rattle.check_spec.specs.Input.{Input, problem}
use Rattle.check_spec.specs.Order.{answer}
use Rattle.check_spec.specs.Stated.{Usable}
use Rattle.check_spec.proofs.Contract.{answer_ready, sound_code}

pub check_cases_hold : all_rows_hold rows ≡ true
unfolding answer solution_bounds_after inverse_bounds_after written bound bound_with bound_from magnitudes_with exceeds row_sum residual margin load defect product apply identity sum sumℕ largest first ceil_div all_in_range in_range range_of ranges every
check_cases_hold = refl

pub limits_hold : all_limits_hold rows01 ≡ true
unfolding bound bound_with bound_from magnitudes_with residual margin load defect product apply identity sum sumℕ largest ceil_div
limits_hold = refl

pub row_sums_hold : all_rows_hold row_sum_rows ≡ true
unfolding answer solution_bounds_after inverse_bounds_after written bound bound_with bound_from magnitudes_with exceeds row_sum residual margin load defect product apply identity sum sumℕ largest first ceil_div all_in_range in_range range_of ranges every
row_sums_hold = refl

pub tolerances_hold : all_rows_hold tolerance_rows ≡ true
unfolding answer solution_bounds_after inverse_bounds_after written bound bound_with bound_from magnitudes_with exceeds row_sum residual margin load defect product apply identity sum sumℕ largest first ceil_div all_in_range in_range range_of ranges every
tolerances_hold = refl

abbrev pub file_input : Input
file_input = case_input e

pub file_usable : Usable file_input
unfolding all_in_range in_range range_of ranges every
file_usable = record { long = refl; inside = refl }

pub file_rounded_here : RoundedExact (problem file_input) example.exact 11 example.exact_inverse 11
file_rounded_here = file_rounded

pub file_accepted : answer file_input ≡ []
file_accepted = answer_ready file_input file_usable.long file_usable.inside ∙ sound_code (problem file_input) (lit< tt) file_sound
