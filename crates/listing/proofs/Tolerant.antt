-- Demand 3 of a file with a tolerance is not empty (02, Paper 5): a file with d = 3 is accepted, a right side at the corner of the tolerance has a solution, and
-- that solution is as far from the guess as the limit says.
--   tolerant_file_lem, tolerant_accepted — its listing, computed
--   tolerant_right, tolerant_exact — 9, over 3, differs from b by d, and 3 is its solution;  tolerant_reached — the limit is reached there
use mathlib.Core.Path.{◌≡◌, refl, sym, subst}
use mathlib.Core.Bool.{true}
use mathlib.Core.List.{List, [], ◌∷◌}
use Prim.Native.Nat.{◌*◌}
use lib.Dec.{lit≤}
use lib.IntN.{pos, nat_abs, ◌-ℤ◌, ◌*ℤ◌}
use Rattle.integer.specs.Finite.{sum, sumℕ, largest, first}
use Rattle.integer.specs.Quotient.{ceil_div, round_div}
use Rattle.integer.proofs.Below.{only}
use Rattle.linear.specs.Matrix.{apply, product, identity}
use Rattle.rules.specs.Range.{ranges, range_of, in_range}
use Rattle.entry.specs.Entry.{entry_bound}
use Rattle.enclosure.specs.Demand.{RightSide, ExactSolutionOf}
use Rattle.enclosure.specs.Example.{far_right, far_height}
use Rattle.enclosure.specs.Problem.{Problem, S}
use Rattle.enclosure.specs.Reckoning.{defect, load, margin, residual, row_sum, exceeds, magnitudes_with, bound_from, bound_with, bound}
use Rattle.check_spec.specs.Order.{checked_of}
use Rattle.line_numeral.specs.Decimal.{digits, decimal, numeral}
use Rattle.line_form.specs.List.{all_inside}
use Rattle.line_form.specs.Form.{Form, problem, scale, row, right_within, guess, inverse, end}
use Rattle.line_form.specs.Spelling.{numerals, spell}
use Rattle.loader_bit_set.specs.Places.{with_place, lacking}
use Rattle.loader_progress.specs.Progress.{missing, misplaced}
use Rattle.loader.specs.Taken.{fresh}
use Rattle.loader.proofs.Exact.{form_code}
use Rattle.loader_runs.specs.Given.{value_from, size_from, scales_from}
use Rattle.loader_runs.specs.Lines.{lines_of}
use Rattle.loader_runs.proofs.Passing.{spelled, passes}
use Rattle.listing_text.specs.Line.{each}
use Rattle.listing_report.specs.Report.{report_of}
use Rattle.file_check.specs.Judged.{reported_of, problem_from}
use Rattle.listing.specs.Cases.{tolerant_file, tolerant_listing}
use Rattle.listing.specs.Listing.{problem_in, answer_of, listing_of}
use Rattle.listing.proofs.Table.{problem_is, answer_is, listing_is}

abbrev tolerant_forms : List Form
tolerant_forms =
    problem (pos 1)
    ∷ scale (pos 4) (pos 4)
    ∷ row (pos 1) (pos 1) []
    ∷ right_within (pos 1) (pos 0) (pos 3)
    ∷ guess (pos 1) (pos 0)
    ∷ inverse (pos 1) (pos 16) []
    ∷ end
    ∷ []

tolerant_spelled : lines_of tolerant_file ≡ spelled tolerant_forms
unfolding lines_of spell numerals numeral decimal digits
tolerant_spelled = refl

tolerant_passes : passes fresh tolerant_forms ≡ true
unfolding passes form_code spell numerals numeral decimal digits missing misplaced with_place lacking all_inside sumℕ in_range range_of ranges
tolerant_passes = refl

tolerant_checked : checked_of (problem_from tolerant_forms) ≡ []
unfolding value_from size_from scales_from exceeds row_sum residual margin load defect product apply identity sum sumℕ first
tolerant_checked = refl

tolerant_reported : reported_of (problem_from tolerant_forms) ≡ tolerant_listing
unfolding value_from size_from scales_from digits decimal numeral each report_of bound bound_with bound_from magnitudes_with residual margin load defect product apply identity sum sumℕ largest ceil_div round_div entry_bound
tolerant_reported = refl

pub tolerant_accepted : answer_of tolerant_file ≡ []
tolerant_accepted = answer_is tolerant_file tolerant_forms tolerant_spelled tolerant_passes tolerant_checked

pub tolerant_file_lem : listing_of tolerant_file ≡ tolerant_listing
tolerant_file_lem = listing_is tolerant_file tolerant_forms tolerant_spelled tolerant_passes tolerant_checked tolerant_reported

-- ---- a right side at the corner
of_file : (Q : Problem → Type 0) → Q (problem_from tolerant_forms) → Q (problem_in tolerant_file)
of_file Q h = subst Q (sym (problem_is tolerant_file tolerant_forms tolerant_spelled tolerant_passes)) h

pub tolerant_right : RightSide (problem_in tolerant_file) far_right 3
unfolding value_from size_from
tolerant_right = of_file (λ P. RightSide P far_right 3) (record { positive = lit≤ tt; near = only _ (lit≤ tt) })

pub tolerant_exact : ExactSolutionOf (problem_in tolerant_file) far_right 3 far_height 1
unfolding value_from size_from apply sum
tolerant_exact = of_file (λ P. ExactSolutionOf P far_right 3 far_height 1) (record { positive = lit≤ tt; solves = only _ refl })

pub tolerant_reached : let P = problem_in tolerant_file in nat_abs (pos (S P) *ℤ far_height 0 -ℤ pos 1 *ℤ P.X 0) ≡ 1 * bound P 0
unfolding value_from size_from scales_from bound bound_with bound_from magnitudes_with residual margin load defect product apply identity sum sumℕ largest ceil_div
tolerant_reached = of_file (λ P. nat_abs (pos (S P) *ℤ far_height 0 -ℤ pos 1 *ℤ P.X 0) ≡ 1 * bound P 0) refl
