-- Cases a to l of document 01 and 02's own, and 01's whole file, follow from the definitions that the contracts cite.
--   listing_cases_hold — one theorem for all rows of the table, computed
--   problem_is, complete_is, answer_is, listing_is — a file whose lines spell forms that are accepted, an end last, from those forms
--   whole_file_lem — the listing of 01's whole file is the one that it prints: its lines spell its forms, these are accepted, and the report of their
--     problem has the listing's bytes, each computed
use mathlib.Core.Path.{◌≡◌, refl, sym, ap, subst, ◌∙◌}
use mathlib.Core.Bool.{Bool, true, false, ◌&&◌}
use mathlib.Core.List.{List, [], ◌∷◌}
use Prim.Native.Nat.{ℕ}
use lib.IntN.{pos, negsuc}
use Rattle.integer.specs.Finite.{sum, sumℕ, largest, first, every}
use Rattle.integer.specs.Quotient.{ceil_div, round_div}
use Rattle.linear.specs.Matrix.{apply, product, identity}
use Rattle.integer.proofs.Search.{clash}
use Rattle.rules.proofs.Ranges.{both_left, both_right}
use Rattle.rules.specs.Range.{ranges, range_of, in_range, all_in_range}
use Rattle.entry.specs.Entry.{entry_bound}
use Rattle.enclosure.specs.Problem.{Problem}
use Rattle.enclosure.specs.Reckoning.{defect, load, margin, residual, row_sum, exceeds, magnitudes_with, bound_from, bound_with, bound}
use Rattle.check_spec.specs.Checked.{solution_bounds_after, inverse_bounds_after}
use Rattle.check_spec.specs.Order as check
use Rattle.check_spec.specs.Order.{checked_of}
use Rattle.line_numeral.specs.Decimal.{digits, decimal, numeral}
use Rattle.line_form.specs.List.{all_inside}
use Rattle.line_form.specs.Form.{Form, problem, scale, row, right, right_within, guess, inverse, weight, end}
use Rattle.line_form.specs.Spelling.{numerals, spell}
use Rattle.loader_bit_set.specs.Places.{with_place, lacking}
use Rattle.loader_progress.specs.Progress.{missing, misplaced}
use Rattle.loader.specs.Taken.{fresh}
use Rattle.loader.proofs.Exact.{form_code}
use Rattle.loader_runs.specs.Given.{value_from, size_from, scales_from}
use Rattle.loader_runs.specs.Run.{from_new, forms}
use Rattle.loader_runs.proofs.Passing.{spelled, forms_spelled, passes, pass_all}
use Rattle.listing_text.specs.Line.{each}
use Rattle.listing_report.specs.Report.{report_of}
use Rattle.listing_refusal.specs.Refused.{printed}
use Rattle.file_check.specs.Judged.{reported_of, problem_from}
use Rattle.loader_runs.specs.Lines.{lines_of}
use Rattle.loader_runs.specs.Read.{zeros}
use Rattle.integer.specs.Among.{here, there}
use Rattle.linear.specs.Written.{written}
use Rattle.listing.specs.Cases.{table, table_holds, whole_file, unweighted_file, whole_listing}
use Rattle.listing.specs.Listing.{problem_in, answer_of, listing_of}
use Rattle.listing.specs.Complete.{Complete}
use Rattle.listing.specs.LeftOut.{NoWeights}
use Rattle.listing.proofs.Entire.{zeros_long, listing_from, answer_judged}
use Rattle.listing.proofs.WithOnes.{not_in_none}

pub listing_cases_hold : table_holds table ≡ true
unfolding check.answer solution_bounds_after inverse_bounds_after written bound bound_with bound_from magnitudes_with exceeds row_sum residual margin load defect product apply identity sum sumℕ largest first ceil_div round_div entry_bound all_in_range in_range range_of ranges every
listing_cases_hold = refl

-- a file whose lines spell forms that are accepted, an end last
module _ (file : List ℕ) (fs : List Form) (lines : lines_of file ≡ spelled fs) (passed : passes fresh fs ≡ true) where
  pub problem_is : problem_in file ≡ problem_from fs
  problem_is = ap problem_from (ap forms lines ∙ forms_spelled fs)

  pub complete_is : Complete file
  complete_is =
      let w = pass_all 0 (from_new zeros) fs zeros_long passed in
      let r = rw (← lines) at w in
      record { lines = r.0; end = r.1 }

  pub answer_is : checked_of (problem_from fs) ≡ [] → answer_of file ≡ []
  answer_is c = answer_judged file complete_is.lines complete_is.end ∙ ap (λ (Q : Problem). printed 0 (checked_of Q)) problem_is ∙ ap (printed 0) c

  pub listing_is : {report : List ℕ} → checked_of (problem_from fs) ≡ [] → reported_of (problem_from fs) ≡ report → listing_of file ≡ report
  listing_is c r = listing_from file (answer_is c) ∙ ap reported_of problem_is ∙ r

-- the forms of the whole file
abbrev pub whole_forms : List Form
whole_forms =
    problem (pos 2)
    ∷ scale (pos 4) (pos 4)
    ∷ row (pos 1) (pos 4) (negsuc 0 ∷ [])
    ∷ row (pos 2) (negsuc 0) (pos 3 ∷ [])
    ∷ right (pos 1) (pos 5)
    ∷ right (pos 2) (pos 1)
    ∷ guess (pos 1) (pos 23)
    ∷ guess (pos 2) (pos 13)
    ∷ inverse (pos 1) (pos 4) (pos 1 ∷ [])
    ∷ inverse (pos 2) (pos 1) (pos 6 ∷ [])
    ∷ weight (pos 1) (pos 1)
    ∷ weight (pos 2) (pos 1)
    ∷ end
    ∷ []

pub whole_spelled : lines_of whole_file ≡ spelled whole_forms
unfolding lines_of spell numerals numeral decimal digits
whole_spelled = refl

pub whole_passes : passes fresh whole_forms ≡ true
unfolding passes form_code spell numerals numeral decimal digits missing misplaced with_place lacking all_inside sumℕ in_range range_of ranges
whole_passes = refl

pub whole_checked : checked_of (problem_from whole_forms) ≡ []
unfolding value_from size_from scales_from exceeds row_sum residual margin load defect product apply identity sum sumℕ first
whole_checked = refl

whole_reported : reported_of (problem_from whole_forms) ≡ whole_listing
unfolding value_from size_from scales_from digits decimal numeral each report_of bound bound_with bound_from magnitudes_with residual margin load defect product apply identity sum sumℕ largest ceil_div round_div entry_bound
whole_reported = refl

pub whole_file_lem : listing_of whole_file ≡ whole_listing
whole_file_lem = listing_is whole_file whole_forms whole_spelled whole_passes whole_checked whole_reported

-- ---- the same without its weights
abbrev unweighted_forms : List Form
unweighted_forms =
    problem (pos 2)
    ∷ scale (pos 4) (pos 4)
    ∷ row (pos 1) (pos 4) (negsuc 0 ∷ [])
    ∷ row (pos 2) (negsuc 0) (pos 3 ∷ [])
    ∷ right (pos 1) (pos 5)
    ∷ right (pos 2) (pos 1)
    ∷ guess (pos 1) (pos 23)
    ∷ guess (pos 2) (pos 13)
    ∷ inverse (pos 1) (pos 4) (pos 1 ∷ [])
    ∷ inverse (pos 2) (pos 1) (pos 6 ∷ [])
    ∷ end
    ∷ []

unweighted_spelled : lines_of unweighted_file ≡ spelled unweighted_forms
unfolding lines_of spell numerals numeral decimal digits
unweighted_spelled = refl

unweighted_passes : passes fresh unweighted_forms ≡ true
unfolding passes form_code spell numerals numeral decimal digits missing misplaced with_place lacking all_inside sumℕ in_range range_of ranges
unweighted_passes = refl

unweighted_checked : checked_of (problem_from unweighted_forms) ≡ []
unfolding value_from size_from scales_from exceeds row_sum residual margin load defect product apply identity sum sumℕ first
unweighted_checked = refl

unweighted_reported : reported_of (problem_from unweighted_forms) ≡ whole_listing
unfolding value_from size_from scales_from digits decimal numeral each report_of bound bound_with bound_from magnitudes_with residual margin load defect product apply identity sum sumℕ largest ceil_div round_div entry_bound
unweighted_reported = refl

pub unweighted_complete : Complete unweighted_file
unweighted_complete = complete_is unweighted_file unweighted_forms unweighted_spelled unweighted_passes

pub unweighted_file_lem : listing_of unweighted_file ≡ whole_listing
unweighted_file_lem = listing_is unweighted_file unweighted_forms unweighted_spelled unweighted_passes unweighted_checked unweighted_reported

-- no form of it is a weight
abbrev plain : Form → Bool
plain (problem n) = true
plain (scale s t) = true
plain (row i a others) = true
plain (right i b) = true
plain (right_within i b d) = true
plain (guess i x) = true
plain (inverse i g others) = true
plain (weight i w) = false
plain end = true

abbrev all_plain : List Form → Bool
all_plain [] = true
all_plain (f ∷ fs) = plain f && all_plain fs

no_weights : (fs : List Form) → all_plain fs ≡ true → NoWeights fs
no_weights [] e i w m = not_in_none m
no_weights (f ∷ fs) e i w here = clash false (both_left (plain f) (all_plain fs) e) refl
no_weights (f ∷ fs) e i w (there m) = no_weights fs (both_right (plain f) (all_plain fs) e) i w m

pub unweighted_none : NoWeights (forms (lines_of unweighted_file))
unweighted_none = subst (λ (fs : List Form). NoWeights fs) (sym (ap forms unweighted_spelled ∙ forms_spelled unweighted_forms)) (no_weights unweighted_forms refl)
