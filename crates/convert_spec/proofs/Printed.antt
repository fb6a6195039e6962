-- What the program prints, worked out on files.
--   unlike_new_lem    — the new file of a file of unlike numbers, computed byte by byte
--   Prints cs     — of each file in cs the program prints the text that stands there;  printed_cases_lem — the table of specs/Cases
use mathlib.Core.Path.{◌≡◌, refl, ap, ◌∙◌}
use mathlib.Core.Bool.{true, false}
use mathlib.Core.List.{List, [], ◌∷◌}
use Prim.Native.Nat.{ℕ}
use lib.IntN.{pos, negsuc}
use Rattle.integer.specs.Finite.{sumℕ, largest}
use Rattle.rules.specs.Order.{if_accepted}
use Rattle.rules.specs.Range.{ranges, range_of, in_range}
use Rattle.line_numeral.specs.Decimal.{digits, decimal, numeral}
use Rattle.line_numeral.specs.Numeral.{run_at, magnitude_at, number_at}
use Rattle.line_form.specs.Form.{Form, problem, scale, row, right, right_within, guess, inverse, weight, end, bytes}
use Rattle.line_form.specs.Spelling.{numerals, spell}
use Rattle.line_form.specs.List.{all_inside}
use Rattle.line_form.specs.Reading.{reading, starts, word_at, or_word, first_of, head_at, others_at}
use Rattle.loader_bit_set.specs.Places.{with_place, lacking}
use Rattle.loader_progress.specs.Progress.{missing, misplaced}
use Rattle.loader.specs.Answer.{line_answer}
use Rattle.loader.specs.Taken.{fresh, loader_after, lists_after}
use Rattle.loader.proofs.Exact.{form_code}
use Rattle.loader_runs.specs.Given.{value_from, size_from, scales_from}
use Rattle.loader_runs.specs.Lines.{lines_of}
use Rattle.loader_runs.specs.Read.{read_from, zeros, reading_of}
use Rattle.loader_runs.specs.Run.{forms}
use Rattle.loader_runs.proofs.Passing.{spelled, passes}
use Rattle.loader_spelled.specs.Ones.{text_of}
use Rattle.listing_text.specs.Line.{each}
use Rattle.listing_refusal.specs.Refused.{printed}
use Rattle.file_check.specs.Judged.{line_or, problem_from}
use Rattle.listing.specs.Cases.{tolerant_file}
use Rattle.listing.specs.Listing.{problem_in}
use Rattle.listing.specs.Complete.{Complete}
use Rattle.listing.proofs.Demand.{accepted_parts}
use Rattle.listing.proofs.Table.{problem_is, complete_is}
use Rattle.listing.proofs.Tolerant.{tolerant_accepted}
use Rattle.convert_spec.specs.Cases.{unlike_file, unlike_new, Printed, printed_cases}
use Rattle.convert_spec.specs.Converted.{some_tolerance, converted_text}
use Rattle.convert_spec.specs.File.{numbers_along, rising, old_forms, old_file, new_file}
use Rattle.convert_spec.proofs.Example.{tolerant_refused}
use Rattle.convert_spec.proofs.Stated.{none_above}
use Rattle.convert_spec.proofs.Text.{text_is, never_too_small}

-- ---- a file of unlike numbers
abbrev unlike_forms : List Form
unlike_forms =
    problem (pos 2)
    ∷ scale (pos 3) (pos 5)
    ∷ weight (pos 2) (pos 13)
    ∷ inverse (pos 2) (negsuc 10) (pos 12 ∷ [])
    ∷ row (pos 2) (pos 3) (pos 4 ∷ [])
    ∷ right (pos 2) (negsuc 5)
    ∷ right_within (pos 1) (pos 14) (pos 0)
    ∷ guess (pos 2) (pos 7)
    ∷ inverse (pos 1) (pos 9) (pos 10 ∷ [])
    ∷ row (pos 1) (pos 1) (negsuc 1 ∷ [])
    ∷ guess (pos 1) (negsuc 7)
    ∷ end
    ∷ []

unlike_spelled : lines_of unlike_file ≡ spelled unlike_forms
unfolding lines_of spell numerals numeral decimal digits
unlike_spelled = refl

unlike_passes : passes fresh unlike_forms ≡ true
unfolding passes form_code spell numerals numeral decimal digits missing misplaced with_place lacking all_inside sumℕ in_range range_of ranges
unlike_passes = refl

unlike_problem : problem_in unlike_file ≡ problem_from unlike_forms
unlike_problem = problem_is unlike_file unlike_forms unlike_spelled unlike_passes

unlike_complete : Complete unlike_file
unlike_complete = complete_is unlike_file unlike_forms unlike_spelled unlike_passes

unlike_bytes : old_file (problem_from unlike_forms) ≡ unlike_new
unfolding numbers_along rising old_forms text_of value_from size_from scales_from digits decimal numeral numerals spell
unlike_bytes = refl

unlike_none : some_tolerance (problem_from unlike_forms) ≡ false
unfolding largest value_from size_from
unlike_none = refl

pub unlike_new_lem : new_file unlike_file ≡ unlike_new
unlike_new_lem = ap old_file unlike_problem ∙ unlike_bytes

unlike_text : converted_text unlike_file ≡ unlike_new
unlike_text = never_too_small unlike_file unlike_complete (none_above (problem_in unlike_file) (ap some_tolerance unlike_problem ∙ unlike_none)) ∙ unlike_new_lem

-- ---- a file with a tolerance
tolerant_line : line_or (printed 0 (22 ∷ [])) (new_file tolerant_file) ≡ bytes "(refused 22 (0))\n"
unfolding digits decimal each
tolerant_line = refl

tolerant_text : converted_text tolerant_file ≡ bytes "(refused 22 (0))\n"
tolerant_text =
    text_is tolerant_file (22 ∷ []) (tolerant_refused 32768)
    ∙ ap (λ (code : List ℕ). line_or (printed (if_accepted code 0 (reading_of tolerant_file).line) (22 ∷ [])) (new_file tolerant_file)) (accepted_parts tolerant_file tolerant_accepted).complete.lines
    ∙ tolerant_line

-- ---- the table; files that are not complete are computed line by line
abbrev pub Prints : List Printed → Type 0
Prints [] = Unit
Prints (c ∷ cs) = (converted_text c.file ≡ c.text) × Prints cs

pub printed_cases_lem : Prints printed_cases
unfolding converted_text read_from line_answer loader_after lists_after zeros lines_of forms reading starts word_at or_word first_of head_at others_at run_at magnitude_at number_at missing misplaced with_place lacking all_inside sumℕ largest in_range range_of ranges value_from size_from scales_from digits decimal each
printed_cases_lem = (unlike_text, (tolerant_text, (refl, (refl, (refl, (refl, tt))))))
