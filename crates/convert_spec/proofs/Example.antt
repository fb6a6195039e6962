-- Files that are converted, and one that is not: no theorem on converted files is of none.
--   whole_new, shuffled_new — the new file of 01's whole file is that file, computed byte by byte, and so is that of its shuffled copy
--   shuffled_converted, shuffled_too_small — for a buffer that is just as long it is converted, for one that is a byte shorter it is not
--   shuffled_accepted_01 — 01's own check accepts what the desk of 01 holds after the new file
--   unbounded_refused, unbounded_converted, unbounded_new_lem — a file that a check refuses with 5 is converted
--   tolerant_refused — a file with a tolerance is 22, whatever the room
--   longest_in_range, longest_size — a problem in range whose file has 21,300 bytes: the bound of `old_size` is reached
--   longest_converted, longest_too_small — that file is converted for a buffer of 21,300 bytes, and is 22 for one that is a byte shorter
use mathlib.Core.Path.{◌≡◌, refl, ap, ◌∙◌}
use mathlib.Core.Bool.{true, false}
use mathlib.Core.List.{List, [], ◌∷◌}
use Prim.Native.Nat.{ℕ, ◌≤◌, ◌<◌}
use lib.Dec.{lit≤}
use lib.IntN.{pos, negsuc}
use lib.ListN.{length}
use Rattle.integer.specs.Finite.{sum, sumℕ, largest, first}
use Rattle.linear.specs.Matrix.{apply, product, identity}
use Rattle.rules.specs.Range.{ranges, range_of, in_range}
use Rattle.enclosure.specs.Problem.{Problem}
use Rattle.enclosure.specs.Reckoning.{defect, load, margin, residual, row_sum, exceeds}
use Rattle.check_spec.specs.Before.{answer01}
use Rattle.check_spec.specs.Order.{checked_of}
use Rattle.line_numeral.specs.Decimal.{digits, decimal, numeral}
use Rattle.line_numeral.specs.Numeral.{run_at, magnitude_at, number_at}
use Rattle.line_form.specs.Form.{Form, problem, scale, row, right, right_within, guess, inverse, end}
use Rattle.line_form.specs.Spelling.{numerals, spell}
use Rattle.line_form.specs.List.{all_inside}
use Rattle.line_form.specs.Reading.{reading, starts, word_at, or_word, first_of, head_at, others_at}
use Rattle.loader_bit_set.specs.Places.{with_place, lacking}
use Rattle.loader_progress.specs.Progress.{missing, misplaced}
use Rattle.loader.specs.Taken.{fresh}
use Rattle.loader.proofs.Exact.{form_code}
use Rattle.loader_runs.specs.Given.{value_from, size_from, scales_from}
use Rattle.loader_runs.specs.Lines.{lines_of}
use Rattle.loader_runs.specs.Run.{forms}
use Rattle.loader_runs.proofs.Passing.{spelled, passes, forms_spelled}
use Rattle.loader_spelled.specs.Ones.{text_of}
use Rattle.listing_refusal.specs.Refused.{printed}
use Rattle.file_check.specs.Judged.{problem_from}
use Rattle.listing.specs.Cases.{whole_file, tolerant_file}
use Rattle.listing.specs.Listing.{problem_in, answer_of}
use Rattle.listing.specs.Complete.{Complete}
use Rattle.listing.proofs.Demand.{accepted_parts}
use Rattle.listing.proofs.Entire.{answer_judged}
use Rattle.listing.proofs.Table.{complete_is, answer_is, whole_forms, whole_spelled}
use Rattle.listing.proofs.Tolerant.{tolerant_accepted}
use Rattle.convert_spec.specs.Cases.{shuffled_file, unbounded_file, unbounded_new, longest}
use Rattle.convert_spec.specs.Converted.{some_tolerance, convert_answer}
use Rattle.convert_spec.specs.File.{numbers_along, rising, old_forms, old_file, new_file}
use Rattle.convert_spec.specs.Numbers.{NumbersInRange}
use Rattle.convert_spec.specs.Promised.{input_old}
use Rattle.convert_spec.specs.Stated.{tolerance, too_small, converted}
use Rattle.convert_spec.proofs.Ends.{file_complete}
use Rattle.convert_spec.proofs.Promises.{same_limits}
use Rattle.convert_spec.proofs.Same.{file_again}
use Rattle.convert_spec.proofs.Stated.{none_above, stated_code, always_fits}
use Rattle.convert_spec.proofs.Values.{no_tolerance}

-- the problem of a file whose lines spell forms
problem_of_lem : (file : List ℕ) (fs : List Form) → lines_of file ≡ spelled fs → problem_in file ≡ problem_from fs
problem_of_lem file fs lines = ap problem_from (ap forms lines ∙ forms_spelled fs)

-- ---- 01's whole file, shuffled
abbrev shuffled_forms : List Form
shuffled_forms =
    problem (pos 2)
    ∷ scale (pos 4) (pos 4)
    ∷ inverse (pos 2) (pos 1) (pos 6 ∷ [])
    ∷ guess (pos 2) (pos 13)
    ∷ right (pos 2) (pos 1)
    ∷ row (pos 2) (negsuc 0) (pos 3 ∷ [])
    ∷ inverse (pos 1) (pos 4) (pos 1 ∷ [])
    ∷ guess (pos 1) (pos 23)
    ∷ right_within (pos 1) (pos 5) (pos 0)
    ∷ row (pos 1) (pos 4) (negsuc 0 ∷ [])
    ∷ end
    ∷ []

shuffled_spelled : lines_of shuffled_file ≡ spelled shuffled_forms
unfolding lines_of spell numerals numeral decimal digits
shuffled_spelled = refl

shuffled_passes : passes fresh shuffled_forms ≡ true
unfolding passes form_code spell numerals numeral decimal digits missing misplaced with_place lacking all_inside sumℕ in_range range_of ranges
shuffled_passes = refl

shuffled_complete : Complete shuffled_file
shuffled_complete = complete_is shuffled_file shuffled_forms shuffled_spelled shuffled_passes

whole_bytes : old_file (problem_from whole_forms) ≡ whole_file
unfolding numbers_along rising old_forms text_of value_from size_from scales_from digits decimal numeral numerals spell
whole_bytes = refl

shuffled_bytes : old_file (problem_from shuffled_forms) ≡ whole_file
unfolding numbers_along rising old_forms text_of value_from size_from scales_from digits decimal numeral numerals spell
shuffled_bytes = refl

shuffled_none : some_tolerance (problem_from shuffled_forms) ≡ false
unfolding largest value_from size_from
shuffled_none = refl

pub whole_new : new_file whole_file ≡ whole_file
whole_new = ap old_file (problem_of_lem whole_file whole_forms whole_spelled) ∙ whole_bytes

shuffled_problem : problem_in shuffled_file ≡ problem_from shuffled_forms
shuffled_problem = problem_of_lem shuffled_file shuffled_forms shuffled_spelled

pub shuffled_new : new_file shuffled_file ≡ whole_file
shuffled_new = ap old_file shuffled_problem ∙ shuffled_bytes

pub shuffled_converted : convert_answer shuffled_file 172 ≡ []
shuffled_converted =
    stated_code shuffled_file 172
    (converted shuffled_complete (none_above (problem_in shuffled_file) (ap some_tolerance shuffled_problem ∙ shuffled_none)) (rw shuffled_new (lit≤ tt)))

pub shuffled_too_small : convert_answer shuffled_file 171 ≡ 22 ∷ []
shuffled_too_small = stated_code shuffled_file 171 (too_small shuffled_complete (rw shuffled_new (lit≤ tt)))

shuffled_checked : checked_of (problem_from shuffled_forms) ≡ []
unfolding value_from size_from scales_from exceeds row_sum residual margin load defect product apply identity sum sumℕ first
shuffled_checked = refl

pub shuffled_accepted_01 : (E L : List ℕ) → 32 ≤ length E → 1024 ≤ length L → answer01 (input_old whole_file E L) ≡ []
shuffled_accepted_01 E L n_max many =
    let a = (same_limits shuffled_file 172 shuffled_converted E L n_max many).accepts (answer_is shuffled_file shuffled_forms shuffled_spelled shuffled_passes shuffled_checked) in
    rw shuffled_new at a

-- ---- a file whose check is refused
abbrev unbounded_forms : List Form
unbounded_forms =
    problem (pos 1)
    ∷ scale (pos 0) (pos 4)
    ∷ row (pos 1) (pos 4) []
    ∷ right (pos 1) (pos 0)
    ∷ guess (pos 1) (pos 0)
    ∷ inverse (pos 1) (pos 0) []
    ∷ end
    ∷ []

unbounded_spelled : lines_of unbounded_file ≡ spelled unbounded_forms
unfolding lines_of spell numerals numeral decimal digits
unbounded_spelled = refl

unbounded_passes : passes fresh unbounded_forms ≡ true
unfolding passes form_code spell numerals numeral decimal digits missing misplaced with_place lacking all_inside sumℕ in_range range_of ranges
unbounded_passes = refl

unbounded_complete : Complete unbounded_file
unbounded_complete = complete_is unbounded_file unbounded_forms unbounded_spelled unbounded_passes

unbounded_problem : problem_in unbounded_file ≡ problem_from unbounded_forms
unbounded_problem = problem_of_lem unbounded_file unbounded_forms unbounded_spelled

unbounded_checked : checked_of (problem_from unbounded_forms) ≡ 5 ∷ 1 ∷ []
unfolding value_from size_from scales_from exceeds row_sum residual margin load defect product apply identity sum sumℕ first
unbounded_checked = refl

unbounded_bytes : old_file (problem_from unbounded_forms) ≡ unbounded_new
unfolding numbers_along rising old_forms text_of value_from size_from scales_from digits decimal numeral numerals spell
unbounded_bytes = refl

unbounded_none : some_tolerance (problem_from unbounded_forms) ≡ false
unfolding largest value_from size_from
unbounded_none = refl

pub unbounded_refused : answer_of unbounded_file ≡ 5 ∷ 1 ∷ []
unbounded_refused =
    answer_judged unbounded_file unbounded_complete.lines unbounded_complete.end
    ∙ ap (λ (Q : Problem). printed 0 (checked_of Q)) unbounded_problem
    ∙ ap (printed 0) unbounded_checked

unbounded_new_lem : new_file unbounded_file ≡ unbounded_new
unbounded_new_lem = ap old_file unbounded_problem ∙ unbounded_bytes

pub unbounded_converted : convert_answer unbounded_file 32768 ≡ []
unbounded_converted =
    stated_code unbounded_file 32768
    (converted unbounded_complete (none_above (problem_in unbounded_file) (ap some_tolerance unbounded_problem ∙ unbounded_none)) (rw unbounded_new_lem (lit≤ tt)))

-- ---- a file with a tolerance
tolerant_above : 0 < (problem_in tolerant_file).d 0
unfolding lines_of forms value_from size_from reading starts word_at or_word first_of head_at others_at run_at magnitude_at number_at
tolerant_above = lit≤ tt

tolerant_size : 0 < (problem_in tolerant_file).n
unfolding lines_of forms value_from size_from reading starts word_at or_word first_of head_at others_at run_at magnitude_at number_at
tolerant_size = lit≤ tt

pub tolerant_refused : (room : ℕ) → convert_answer tolerant_file room ≡ 22 ∷ []
tolerant_refused room = stated_code tolerant_file room (tolerance (accepted_parts tolerant_file tolerant_accepted).complete 0 tolerant_size tolerant_above)

-- ---- the longest
longest_in_range : NumbersInRange longest
unfolding in_range range_of ranges
longest_in_range = record {
  size = refl;
  solution = refl;
  inverse_scale = refl;
  matrix = λ i j li lj. refl;
  right = λ i li. refl;
  guess = λ i li. refl;
  inverse = λ i j li lj. refl;
  weights = λ i li. refl;
}

pub longest_size : length (old_file longest) ≡ 21300
unfolding numbers_along rising old_forms text_of digits decimal numeral numerals spell
longest_size = refl

longest_new : new_file (old_file longest) ≡ old_file longest
longest_new = file_again longest

pub longest_converted : convert_answer (old_file longest) 21300 ≡ []
longest_converted = always_fits (old_file longest) 21300 (file_complete longest longest_in_range) (no_tolerance longest) (lit≤ tt)

pub longest_too_small : convert_answer (old_file longest) 21299 ≡ 22 ∷ []
longest_too_small = stated_code (old_file longest) 21299 (too_small (file_complete longest longest_in_range) (rw (longest_new, longest_size) (lit≤ tt)))
