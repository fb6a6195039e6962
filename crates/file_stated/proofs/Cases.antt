-- The statements on files are not empty: the table of specs/Cases, computed line by line, and 01's whole file.
--   FileRowsCode, file_rows_code, stated_rows, rows_stated — what is said of each file of the table, and that it has its stated case;  whole_stated — 01's whole file is accepted
use mathlib.Core.Path.{◌≡◌, refl, ap}
use mathlib.Core.List.{List, [], ◌∷◌}
use lib.ListN.{take}
use Rattle.integer.specs.Finite.{sum, sumℕ, first}
use Rattle.linear.specs.Matrix.{apply, product, identity}
use Rattle.rules.specs.Range.{ranges, range_of, in_range}
use Rattle.enclosure.specs.Reckoning.{defect, load, margin, residual, row_sum, exceeds}
use Rattle.line_numeral.specs.Numeral.{run_at, magnitude_at, number_at}
use Rattle.line_form.specs.Form.{bytes}
use Rattle.line_form.specs.List.{all_inside}
use Rattle.line_form.specs.Reading.{reading, starts, word_at, or_word, first_of, head_at, others_at}
use Rattle.loader_bit_set.specs.Places.{with_place, lacking}
use Rattle.loader_lists.specs.Put.{filled}
use Rattle.loader_progress.specs.Progress.{missing, misplaced}
use Rattle.loader.specs.Answer.{line_answer}
use Rattle.loader.specs.Taken.{loader_after, lists_after}
use Rattle.loader_runs.specs.Given.{value_from, size_from, scales_from}
use Rattle.loader_runs.specs.Lines.{lines_of}
use Rattle.loader_runs.specs.Read.{read_from, zeros}
use Rattle.loader_runs.specs.Run.{forms}
use Rattle.listing.specs.Cases.{FileCase, whole_file}
use Rattle.listing.specs.Listing.{answer_of, listing_of}
use Rattle.listing.proofs.Meaning.{begins_bounds}
use Rattle.listing.proofs.Table.{whole_file_lem}
use Rattle.file_stated.specs.Cases.{file_rows, FileRowsStated}
use Rattle.file_stated.specs.Stated.{FileStated}
use Rattle.file_stated.proofs.Stated.{file_exactly}

abbrev FileRowsCode : List FileCase → Type 0
FileRowsCode [] = Unit
FileRowsCode (c ∷ cs) = (answer_of c.file ≡ c.says) × FileRowsCode cs

file_rows_code : FileRowsCode file_rows
unfolding answer_of read_from line_answer loader_after lists_after zeros lines_of forms reading starts word_at or_word first_of head_at others_at run_at magnitude_at number_at missing misplaced filled with_place lacking all_inside sum sumℕ first in_range range_of ranges value_from size_from scales_from margin load defect product apply identity residual row_sum exceeds
file_rows_code = (refl, (refl, (refl, (refl, (refl, (refl, (refl, tt)))))))

stated_rows : (cs : List FileCase) → FileRowsCode cs → FileRowsStated cs
stated_rows [] h = tt
stated_rows (c ∷ cs) h = ((file_exactly c.file c.says).0 h.0, stated_rows cs h.1)

pub rows_stated : FileRowsStated file_rows
rows_stated = stated_rows file_rows file_rows_code

pub whole_stated : FileStated whole_file []
whole_stated =
    let b : take 8 (listing_of whole_file) ≡ bytes "(bounds " = ap (take 8) whole_file_lem in
    (file_exactly whole_file []).0 (begins_bounds whole_file b)
