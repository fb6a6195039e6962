-- The desk of 01 refuses what 01 refuses, so that `old_desk` says something of the files that it accepts.
--   OldHolds cs    — of each file in cs the desk of 01 says first what stands there
--   old_cases_hold — the table of specs/Cases, computed line by line
use mathlib.Core.Path.{◌≡◌, refl}
use mathlib.Core.List.{List, [], ◌∷◌}
use Rattle.integer.specs.Finite.{sumℕ}
use Rattle.rules.specs.Range.{ranges, range_of, in_range}
use Rattle.line_numeral.specs.Numeral.{run_at, magnitude_at, number_at}
use Rattle.line_form.specs.List.{all_inside}
use Rattle.line_form.specs.Reading.{reading, starts, word_at, or_word, first_of, head_at, others_at}
use Rattle.loader_bit_set.specs.Places.{with_place, lacking}
use Rattle.loader_progress.specs.Ungiven.{ungiven}
use Rattle.loader_progress.specs.Progress.{misplaced}
use Rattle.loader_runs.specs.Lines.{lines_of}
use Rattle.loader_runs.specs.Read.{zeros}
use Rattle.listing.specs.Cases.{FileCase}
use Rattle.convert_spec.specs.Cases.{old_cases}
use Rattle.convert_spec.specs.Edition.{answer_old, loader_old, lists_old, read_old, reading_of_old}

abbrev pub OldHolds : List FileCase → Type 0
OldHolds [] = Unit
OldHolds (c ∷ cs) = ((reading_of_old c.file).code ≡ c.says) × OldHolds cs

pub old_cases_hold : OldHolds old_cases
unfolding read_old answer_old loader_old lists_old zeros lines_of reading starts word_at or_word first_of head_at others_at run_at magnitude_at number_at ungiven misplaced with_place lacking all_inside sumℕ in_range range_of ranges
old_cases_hold = (refl, (refl, (refl, (refl, (refl, (refl, (refl, (refl, (refl, (refl, tt))))))))))
