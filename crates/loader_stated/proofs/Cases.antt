-- The statements on lines are not empty: the table of specs/Cases, computed line by line, and cases at lists that are too short and at a loader with its own n out of range.
--   RowsCode, rows_code, alike, stated_rows, rows_stated — what is said of each line of the table, and that it has its stated case
--   short_stated — 8;  forged_row, forged_blank — 3 for a form with its i in 1 to n; 2 as at any loader
use mathlib.Core.Path.{◌≡◌, refl, ◌∙◌}
use mathlib.Core.Bool.{true, false}
use mathlib.Core.List.{List, [], ◌∷◌}
use Prim.Native.Nat.{ℕ}
use Rattle.integer.specs.Finite.{sumℕ}
use Rattle.integer.proofs.Search.{clash}
use Rattle.rules.specs.Range.{ranges, range_of, in_range}
use Rattle.line_numeral.specs.Numeral.{run_at, magnitude_at, number_at}
use Rattle.line_form.specs.Form.{bytes}
use Rattle.line_form.specs.List.{all_inside}
use Rattle.line_form.specs.Reading.{reading, starts, word_at, or_word, first_of, head_at, others_at}
use Rattle.loader_bit_set.specs.Places.{with_place, lacking}
use Rattle.loader_lists.specs.Lists.{Lists, short_lists}
use Rattle.loader_progress.specs.Progress.{missing, misplaced}
use Rattle.loader.specs.declared.Loader.{Loader}
use Rattle.loader.specs.Answer.{line_answer}
use Rattle.loader.specs.Taken.{fresh}
use Rattle.loader_runs.specs.Read.{zeros}
use Rattle.loader_stated.specs.Cases.{LineRow, after_forms, line_rows, RowsStated, short_ones, forged}
use Rattle.loader_runs.specs.OwnSize.{OwnSize}
use Rattle.loader_stated.specs.Stated.{LineStated, too_short, OtherStated}
use Rattle.loader_stated.proofs.Stated.{line_exactly, other_exactly}

abbrev RowsCode : List LineRow → Type 0
RowsCode [] = Unit
RowsCode (c ∷ cs) = (OwnSize (after_forms fresh c.before) × (line_answer (after_forms fresh c.before) zeros c.line ≡ c.says)) × RowsCode cs

-- a new loader has no n yet
at_first : OwnSize fresh
at_first e = clash false e refl

rows_code : RowsCode line_rows
unfolding line_answer zeros reading starts word_at or_word first_of head_at others_at run_at magnitude_at number_at missing misplaced with_place lacking all_inside sumℕ in_range range_of ranges
rows_code =
    let own : true ≡ true → true ≡ true = λ e. e in (
      (own, refl),
      (
        (own, refl),
        (
          (at_first, refl),
          (
            (own, refl),
            (
              (at_first, refl),
              (
                (at_first, refl),
                (
                  (own, refl),
                  (
                    (own, refl),
                    (
                      (own, refl),
                      ((own, refl), ((own, refl), ((own, refl), ((own, refl), ((at_first, refl), ((own, refl), ((own, refl), ((own, refl), tt)))))))),
                    ),
                  ),
                ),
              ),
            ),
          ),
        ),
      ),
    )

forged_code : (line_answer forged zeros (bytes "(row 1 (4))") ≡ 3 ∷ []) × (line_answer forged zeros [] ≡ 2 ∷ [])
unfolding line_answer zeros reading starts word_at or_word first_of head_at others_at run_at magnitude_at number_at misplaced all_inside in_range range_of ranges
forged_code = (refl, refl)

module _ (l : Lists) (enough : short_lists l ≡ false) where
  -- lists that are long enough are all one
  alike : (d : Loader) (line : List ℕ) → line_answer d l line ≡ line_answer d zeros line
  unfolding line_answer
  alike d line = let z : short_lists zeros ≡ false = unfold zeros in refl in rw (enough, z)

  stated_rows : (cs : List LineRow) → RowsCode cs → RowsStated l cs
  stated_rows [] h = tt
  stated_rows (c ∷ cs) h =
      let d = after_forms fresh c.before in
      ((line_exactly d l c.line h.0.0 c.says).0 (alike d c.line ∙ h.0.1), stated_rows cs h.1)

  pub rows_stated : RowsStated l line_rows
  rows_stated = stated_rows line_rows rows_code

  forged_stated : {line w : List ℕ} → line_answer forged zeros line ≡ w → OtherStated forged l line w
  unfolding in_range range_of ranges
  forged_stated {line} {w} e = (other_exactly forged l line refl refl w).0 (alike forged line ∙ e)

  pub forged_row : OtherStated forged l (bytes "(row 1 (4))") (3 ∷ [])
  forged_row = forged_stated forged_code.0

  pub forged_blank : OtherStated forged l [] (2 ∷ [])
  forged_blank = forged_stated forged_code.1

pub short_stated : LineStated fresh short_ones [] (8 ∷ [])
short_stated = too_short refl
