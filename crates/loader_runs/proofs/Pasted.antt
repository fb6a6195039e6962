-- What Paper 6 of 02 changes is not empty: after problem, scale and row 1 of two equations, four lines whose answer becomes 12.
--   pasted_numbers, pasted_count — row 1 again, with a number out of its range, and with one number too few;  again_problem, again_scale — a second one, out of range
use mathlib.Core.Path.{◌≡◌, refl}
use mathlib.Core.Bool.{false}
use mathlib.Core.List.{List, [], ◌∷◌}
use Prim.Native.Nat.{ℕ}
use lib.Dec.{ltb}
use lib.IntN.{pos, negsuc}
use lib.ListN.{length}
use Rattle.rules.specs.Order.{verdict}
use Rattle.rules.specs.Range.{ranges, range_of, in_range}
use Rattle.line_numeral.specs.Decimal.{digits, decimal, numeral}
use Rattle.line_form.specs.List.{all_inside}
use Rattle.line_form.specs.Form.{Form, problem, scale, row}
use Rattle.line_form.specs.Spelling.{numerals, spell}
use Rattle.line_form.proofs.Spelling.{read_spelled}
use Rattle.loader_values.specs.declared.Item.TheVariants.{Problem, Scale, Of}
use Rattle.loader_values.specs.declared.Part.TheVariants.{Row}
use Rattle.loader_lists.specs.Lists.{Lists, short_lists}
use Rattle.loader_bit_set.specs.Places.{with_place}
use Rattle.loader_progress.specs.Progress.{misplaced}
use Rattle.loader.specs.declared.Loader.{Loader}
use Rattle.loader.specs.Answer.{line_answer}
use Rattle.loader.specs.Taken.{fresh, after}
use Rattle.loader.proofs.Exact.{form_case, form_code, answer_form}
use Rattle.loader_runs.specs.Before.{order_before, answer_before}

abbrev row_given : Loader
row_given = after (after (after fresh (Problem (pos 2))) (Scale (pos 4) (pos 4))) (Of Row (pos 1))

module _ (l : Lists) (enough : short_lists l ≡ false) where
  abbrev Becomes : List ℕ → Form → Type 0
  Becomes w f = (answer_before row_given l (spell f) ≡ w) × (line_answer row_given l (spell f) ≡ 12 ∷ [])

  becomes : {w : List ℕ} (f : Form) → ltb 320 (length (spell f)) ≡ false → verdict (order_before (form_case row_given f)) ≡ w → form_code row_given f ≡ 12 ∷ [] → Becomes w f
  unfolding answer_before
  becomes f c b a = (rw (enough, c, read_spelled f) b, rw (answer_form row_given l (spell f) f enough refl c (read_spelled f)) a)

  pub pasted_numbers : Becomes (3 ∷ []) (row (pos 1) (pos 1048577) (negsuc 0 ∷ []))
  unfolding form_code spell numerals numeral decimal digits misplaced with_place all_inside in_range range_of ranges
  pasted_numbers = becomes (row (pos 1) (pos 1048577) (negsuc 0 ∷ [])) refl refl refl

  pub pasted_count : Becomes (4 ∷ []) (row (pos 1) (pos 4) [])
  unfolding form_code spell numerals numeral decimal digits misplaced with_place all_inside in_range range_of ranges
  pasted_count = becomes (row (pos 1) (pos 4) []) refl refl refl

  pub again_problem : Becomes (3 ∷ []) (problem (pos 33))
  unfolding form_code spell numerals numeral decimal digits misplaced with_place in_range range_of ranges
  again_problem = becomes (problem (pos 33)) refl refl refl

  pub again_scale : Becomes (3 ∷ []) (scale (pos 21) (pos 4))
  unfolding form_code spell numerals numeral decimal digits misplaced with_place in_range range_of ranges
  again_scale = becomes (scale (pos 21) (pos 4)) refl refl refl
