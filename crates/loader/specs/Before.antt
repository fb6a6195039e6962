-- What is said of a line with document 01's count of missing forms, before Paper 1 of 02, and what becomes of it (proofs/Count).
--   line_answer01 d l line — what is said of the line, all else being as it is now
--   left_out d         — how many weights were not given
--   Recounted d w v   — w, said with 01's count, and v, said now: the same, unless w is 13; then 13 with a count that is lower by the weights not given, or
--     acceptance where only weights are missing
use Rattle.std.specs.Prelude.{false, List, [], ◌∷◌, ◌≡◌, ℕ, ◌+◌, ◌<◌}
use Rattle.rules.specs.Order.{verdict}
use Rattle.line_form.specs.Form.{Form}
use Rattle.line_form.specs.Reading.{reading}
use Rattle.loader_bit_set.specs.Places.{lacking}
use Rattle.loader_values.specs.Item.{item_of}
use Rattle.loader_values.specs.declared.Part.TheVariants.{Weight}
use Rattle.loader_lists.specs.Lists.{Lists}
use Rattle.loader_progress.specs.Progress.{set_of, missing}
use Rattle.loader_progress.specs.Before.{incomplete01}
use Rattle.loader_progress.specs.Ungiven.{ungiven}
use Rattle.loader_order.specs.Order.{LineCase, line_order}
use Rattle.loader.specs.declared.Loader.{Loader}
use Rattle.loader.specs.Answer.{of_form, case_of}

abbrev pub case01 : Loader → Lists → List ℕ → LineCase
case01 d l line =
    let c = case_of d l line in
    record {
      short = c.short;
      ended = c.ended;
      long = c.long;
      unspelled = c.unspelled;
      early = c.early;
      misplaced = c.misplaced;
      repeated = c.repeated;
      outside = c.outside;
      miscounted = c.miscounted;
      incomplete = of_form (reading line) false (λ (f : Form). incomplete01 d.n d.sets (item_of f));
      missing = ungiven d.n d.sets;
    }

unfoldable pub line_answer01 : Loader → Lists → List ℕ → List ℕ
line_answer01 d l line = verdict (line_order (case01 d l line))

abbrev pub left_out : Loader → ℕ
left_out d = lacking (set_of d.sets Weight) d.n

pub data Recounted (d : Loader) : List ℕ → List ℕ → Type 0 where
  not_13 : (w : List ℕ) → ((k : ℕ) → w ≡ 13 ∷ k ∷ [] → ⊥) → Recounted d w w
  fewer : 0 < missing d.n d.sets → Recounted d (13 ∷ (missing d.n d.sets + left_out d) ∷ []) (13 ∷ missing d.n d.sets ∷ [])
  only_weights : missing d.n d.sets ≡ 0 → 0 < left_out d → Recounted d (13 ∷ (missing d.n d.sets + left_out d) ∷ []) []
