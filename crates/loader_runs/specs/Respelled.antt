-- Lines that differ only in how a right side without tolerance is spelled (02, Paper 5: "(right i b) means d = 0, written like a given one").
--   Respelled lines lines' — the lines are the same one by one, or (right i b) in the first and (right i (b 0)), of at most 320 bytes, in the second
use Rattle.std.specs.Prelude.{List, [], ◌∷◌, ℕ, ◌≤◌, ℤ, pos, length}
use Rattle.line_form.specs.Form.{right, right_within}
use Rattle.line_form.specs.Spelling.{spell}

pub data Respelled : List (List ℕ) → List (List ℕ) → Type 0 where
  none : Respelled [] []
  same : {lines lines' : List (List ℕ)} (line : List ℕ) → Respelled lines lines' → Respelled (line ∷ lines) (line ∷ lines')
  alone : {lines lines' : List (List ℕ)} (i b : ℤ) → length (spell (right_within i b (pos 0))) ≤ 320 → Respelled lines lines'
      → Respelled (spell (right i b) ∷ lines) (spell (right_within i b (pos 0)) ∷ lines')
