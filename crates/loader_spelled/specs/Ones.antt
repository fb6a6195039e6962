-- The weights that stand for those left out, as lines.
--   ones_from i c — the forms (weight i + 1 1) .. (weight i + c 1)
--   text_of fs    — the forms fs as a text, each followed by a line feed
use Rattle.std.specs.Prelude.{List, [], ◌∷◌, ◌++◌, ℕ, zero, suc, pos}
use Rattle.line_form.specs.Form.{Form, weight}
use Rattle.line_form.specs.Spelling.{spell}

unfoldable pub ones_from : ℕ → ℕ → List Form
ones_from i zero = []
ones_from i (suc c) = weight (pos (suc i)) (pos 1) ∷ ones_from (suc i) c

unfoldable pub text_of : List Form → List ℕ
text_of [] = []
text_of (f ∷ fs) = spell f ++ (10 ∷ text_of fs)
