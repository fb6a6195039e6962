-- The spelling of a form as bytes.
--   numerals    — the numbers of a list, single spaces between them
--   spell f     — the line of the form f
-- Two theorems tie the reading to it (proofs/Spelling.antt): reading the spelling of a form gives that form, and a line that reads as a form
-- is its spelling.
use Rattle.std.specs.Prelude.{List, [], ◌∷◌, ◌++◌, ℕ, ℤ}
use Rattle.line_numeral.specs.Decimal.{numeral}
use Rattle.line_form.specs.Form.{bytes, Form, problem, scale, row, right, right_within, guess, inverse, weight, end}

unfoldable pub numerals : ℤ → List ℤ → List ℕ
numerals a [] = numeral a
numerals a (b ∷ more) = numeral a ++ bytes " " ++ numerals b more

unfoldable pub spell : Form → List ℕ
spell (problem n) = bytes "(problem " ++ numeral n ++ bytes ")"
spell (scale s t) = bytes "(scale " ++ numeral s ++ bytes " " ++ numeral t ++ bytes ")"
spell (row i a others) = bytes "(row " ++ numeral i ++ bytes " (" ++ numerals a others ++ bytes "))"
spell (right i b) = bytes "(right " ++ numeral i ++ bytes " " ++ numeral b ++ bytes ")"
spell (right_within i b d) = bytes "(right " ++ numeral i ++ bytes " (" ++ numerals b (d ∷ []) ++ bytes "))"
spell (guess i x) = bytes "(guess " ++ numeral i ++ bytes " " ++ numeral x ++ bytes ")"
spell (inverse i g others) = bytes "(inverse " ++ numeral i ++ bytes " (" ++ numerals g others ++ bytes "))"
spell (weight i w) = bytes "(weight " ++ numeral i ++ bytes " " ++ numeral w ++ bytes ")"
spell end = bytes "(end)"
