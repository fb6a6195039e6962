-- The lines of a listing as bytes, each with its line feed.
--   each n f    — f 0, .., f (n − 1), one after another
--   numbers n f — the numbers f 0, .., f (n − 1), single spaces between them
--   gap j       — the space before the number j, but for the first;  line_opening word i, line_closing — a line's start, up to the inner bracket, and its end
--   pair_line word i z e   — (word i (z e));  list_line word i n f — (word i (f 0 .. f (n − 1))); the word comes with its bracket and the space after it
use Rattle.std.specs.Prelude.{List, [], ◌++◌, ℕ, zero, suc, ℤ}
use Rattle.line_numeral.specs.Decimal.{decimal, numeral}
use Rattle.line_form.specs.Form.{bytes}

unfoldable pub each : ℕ → (ℕ → List ℕ) → List ℕ
each zero f = []
each (suc n) f = each n f ++ f n

abbrev pub gap : ℕ → List ℕ
gap zero = []
gap (suc j) = bytes " "

abbrev pub numbers : ℕ → (ℕ → ℕ) → List ℕ
numbers n f = each n (λ (j : ℕ). gap j ++ decimal (f j))

abbrev pub line_opening : List ℕ → ℕ → List ℕ
line_opening word i = word ++ decimal i ++ bytes " ("

abbrev pub line_closing : List ℕ
line_closing = bytes "))\n"

abbrev pub pair_line : List ℕ → ℕ → ℤ → ℕ → List ℕ
pair_line word i z e = line_opening word i ++ numeral z ++ bytes " " ++ decimal e ++ line_closing

abbrev pub list_line : List ℕ → ℕ → ℕ → (ℕ → ℕ) → List ℕ
list_line word i n f = line_opening word i ++ numbers n f ++ line_closing
