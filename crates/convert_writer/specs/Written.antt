-- What the writer of a new file works on and writes; cited by the contracts inside.
--   held_by c    — the problem that the numbers collected from a file's lines hold
--   form_line f  — the line of the form f, with its line feed
--   part_lines P p — the lines of the part p, by rising i;  rest_of P — those of all parts, part after part, and the end
--   integers n f — the numbers f 0, .., f (n − 1), single spaces between them
--   value_text word i z — (word i z);  row_text word i n f — (word i (f 0 .. f (n − 1))); the word comes with its bracket and the space after it
--   most_for p   — the most bytes that a line of the part p has, its line feed among them
--   line_room    — the room that the writer of a line asks for: it counts 20 bytes for every number
--   SmallFrom values start n — the n numbers from the place start on are smaller in absolute value than 2^63;  FirstSmall values n — the first n are
use Rattle.std.specs.Prelude.{List, [], ◌∷◌, ◌++◌, ℕ, ◌+◌, ◌<◌, ◌^◌, ℤ, nat_abs}
use Rattle.linear.specs.Slice.{at}
use Rattle.enclosure.specs.Problem.{Problem, problem_of}
use Rattle.line_numeral.specs.Decimal.{decimal, numeral}
use Rattle.line_form.specs.Form.{Form, end, bytes}
use Rattle.line_form.specs.Spelling.{spell}
use Rattle.loader_values.specs.declared.Part.{Part}
use Rattle.loader_values.specs.declared.Part.TheVariants.{Row, Right, Guess, Inverse, Weight}
use Rattle.listing_text.specs.Line.{each, gap}
use Rattle.file.specs.declared.Collected.{Collected}
use Rattle.convert_spec.specs.File.{form_for}

abbrev pub held_by : Collected → Problem
held_by c = problem_of c.loader.n c.loader.s c.loader.t c.matrix c.right c.tolerance c.guess c.inverse c.weights

abbrev pub form_line : Form → List ℕ
form_line f = spell f ++ (10 ∷ [])

abbrev pub part_lines : Problem → Part → List ℕ
part_lines P p = each P.n (λ (i : ℕ). form_line (form_for P p i))

abbrev pub rest_of : Problem → List ℕ
rest_of P = part_lines P Row ++ (part_lines P Right ++ (part_lines P Guess ++ (part_lines P Inverse ++ (part_lines P Weight ++ form_line end))))

abbrev pub integers : ℕ → (ℕ → ℤ) → List ℕ
integers n f = each n (λ (j : ℕ). gap j ++ numeral (f j))

abbrev pub value_text : List ℕ → ℕ → ℤ → List ℕ
value_text word i z = word ++ decimal i ++ bytes " " ++ numeral z ++ bytes ")\n"

abbrev pub row_text : List ℕ → ℕ → ℕ → (ℕ → ℤ) → List ℕ
row_text word i n f = word ++ decimal i ++ bytes " (" ++ integers n f ++ bytes "))\n"

abbrev pub most_for : Part → ℕ
most_for Row = 299
most_for Right = 23
most_for Guess = 24
most_for Inverse = 303
most_for Weight = 17

abbrev pub line_room : ℕ
line_room = 707

abbrev pub SmallFrom : List ℤ → ℕ → ℕ → Type 0
SmallFrom values start n = (j : ℕ) → j < n → nat_abs (at values (start + j)) < 2 ^ 63

abbrev pub FirstSmall : List ℤ → ℕ → Type 0
FirstSmall values n = (i : ℕ) → i < n → nat_abs (at values i) < 2 ^ 63
