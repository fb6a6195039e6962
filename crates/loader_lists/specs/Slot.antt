-- The six lent lists, each with the part whose forms give its numbers. A right side gives two, b and its tolerance (02, Paper 5: "(right i b) means d = 0, written
-- like a given one").
--   Slot          — a list: the matrix A, the right side b, the tolerances d, the guess X, the inverse G, the weights w
--   part_of s      — the part whose forms give the numbers of the list s
--   width s n     — how many numbers of it a form gives
--   right_value s b d — what a right side gives to the list s: d to the tolerances, else b
--   values_for s f — the numbers of the form f, a form of that part, for the list s
use Rattle.std.specs.Prelude.{List, [], ◌∷◌, ℕ, ℤ, pos}
use Rattle.line_form.specs.Form.{Form, problem, scale, row, right, right_within, guess, inverse, weight, end}
use Rattle.loader_values.specs.declared.Part.{Part}
use Rattle.loader_values.specs.declared.Part.TheVariants as part

pub data Slot : Type 0 where
  Matrix : Slot
  Right : Slot
  Tolerance : Slot
  Guess : Slot
  Inverse : Slot
  Weight : Slot

abbrev pub part_of : Slot → Part
part_of Matrix = part.Row
part_of Right = part.Right
part_of Tolerance = part.Right
part_of Guess = part.Guess
part_of Inverse = part.Inverse
part_of Weight = part.Weight

abbrev pub width : Slot → ℕ → ℕ
width Matrix n = n
width Right n = 1
width Tolerance n = 1
width Guess n = 1
width Inverse n = n
width Weight n = 1

abbrev pub right_value : Slot → ℤ → ℤ → ℤ
right_value Matrix b d = b
right_value Right b d = b
right_value Tolerance b d = d
right_value Guess b d = b
right_value Inverse b d = b
right_value Weight b d = b

abbrev pub values_for : Slot → Form → List ℤ
values_for s (problem n) = []
values_for s (scale u v) = []
values_for s (row i a others) = a ∷ others
values_for s (right i b) = right_value s b (pos 0) ∷ []
values_for s (right_within i b d) = right_value s b d ∷ []
values_for s (guess i x) = x ∷ []
values_for s (inverse i g others) = g ∷ others
values_for s (weight i w) = w ∷ []
values_for s end = []
