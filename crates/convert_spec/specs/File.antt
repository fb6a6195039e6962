-- The file that a converter writes. Document 02, Paper 14: "writes problem, scale, rows, right sides without tolerance, guesses, inverse rows and all n
-- weights, each kind by rising i, then end, every line with its line feed".
--   numbers_along g j c — the numbers g j, .., g (j + c − 1)
--   form_for P p i      — the form of the part p for the row i of the problem P; rows count from 0 here and from 1 in the forms. A right side has no tolerance
--   rising f i c rest  — the forms f i, .., f (i + c − 1), and then the rest
--   parts_then P ps rest — the forms of the parts ps, part after part, each by rising i, and then the rest
--   old_forms P         — the forms of the problem P, in that order
--   old_file P          — its file: every form spelled, with its line feed
--   new_file file       — the file that is written for a file: that of the problem which its forms give
use Rattle.std.specs.Prelude.{List, [], ◌∷◌, ℕ, zero, suc, ◌-◌, ℤ, pos}
use Rattle.enclosure.specs.Problem.{Problem}
use Rattle.line_form.specs.Form.{Form, problem, scale, row, right, guess, inverse, weight, end}
use Rattle.loader_values.specs.declared.Part.{Part}
use Rattle.loader_values.specs.declared.Part.TheVariants.{Row, Right, Guess, Inverse, Weight}
use Rattle.loader_spelled.specs.Ones.{text_of}
use Rattle.listing.specs.Listing.{problem_in}

unfoldable pub numbers_along : (ℕ → ℤ) → ℕ → ℕ → List ℤ
numbers_along g j zero = []
numbers_along g j (suc c) = g j ∷ numbers_along g (suc j) c

abbrev pub form_for : Problem → Part → ℕ → Form
form_for P Row i = row (pos (suc i)) (P.A i 0) (numbers_along (P.A i) 1 (P.n - 1))
form_for P Right i = right (pos (suc i)) (P.b i)
form_for P Guess i = guess (pos (suc i)) (P.X i)
form_for P Inverse i = inverse (pos (suc i)) (P.G i 0) (numbers_along (P.G i) 1 (P.n - 1))
form_for P Weight i = weight (pos (suc i)) (pos (P.w i))

unfoldable pub rising : (ℕ → Form) → ℕ → ℕ → List Form → List Form
rising f i zero rest = rest
rising f i (suc c) rest = f i ∷ rising f (suc i) c rest

abbrev pub parts_then : Problem → List Part → List Form → List Form
parts_then P [] rest = rest
parts_then P (p ∷ ps) rest = rising (form_for P p) 0 P.n (parts_then P ps rest)

unfoldable pub old_forms : Problem → List Form
old_forms P = problem (pos P.n) ∷ scale (pos P.s) (pos P.t) ∷ parts_then P (Row ∷ Right ∷ Guess ∷ Inverse ∷ Weight ∷ []) (end ∷ [])

abbrev pub old_file : Problem → List ℕ
old_file P = text_of (old_forms P)

abbrev pub new_file : List ℕ → List ℕ
new_file file = old_file (problem_in file)
