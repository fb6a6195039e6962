-- The one line of a refused file (01: "It stops at its first refusal and prints one line, (refused 5 (1))").
--   shown line vs     — what stands in the inner brackets: the values that the refusal gives (the row for 5 and 6, column and row for 7, the count for 13);
--     the number of the line where it gives its number alone, which is 0 for 15
--   printed line code — the numbers of the line of a refusal, said in 01's number and values: the number, then what stands in the inner brackets;
--     none where nothing is said
--   refused_of numbers — the line
use Rattle.std.specs.Prelude.{List, [], ◌∷◌, ℕ, length, get_or}
use Rattle.line_form.specs.Form.{bytes}
use Rattle.listing_text.specs.Line.{list_line}

abbrev pub shown : ℕ → List ℕ → List ℕ
shown line [] = line ∷ []
shown line (v ∷ vs) = v ∷ vs

abbrev pub printed : ℕ → List ℕ → List ℕ
printed line [] = []
printed line (k ∷ vs) = k ∷ shown line vs

abbrev pub refused_of : List ℕ → List ℕ
refused_of [] = []
refused_of (k ∷ vs) = list_line (bytes "(refused ") k (length vs) (λ (j : ℕ). get_or vs j 0)
