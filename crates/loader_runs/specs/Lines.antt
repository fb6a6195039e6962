-- The lines of a file (01: "ASCII lines, each ended by one line feed (a last line may lack it)").
--   before b lines — the lines with the byte b before the first of them
--   lines_of s      — the lines, without their line feeds
use Rattle.std.specs.Prelude.{cond, List, [], ◌∷◌, ℕ, eqb}

abbrev pub before : ℕ → List (List ℕ) → List (List ℕ)
before b [] = (b ∷ []) ∷ []
before b (line ∷ lines) = (b ∷ line) ∷ lines

unfoldable pub lines_of : List ℕ → List (List ℕ)
lines_of [] = []
lines_of (b ∷ bs) = cond (eqb b 10) ([] ∷ lines_of bs) (before b (lines_of bs))
