-- How long the first line is; cited by contracts and theorems inside.
--   line_length s — how many bytes stand before the first line feed, or before the end
use Rattle.std.specs.Prelude.{cond, List, [], ◌∷◌, ℕ, suc, eqb}

unfoldable pub line_length : List ℕ → ℕ
line_length [] = 0
line_length (b ∷ bs) = cond (eqb b 10) 0 (suc (line_length bs))
