-- The forms of all parts that were not given, weights among them: 01's count of missing forms (specs/Before), and what may still be accepted at a loader.
--   parts       — all parts;  ungiven n z — how many of their forms were not given, out of 5n: each i from 1 to n, once for each part
use Rattle.std.specs.Prelude.{List, [], ◌∷◌, ℕ}
use Rattle.loader_bit_set.specs.Places.{lacking}
use Rattle.loader_values.specs.declared.Part.{Part}
use Rattle.loader_values.specs.declared.Part.TheVariants.{Row, Right, Guess, Inverse, Weight}
use Rattle.loader_progress.specs.Progress.{set_of, total_over}

abbrev pub parts : List Part
parts = Row ∷ Right ∷ Guess ∷ Inverse ∷ Weight ∷ []

unfoldable pub ungiven : ℕ → List ℕ → ℕ
ungiven n z = total_over parts (λ (p : Part). lacking (set_of z p) n)
