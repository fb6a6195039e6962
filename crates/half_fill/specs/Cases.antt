-- A half and its filled-out matrix, by numbers.
--   six_half, six_square — rows 1 / 2 3 / 4 5 6, and the nine numbers that they stand for
use Rattle.std.specs.Prelude.{List, [], ◌∷◌, ℤ, pos}

abbrev pub six_half : List ℤ
six_half = pos 1 ∷ pos 2 ∷ pos 3 ∷ pos 4 ∷ pos 5 ∷ pos 6 ∷ []

abbrev pub six_square : List ℤ
six_square = pos 1 ∷ pos 2 ∷ pos 4 ∷ pos 2 ∷ pos 3 ∷ pos 5 ∷ pos 4 ∷ pos 5 ∷ pos 6 ∷ []
