-- What the calls on two matrices and a column of weights test of their lists: the search for weights, and the call for the factor.
--   any_square_short a g w — a list of one of these lengths is too short
use Rattle.std.specs.Prelude.{Bool, ◌||◌, ℕ}
use Rattle.rules.specs.Range.{short_matrix, short_column}

abbrev pub any_square_short : ℕ → ℕ → ℕ → Bool
any_square_short a g w = short_matrix a || (short_matrix g || short_column w)
