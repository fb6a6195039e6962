-- Where the numbers of a matrix stand, and a place that is carried along. 02, Paper 4: "in the sums along a row and down a column the place of each
-- number is carried along from term to term, and no term multiplies it out from row and column. At each term it is shown to be the place that row
-- and column give."
--   place_of n i j — the place of row i and column j in a list of n columns, row after row: the place that `matrix_of` reads
--   Carried start stride j place — the place of term j: j strides after the start
-- Row i starts at i·n and has stride 1, column j starts at j and has stride n: the laws `row_place` and `column_place` of proofs/Carried.antt.
use Rattle.std.specs.Prelude.{◌≡◌, ℕ, ◌+◌, ◌*◌}

abbrev pub place_of : ℕ → ℕ → ℕ → ℕ
place_of n i j = i * n + j

pub record Carried (start stride j place : ℕ) : Type 0 where
  pub is : place ≡ start + j * stride
