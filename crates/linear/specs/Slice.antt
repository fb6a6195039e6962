-- Slices as vectors and matrices (01: "row after row").
--   at xs k      — the number at place k, 0 past the end
--   vector_of xs  — the slice as a vector
--   matrix_of xs n — the slice as a matrix of n columns, row after row
use Rattle.std.specs.Prelude.{List, ℕ, ◌+◌, ◌*◌, ℤ, pos, get_or}
use Rattle.linear.specs.Matrix.{Vec, Mat}

abbrev pub at : List ℤ → ℕ → ℤ
at xs k = get_or xs k (pos 0)

abbrev pub vector_of : List ℤ → Vec
vector_of xs i = at xs i

abbrev pub matrix_of : List ℤ → ℕ → Mat
matrix_of xs n i j = at xs (i * n + j)
