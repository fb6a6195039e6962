-- A symmetric matrix in a list, row after row; cited by contracts inside.
--   Symmetric xs n — number i, j is number j, i, for all rows and columns below n
use Rattle.std.specs.Prelude.{◌≡◌, List, ℕ, ◌+◌, ◌*◌, ◌<◌, ℤ}
use Rattle.linear.specs.Slice.{at}

pub record Symmetric (xs : List ℤ) (n : ℕ) : Type 0 where
  pub each : (i j : ℕ) → i < n → j < n → at xs (i * n + j) ≡ at xs (j * n + i)
