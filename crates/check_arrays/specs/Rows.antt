-- The reckoning on biased rows; cited by contracts inside.
--   InverseRows xs n — n biased rows that stand for numbers of at most 2^20 in absolute value, as those of the inverse do
use Rattle.std.specs.Prelude.{List, ℕ, ◌≤◌, ◌<◌, ◌^◌, nat_abs}
use Rattle.check_biased_rows.specs.Biased.{BiasedRows, unbiased_rows}

pub record InverseRows (xs : List ℕ) (n : ℕ) : Type 0 where
  pub rows : BiasedRows xs n
  pub magnitudes : (i k : ℕ) → i < n → k < n → nat_abs (unbiased_rows xs n i k) ≤ 2 ^ 20
