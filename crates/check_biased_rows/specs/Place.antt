-- Which place of a matrix each place of its biased rows stands for (02, Paper 4).
--   biased_place n i k — the place of number k of biased row i: i·(n + 1) + k, since each row has its sum after it
--   RowsOfMatrix xs n ys — the biased rows xs stand for the rows of the matrix ys: place biased_place n i k for place place_of n i k
--   ColumnsOfMatrix xs n ys — they stand for its columns: place biased_place n j k for place place_of n k j
use Rattle.std.specs.Prelude.{◌≡◌, List, ℕ, ◌+◌, ◌*◌, ◌<◌, ℤ, get_or}
use Rattle.linear.specs.Slice.{at}
use Rattle.linear.specs.Place.{place_of}
use Rattle.check_biased_rows.specs.Biased.{unbiased, BiasedRows}

abbrev pub biased_place : ℕ → ℕ → ℕ → ℕ
biased_place n i k = i * (n + 1) + k

pub record RowsOfMatrix (xs : List ℕ) (n : ℕ) (ys : List ℤ) : Type 0 where
  pub rows : BiasedRows xs n
  pub stands : (i k : ℕ) → i < n → k < n → unbiased (get_or xs (biased_place n i k) 0) ≡ at ys (place_of n i k)

pub record ColumnsOfMatrix (xs : List ℕ) (n : ℕ) (ys : List ℤ) : Type 0 where
  pub rows : BiasedRows xs n
  pub stands : (j k : ℕ) → j < n → k < n → unbiased (get_or xs (biased_place n j k) 0) ≡ at ys (place_of n k j)
