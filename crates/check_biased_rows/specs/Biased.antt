-- Numbers biased above 0, in rows; for the reckoning's own use, no word of 01.
--   bias      — 2^25, what is added to a number to bias it
--   unbiased x     — the number that x stands for, x − 2^25
--   Small xs p n  — n numbers from place p on, each at most 2^26
--   BiasedRow xs p n — such numbers, and after them their sum;  BiasedRows xs n — n such rows one after another
--   unbiased_rows xs n — the matrix that n such rows stand for
--   row_dot xs p ys q n — the sum over k below n of the products of the numbers that two rows stand for
--   RowOf xs p n f — a row that stands for f 0, .., f (n − 1)
--   RowsOf xs n m f — m such rows one after another, row i for f i 0, .., f i (n − 1)
--   Kept xs ys p  — as long as before, and the same below place p
use Rattle.std.specs.Prelude.{◌≡◌, List, ℕ, ◌+◌, ◌*◌, ◌≤◌, ◌<◌, ◌^◌, ℤ, pos, ◌-ℤ◌, ◌*ℤ◌, get_or, length}
use Rattle.integer.specs.Finite.{sum, sumℕ}
use Rattle.linear.specs.Matrix.{Mat}

abbrev pub bias : ℕ
bias = 2 ^ 25

unfoldable pub unbiased : ℕ → ℤ
unbiased x = pos x -ℤ pos bias

pub record Small (xs : List ℕ) (p n : ℕ) : Type 0 where
  pub each : (k : ℕ) → k < n → get_or xs (p + k) 0 ≤ 2 * bias

pub record BiasedRow (xs : List ℕ) (p n : ℕ) : Type 0 where
  pub inside : p + n < length xs
  pub small : Small xs p n
  pub total : get_or xs (p + n) 0 ≡ sumℕ n (λ (k : ℕ). get_or xs (p + k) 0)

pub record BiasedRows (xs : List ℕ) (n : ℕ) : Type 0 where
  pub each : (i : ℕ) → i < n → BiasedRow xs (i * (n + 1)) n

abbrev pub unbiased_rows : List ℕ → ℕ → Mat
unbiased_rows xs n i k = unbiased (get_or xs (i * (n + 1) + k) 0)

unfoldable pub row_dot : List ℕ → ℕ → List ℕ → ℕ → ℕ → ℤ
row_dot xs p ys q n = sum n (λ (k : ℕ). unbiased (get_or xs (p + k) 0) *ℤ unbiased (get_or ys (q + k) 0))

pub record RowOf (xs : List ℕ) (p n : ℕ) (f : ℕ → ℤ) : Type 0 where
  pub row : BiasedRow xs p n
  pub each : (k : ℕ) → k < n → unbiased (get_or xs (p + k) 0) ≡ f k

pub record RowsOf (xs : List ℕ) (n m : ℕ) (f : Mat) : Type 0 where
  pub each : (i : ℕ) → i < m → RowOf xs (i * (n + 1)) n (f i)

pub record Kept (xs ys : List ℕ) (p : ℕ) : Type 0 where
  pub long : length ys ≡ length xs
  pub below : (i : ℕ) → i < p → get_or ys i 0 ≡ get_or xs i 0
