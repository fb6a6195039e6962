-- What a sum over slices asks of them, and the sum; cited by contracts inside.
--   dot_of a p s x q u n — the sum over j below n of a[p + j·s] · x[q + j·u]
--   Reach xs p s n b — the n numbers from place p on, s places apart, are in the slice and at most b in absolute value
--   Within xs n b    — the first n numbers are at most b in absolute value
--   ColumnList xs n b — n numbers, each at most b in absolute value;  MatrixList xs n — n·n numbers, each at most 2^20 in absolute value
use Rattle.std.specs.Prelude.{List, ℕ, ◌+◌, ◌*◌, ◌<◌, ◌≤◌, ◌^◌, ℤ, nat_abs, ◌*ℤ◌, length}
use Rattle.integer.specs.Finite.{sum}
use Rattle.linear.specs.Slice.{at}

abbrev pub dot_of : List ℤ → ℕ → ℕ → List ℤ → ℕ → ℕ → ℕ → ℤ
dot_of a p s x q u n = sum n (λ (j : ℕ). at a (p + j * s) *ℤ at x (q + j * u))

pub record Reach (xs : List ℤ) (p s n b : ℕ) : Type 0 where
  pub inside : (j : ℕ) → j < n → p + j * s < length xs
  pub magnitudes : (j : ℕ) → j < n → nat_abs (at xs (p + j * s)) ≤ b

pub record Within (xs : List ℤ) (n b : ℕ) : Type 0 where
  pub magnitudes : (k : ℕ) → k < n → nat_abs (at xs k) ≤ b

pub record ColumnList (xs : List ℤ) (n b : ℕ) : Type 0 where
  pub long : n ≤ length xs
  pub within : Within xs n b

pub record MatrixList (xs : List ℤ) (n : ℕ) : Type 0 where
  pub long : n * n ≤ length xs
  pub within : Within xs (n * n) (2 ^ 20)
