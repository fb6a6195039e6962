-- Sums of multiples of biased rows; cited by contracts inside. A factor has two natural numbers (`pos_part`, `neg_part`), of which one is 0, so the sums stay natural numbers:
-- those of factors of 0 or more stand from place 0 on, those of factors below 0 from place 32 on.
--   half_of x     — the place from which on the sums that x belongs to stand
--   NoSums sums n — there are 64 sums, and the first n of both halves are 0
--   SmallSums sums p n — the n sums from place p on are at most 2^62
--   Added before after n x row — x times each of the first n numbers of a row was added to its sum
--   SumsOf sums n k xs rows — the sums over the first k factors and rows, for the first n numbers of a row
use Rattle.std.specs.Prelude.{◌≡◌, List, ℕ, ◌+◌, ◌*◌, ◌≤◌, ◌<◌, ◌^◌, ℤ, pos, negsuc, get_or, length}
use Rattle.integer.specs.Finite.{sumℕ}
use Rattle.integer.specs.SignedParts.{pos_part, neg_part}

unfoldable pub half_of : ℤ → ℕ
half_of (pos a) = 0
half_of (negsuc a) = 32

pub record NoSums (sums : List ℕ) (n : ℕ) : Type 0 where
  pub long : length sums ≡ 64
  pub ups : (j : ℕ) → j < n → get_or sums j 0 ≡ 0
  pub downs : (j : ℕ) → j < n → get_or sums (32 + j) 0 ≡ 0

pub record SmallSums (sums : List ℕ) (p n : ℕ) : Type 0 where
  pub each : (j : ℕ) → j < n → get_or sums (p + j) 0 ≤ 2 ^ 62

pub record Added (before after : List ℕ) (n : ℕ) (x : ℤ) (row : ℕ → ℕ) : Type 0 where
  pub long : length after ≡ length before
  pub ups : (j : ℕ) → j < n → get_or after j 0 ≡ get_or before j 0 + pos_part x * row j
  pub downs : (j : ℕ) → j < n → get_or after (32 + j) 0 ≡ get_or before (32 + j) 0 + neg_part x * row j

pub record SumsOf (sums : List ℕ) (n k : ℕ) (xs : ℕ → ℤ) (rows : ℕ → ℕ → ℕ) : Type 0 where
  pub ups : (j : ℕ) → j < n → get_or sums j 0 ≡ sumℕ k (λ (i : ℕ). pos_part (xs i) * rows i j)
  pub downs : (j : ℕ) → j < n → get_or sums (32 + j) 0 ≡ sumℕ k (λ (i : ℕ). neg_part (xs i) * rows i j)
