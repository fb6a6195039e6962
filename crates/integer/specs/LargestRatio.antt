-- The largest quotient, over index functions; cited by contracts inside, and by source 002's Theorem 1.
--   LargestRatio n u v k — k is a place below n where u / v is largest
use Rattle.std.specs.Prelude.{ℕ, ◌*◌, ◌≤◌, ◌<◌}

-- the quotients are compared by products
pub record LargestRatio (n : ℕ) (u v : ℕ → ℕ) (k : ℕ) : Type 0 where
  pub below : k < n
  pub most : (m : ℕ) → m < n → u m * v k ≤ u k * v m
