-- What document 01 says of each refusal of a check, with the order 8, 3, 5, 6, 7 written out: each case holds only where no earlier one
-- does. Rows and columns count from 0 here, and from 1 in what is said.
--   LongEnough I — the lent lists have their lengths, so that there is no 8 (`short`)
--   Usable I  — no lent list is too short, and n, s, t and every number used are in their ranges: neither 8 nor 3
--   Stated I code — the case that is stated for what is said;  `Margins` is no 5, `Residuals` no 6, `Sound` none of 5, 6 and 7
--     (enclosure/specs/Demand)
use Rattle.std.specs.Prelude.{true, false, List, [], ◌∷◌, ◌≡◌, ℕ, ◌+◌, ◌≤◌, ◌<◌, length}
use Rattle.enclosure.specs.Problem.{column_of}
use Rattle.enclosure.specs.Reckoning.{margin_fails, exceeds}
use Rattle.enclosure.specs.Sound.{Margins, Residuals, Sound}
use Rattle.check_spec.specs.Input.{Input, problem, short, in_ranges}

pub record LongEnough (I : Input) : Type 0 where
  pub matrix : 1024 ≤ length I.matrix
  pub right : 32 ≤ length I.right
  pub tolerance : 32 ≤ length I.tolerance
  pub guess : 32 ≤ length I.guess
  pub inverse : 1024 ≤ length I.inverse
  pub weights : 32 ≤ length I.weights
  pub solution : 32 ≤ length I.solution_bounds
  pub inverses : 1024 ≤ length I.inverse_bounds

pub record Usable (I : Input) : Type 0 where
  pub long : short I ≡ false
  pub inside : in_ranges I ≡ true

pub data Stated (I : Input) : List ℕ → Type 0 where
  -- 8: a lent list too short
  too_short : short I ≡ true → Stated I (8 ∷ [])
  -- 3: a number outside its range
  out_of_range : short I ≡ false → in_ranges I ≡ false → Stated I (3 ∷ [])
  -- 5: a margin of 0 or less; the lowest such row
  margin_low : (m : ℕ) → Usable I → m < I.n → margin_fails (problem I) m ≡ true →
      ((k : ℕ) → k < m → margin_fails (problem I) k ≡ false) → Stated I (5 ∷ (m + 1) ∷ [])
  -- 6: a residual of the guess above 2^25 in absolute value, its slack added, or above the sum of |a| along its row, without slack; the lowest row
  residual_large : (k : ℕ) → Usable I → Margins (problem I) → k < I.n → exceeds (problem I) k ≡ true →
      ((i : ℕ) → i < k → exceeds (problem I) i ≡ false) → Stated I (6 ∷ (k + 1) ∷ [])
  -- 7: the same for the inverse; the lowest column, then its lowest row
  inverse_large : (j k : ℕ) → Usable I → Margins (problem I) → Residuals (problem I) → j < I.n → k < I.n →
      exceeds (column_of (problem I) j) k ≡ true → ((c : ℕ) → c < j → Residuals (column_of (problem I) c)) →
      ((r : ℕ) → r < k → exceeds (column_of (problem I) j) r ≡ false) → Stated I (7 ∷ (j + 1) ∷ (k + 1) ∷ [])
  -- accepted: none of them
  accepted : Usable I → Sound (problem I) → Stated I []
