-- What a check asks of a problem whose numbers are in range.
--   Margins P, Residuals P — every margin is above 0; no residual of the guess is above 2^25 in absolute value, its slack added, or above the sum along its row
--   Sound P                — both, and the same of every column of the inverse
use Rattle.std.specs.Prelude.{◌≡◌, false, ℕ, ◌<◌}
use Rattle.enclosure.specs.Problem.{Problem, column_of}
use Rattle.enclosure.specs.Reckoning.{margin_fails, exceeds}

abbrev pub Margins : Problem → Type 0
Margins P = (m : ℕ) → m < P.n → margin_fails P m ≡ false

abbrev pub Residuals : Problem → Type 0
Residuals P = (k : ℕ) → k < P.n → exceeds P k ≡ false

pub record Sound (P : Problem) : Type 0 where
  pub margins : Margins P
  pub residuals : Residuals P
  pub columns : (j : ℕ) → j < P.n → Residuals (column_of P j)
