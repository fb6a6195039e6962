-- The limits of a column from the biased rows of the inverse; cited by contracts inside.
--   column_magnitude rows residuals n m j — the magnitude of p_m of column j, from the biased rows of G and the biased residuals, column after column
--   inverse_part n rows — the problem whose inverse stands in biased rows, as far as p needs it
--   Near r σ n   — the magnitude of each residual with its slack is at most 2^25
--   limits_of n rows r σ margins weights i — limit i from the residual r and the slack σ, with margins and weights in lists
use Rattle.std.specs.Prelude.{List, [], ℕ, ◌+◌, ◌*◌, ◌≤◌, ◌<◌, ℤ, nat_abs, get_or}
use Rattle.linear.specs.Matrix.{Vec}
use Rattle.linear.specs.Slice.{at}
use Rattle.check_biased_rows.specs.Biased.{row_dot}
use Rattle.enclosure.specs.Problem.{Problem}
use Rattle.enclosure.specs.Reckoning.{allowed_residual, magnitudes_with, bound_from}
use Rattle.check_arrays.specs.Parts.{rows_part}

abbrev pub column_magnitude : List ℕ → List ℕ → ℕ → ℕ → ℕ → ℕ
column_magnitude rows residuals n m j = nat_abs (row_dot rows (m * (n + 1)) residuals (j * (n + 1)) n)

abbrev pub inverse_part : ℕ → List ℕ → Problem
inverse_part n rows = rows_part n 0 [] rows

pub record Near (r : Vec) (σ : ℕ → ℕ) (n : ℕ) : Type 0 where
  pub each : (k : ℕ) → k < n → nat_abs (r k) + σ k ≤ allowed_residual

abbrev pub limits_of : ℕ → List ℕ → Vec → (ℕ → ℕ) → List ℕ → List ℤ → ℕ → ℕ
limits_of n rows r σ margins weights =
    bound_from n (magnitudes_with (inverse_part n rows) r σ) (λ (m : ℕ). get_or margins m 0) (λ (i : ℕ). nat_abs (at weights i))
