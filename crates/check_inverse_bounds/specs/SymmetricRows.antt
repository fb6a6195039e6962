-- The absolute values of p = G·r for all columns of the inverse, and when half of them will do; cited by contracts inside.
--   magnitude_in rows residuals n j m — that of p_m of column j, from the biased rows of G and the residuals, column after column
--   KnownHalf list n k rows residuals — in the first k columns of the list stand those of p from the diagonal on
--   SymmetricProduct rows residuals n — p_m of column j is p_j of column m
use Rattle.std.specs.Prelude.{◌≡◌, List, ℕ, ◌+◌, ◌*◌, ◌≤◌, ◌<◌, ℤ, nat_abs, get_or}
use Rattle.linear.specs.Matrix.{apply}
use Rattle.linear.specs.Slice.{at}
use Rattle.check_biased_rows.specs.Biased.{unbiased_rows}

abbrev pub magnitude_in : List ℕ → List ℤ → ℕ → ℕ → ℕ → ℕ
magnitude_in rows residuals n j m = nat_abs (apply n (unbiased_rows rows n) (λ (k : ℕ). at residuals (j * n + k)) m)

pub record KnownHalf (list : List ℕ) (n k : ℕ) (rows : List ℕ) (residuals : List ℤ) : Type 0 where
  pub each : (j m : ℕ) → j < k → j ≤ m → m < n → get_or list (j * n + m) 0 ≡ magnitude_in rows residuals n j m

pub record SymmetricProduct (rows : List ℕ) (residuals : List ℤ) (n : ℕ) : Type 0 where
  pub each : (m j : ℕ) → m < n → j < n →
      apply n (unbiased_rows rows n) (λ (k : ℕ). at residuals (j * n + k)) m ≡ apply n (unbiased_rows rows n) (λ (k : ℕ). at residuals (m * n + k)) j
