-- Vectors and matrices as index functions; only their first n numbers count.
--   Vec, Mat     — ℕ → ℤ, and ℕ → ℕ → ℤ (row, column)
--   column A j   — column j of A
--   apply n A v  — the product A·v: row k is the sum over j of A k j · v j
--   product n G A — the product G·A
--   identity     — the unit matrix I
use Rattle.std.specs.Prelude.{cond, ℕ, eqb, ℤ, pos, ◌*ℤ◌}
use Rattle.integer.specs.Finite.{sum}

abbrev pub Vec : Type 0
Vec = ℕ → ℤ

abbrev pub Mat : Type 0
Mat = ℕ → ℕ → ℤ

abbrev pub column : Mat → ℕ → Vec
column A j i = A i j

unfoldable pub apply : ℕ → Mat → Vec → Vec
apply n A v k = sum n (λ (j : ℕ). A k j *ℤ v j)

unfoldable pub product : ℕ → Mat → Mat → Mat
product n G A m j = apply n G (column A j) m

unfoldable pub identity : Mat
identity i j = cond (eqb i j) (pos 1) (pos 0)
