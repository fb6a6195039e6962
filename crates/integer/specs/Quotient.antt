-- Quotients rounded to whole numbers, for a divisor above 0.
--   ceil_div a b  — a / b rounded up (01: "each rounded up to a whole number")
--   round_div x d — x / d rounded to nearest, halves away from zero (01: "Register entry", for V)
use Rattle.std.specs.Prelude.{ℕ, suc, ◌+◌, ◌*◌, ◌-◌, ◌/◌, ℤ, pos, negsuc, neg_ℤ}

unfoldable pub ceil_div : ℕ → ℕ → ℕ
ceil_div a b = (a + (b - 1)) / b

unfoldable pub round_div : ℤ → ℕ → ℤ
round_div (pos a) d = pos ((2 * a + d) / (2 * d))
round_div (negsuc a) d = neg_ℤ (pos ((2 * suc a + d) / (2 * d)))
