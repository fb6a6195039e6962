-- The two parts of a whole number x = pos_part x − neg_part x, of which one is 0.
--   pos_part x, neg_part x — the magnitude of x where x is 0 or more, and where it is below 0; 0 else
use Rattle.std.specs.Prelude.{ℕ, suc, ℤ, pos, negsuc}

unfoldable pub pos_part : ℤ → ℕ
pos_part (pos a) = a
pos_part (negsuc a) = 0

unfoldable pub neg_part : ℤ → ℕ
neg_part (pos a) = 0
neg_part (negsuc a) = suc a
