-- The doubles on either side of z units of 2 ^ -1074.
--   LowEnd r z  — r is the largest finite double not above z units, and plus zero where it is a zero
--   HighEnd r z — r is the smallest finite double not below z units, and plus zero where it is a zero
--   below z, above z — these two doubles: proofs/Ends shows that they are, proofs/Unique that no other is
--   dropped n   — how many binary digits of n a double has no room for: all past the 53rd
--   toward negative n, away negative n — ±n units with those digits cut off, and with one more in the last digit kept where something was cut off
use Rattle.std.specs.Prelude.{Bool, true, false, ◌≡◌, ℕ, suc, ◌-◌, ◌/◌, ◌^◌, ℤ, pos, negsuc, ◌≤ℤ◌, Float}
use Rattle.std.specs.Float.{binary64}
use Rattle.std.specs.Float.Ieee.{size, units}
use Rattle.integer.specs.Quotient.{ceil_div}
use Rattle.doubles_guess.specs.Units.{whole, Double, plus_zero}

pub record LowEnd (r : Float) (z : ℤ) : Type 0 where
  pub double : Double r
  pub under : whole r ≤ℤ z
  pub most : (y : Float) → Double y → whole y ≤ℤ z → whole y ≤ℤ whole r
  pub plus : whole r ≡ pos 0 → r ≡ plus_zero

pub record HighEnd (r : Float) (z : ℤ) : Type 0 where
  pub double : Double r
  pub over : z ≤ℤ whole r
  pub least : (y : Float) → Double y → z ≤ℤ whole y → whole r ≤ℤ whole y
  pub plus : whole r ≡ pos 0 → r ≡ plus_zero

unfoldable pub dropped : ℕ → ℕ
dropped n = size n - 53

-- units binary64 negative q k is the double ±q · 2^k units
unfoldable pub toward : Bool → ℕ → Float
toward negative n = units binary64 negative (n / 2 ^ dropped n) (dropped n)

unfoldable pub away : Bool → ℕ → Float
away negative n = units binary64 negative (ceil_div n (2 ^ dropped n)) (dropped n)

unfoldable pub below : ℤ → Float
below (pos n) = toward false n
below (negsuc n) = away true (suc n)

unfoldable pub above : ℤ → Float
above (pos n) = away false n
above (negsuc n) = toward true (suc n)
