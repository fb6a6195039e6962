-- The spelling of a number (01: "A number is 0, or digits without a leading 0, with a minus before it where negative").
--   decimal n — the decimal digits of n as bytes, the highest first, without a leading 0; 0 is the one digit 0
--   numeral z — the same with a minus before it where z is negative
--   digits f n — the last f digits of n at most; in `decimal` f is at least their count (law `decimal_next`: 10 ≤ n → decimal n ≡ decimal (n / 10) ++ ..)
use Rattle.std.specs.Prelude.{ℕ, zero, suc, ◌+◌, ◌/◌, ◌%◌, ◌^◌, cond, List, [], ◌∷◌, ◌++◌, ℤ, pos, negsuc, nat_lt}

unfoldable pub digits : ℕ → ℕ → List ℕ
digits zero n = []
digits (suc f) n = cond (nat_lt n 10) ((48 + n) ∷ []) (digits f (n / 10) ++ ((48 + n % 10) ∷ []))

unfoldable pub decimal : ℕ → List ℕ
decimal n = digits (20 + n / 10 ^ 20) n

unfoldable pub numeral : ℤ → List ℕ
numeral (pos n) = decimal n
numeral (negsuc n) = 45 ∷ decimal (suc n)
