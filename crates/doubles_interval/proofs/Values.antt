-- Doubles by sign, digits and shift (the kit's `units`).
--   units_double, units_value — units negative q k is a finite double, ±q · 2^k units in value
--   units_is, units_same — a double of that value is it, and equal magnitudes give one double;  fine_magnitude — a magnitude that is no infinity
--   from_pattern — the double of a pattern whose fields are sign, shift and digits
use mathlib.Core.Path.{◌≡◌, subst}
use mathlib.Core.Bool.{Bool, true, false, cond}
use Prim.Native.Nat.{ℕ, ◌+◌, ◌*◌, ◌^◌, ◌≤◌, ◌<◌}
use native.Mathlib.Nat.{lt_of_le_of_lt, lt_of_lt_of_le, le_of_eq}
use native.Mathlib.Omega.{arith}
use lib.Dec.{T, ltb, ltb→lt}
use lib.Pow.{pow_mono, shl_lt}
use lib.Ieee.{Float, inf, binary64, fits, odd, units, of_bits}
use lib.Ieee.Bits.{of_bits-fits}
use lib.Ieee.Fits.{odd-fits}
use lib.Ieee.Exact.{HasValue, units_val}
use Rattle.doubles_guess.specs.Units.{Double}
use Rattle.doubles_guess.proofs.Exact.{value_finite, same_value}
use Rattle.doubles_guess.proofs.Pattern.{Read, pattern_value}

module _ (s : Bool) (q k : ℕ) (small : q ≤ 2 ^ 53) where
  held : T (fits binary64 (units binary64 s q k))
  unfolding units
  held = go (ltb (q * 2 ^ k) (2 ^ 2098)) (ltb→lt (q * 2 ^ k) (2 ^ 2098))
    where
      go : (b : Bool) → (T b → q * 2 ^ k < 2 ^ 2098) → T (fits binary64 (cond b (odd 54 s q k 1074) (inf s)))
      go true h = odd-fits binary64 54 s q k (omega arith) small (h tt)
      go false h = unfold fits in tt

  module _ (fine : q * 2 ^ k < 2 ^ 2098) where
    pub units_value : HasValue (units binary64 s q k) s (q * 2 ^ k) (2 ^ 1074)
    units_value = units_val binary64 s q k fine

    pub units_double : Double (units binary64 s q k)
    units_double = record { held = held; finite = value_finite (units binary64 s q k) s (q * 2 ^ k) (2 ^ 1074) units_value }

    units_is : (x : Float) → T (fits binary64 x) → HasValue x s (q * 2 ^ k) (2 ^ 1074) → x ≡ units binary64 s q k
    units_is x f v = same_value x (units binary64 s q k) s (q * 2 ^ k) f held v units_value

pub units_same : (s : Bool) (q k q' k' : ℕ) → q ≤ 2 ^ 53 → q' ≤ 2 ^ 53 → q' * 2 ^ k' < 2 ^ 2098 → q * 2 ^ k ≡ q' * 2 ^ k' → units binary64 s q k ≡ units binary64 s q' k'
units_same s q k q' k' h h' fine e =
    units_is s q' k' h' fine (units binary64 s q k) (held s q k h)
    (subst (λ (n : ℕ). HasValue (units binary64 s q k) s n (2 ^ 1074)) e (units_value s q k h (lt_of_le_of_lt (le_of_eq e) fine)))

-- 53 digits shifted up by at most 2045 stay below 2^2098
pub fine_magnitude : (q k : ℕ) → q < 2 ^ 53 → k ≤ 2045 → q * 2 ^ k < 2 ^ 2098
fine_magnitude q k h l = lt_of_lt_of_le (shl_lt 53 k h) (pow_mono {i = 53 + k} {j = 2098} (omega arith))

pub from_pattern : (n k q : ℕ) (s : Bool) → k ≤ 2045 → 2 ^ 52 ≤ q → q < 2 ^ 53 → Read n k q s → of_bits binary64 n ≡ units binary64 s q k
from_pattern n k q s K L H r = units_is s q k (omega arith) (fine_magnitude q k H K) (of_bits binary64 n) (of_bits-fits binary64 n) (pattern_value n k q s K L r)
