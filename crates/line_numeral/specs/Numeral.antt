-- What stands at a place of a line, read exactly: numbers of any size, to the end of their digits.
-- Each reading gives the place after what it read, or the place `lost`, past every place of the line, where nothing of the kind stands there.
-- Bytes: 48 to 57 are the digits, 45 is the minus.
--   digit_of b     — the value of a decimal digit; 10 for any other byte
--   lost s        — the place that is given where a reading fails
--   run_at v i l   — the digits at the head of l, which starts at the place i, after digits of value v
--   magnitude_at s at — 0, or digits without a leading 0
--   positive_of, negative_of — the number of a magnitude, and its negative; −0 is none
--   number_at s at — a number
--   cap_at         — the cap, 2^40; no range of 01 reaches so far (law `cap_range`)
--   cap_magnitude, cap z — a magnitude, and a number, or ±2^40 where it is larger in absolute value: the one place where numbers are capped
use Rattle.std.specs.Prelude.{ℕ, suc, ◌+◌, ◌-◌, ◌*◌, ◌^◌, min, cond, List, [], ◌∷◌, length, drop, ℤ, pos, negsuc, neg_ℤ, ◌==◌, nat_lt, slice_index}
use Rattle.line_numeral.specs.declared.Number.{Number}
use Rattle.line_numeral.specs.declared.Magnitude.{Magnitude}

abbrev pub digit_of : ℕ → ℕ
digit_of b = cond (nat_lt b 48) 10 (cond (nat_lt b 58) (b - 48) 10)

abbrev pub lost : List ℕ → ℕ
lost s = length s + 1

unfoldable pub run_at : ℕ → ℕ → List ℕ → Magnitude
run_at v i [] = record { value = v; next = i }
run_at v i (b ∷ bs) = cond (nat_lt (digit_of b) 10) (run_at (v * 10 + digit_of b) (i + 1) bs) (record { value = v; next = i })

unfoldable pub magnitude_at : List ℕ → ℕ → Magnitude
magnitude_at s at =
    cond (slice_index s at == 48) (record { value = 0; next = at + 1 })
    (cond (nat_lt (digit_of (slice_index s at)) 10) (run_at 0 at (drop at s)) (record { value = 0; next = lost s }))

abbrev pub positive_of : Magnitude → Number
positive_of z = record { value = pos z.value; next = z.next }

-- the first argument is the place that is given for −0
abbrev pub negative_of : ℕ → Magnitude → Number
negative_of other z = cond (z.value == 0) (record { value = pos 0; next = other }) (record { value = neg_ℤ (pos z.value); next = z.next })

unfoldable pub number_at : List ℕ → ℕ → Number
number_at s at = cond (slice_index s at == 45) (negative_of (lost s) (magnitude_at s (at + 1))) (positive_of (magnitude_at s at))

abbrev pub cap_at : ℕ
cap_at = 2 ^ 40

abbrev pub cap_magnitude : ℕ → ℕ
cap_magnitude v = min v cap_at

unfoldable pub cap : ℤ → ℤ
cap (pos n) = pos (cap_magnitude n)
cap (negsuc n) = neg_ℤ (pos (cap_magnitude (suc n)))
