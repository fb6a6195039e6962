-- Laws of rounded quotients (specs/Quotient).
--   ceil_covers, ceil_least — ceil_div a b is the least E with a ≤ E · b
--   ceil_sum   — ceil_div of a sum, from the quotient and the remainder of one part;  ceil_sum_fits — it fits, though the sum may not
--   round_near — round_div x d is within half of x / d;  round_half — at a half it lies farther from 0
--   round_magnitude — d · round_div x d is at most half of d above x in absolute value
--   quot_neg, abs_quot — the machine's quotient toward zero, of a negative number and in absolute value
--   round_down, round_up — that quotient of 2x − d, and of 2x + d, by 2d is round_div x d, by the sign of x
use mathlib.Core.Path.{◌≡◌, refl, sym, ap, ◌∙◌, subst}
use mathlib.Core.Bool.{true, false}
use Prim.Native.Nat.{ℕ, zero, suc, ◌+◌, ◌*◌, ◌-◌, ◌/◌, ◌%◌, ◌<◌, ◌≤◌, ◌^◌}
use native.Mathlib.Omega.{arith}
use native.Mathlib.Nat.{zero-div, div-le_self, div-mul-le_self, div-add-mod', mod-lt, add-mul-div_right, lt_of_mul-lt-mul_right}
use borrow.Author.Tests.{ltb-true}
use lib.Dec.{T}
use lib.IntN.{ℤ, pos, negsuc, neg_ℤ, nat_abs, ◌+ℤ◌, ◌-ℤ◌, ◌*ℤ◌, neg_ℤ-+ℤ}
use lib.Signed.{lt_z, quot_z}
use Rattle.integer.specs.Quotient.{ceil_div, round_div}
use Rattle.integer.proofs.Absolute.{abs_neg, abs_difference}
use Rattle.integer.proofs.Difference.{zz}
use Rattle.integer.proofs.Ring.{*-neg}

pub ceil_covers : (a b : ℕ) → 0 < b → a ≤ ceil_div a b * b
unfolding ceil_div
ceil_covers a b h = omega (arith, div-add-mod' (a + (b - 1)) b, mod-lt (a + (b - 1)) h)

below_next : (q E b : ℕ) → q * b < E * b + b → q ≤ E
below_next q E b l = let h : q < E + 1 = lt_of_mul-lt-mul_right b (omega arith) in omega arith

pub ceil_least : (a b E : ℕ) → 0 < b → a ≤ E * b → ceil_div a b ≤ E
unfolding ceil_div
ceil_least a b E h l = below_next ((a + (b - 1)) / b) E b (omega (arith, div-add-mod' (a + (b - 1)) b))

pub ceil_sum : (a c b : ℕ) → 0 < b → a / b + ceil_div (a % b + c) b ≡ ceil_div (a + c) b
unfolding ceil_div
ceil_sum a c b o =
    let q : a + c + (b - 1) ≡ a % b + c + (b - 1) + a / b * b = omega (arith, div-add-mod' a b) in
    rw (q, add-mul-div_right (a % b + c + (b - 1)) (a / b) o) (omega arith)

pub ceil_sum_fits : (a c b : ℕ) → 0 < b → 2 * c ≤ b → a < 2 ^ 64 → ceil_div (a + c) b < 2 ^ 64
ceil_sum_fits a c b o h l = let m : ceil_div (a + c) b ≤ 2 ^ 64 - 1 = ceil_least (a + c) b (2 ^ 64 - 1) o (omega arith) in omega arith

pub quot_neg : (m b : ℕ) → quot_z (neg_ℤ (pos m)) (pos b) ≡ neg_ℤ (pos (m / b))
quot_neg zero b = ap (λ (n : ℕ). pos n) (zero-div b) ∙ sym (ap (λ (n : ℕ). neg_ℤ (pos n)) (zero-div b))
quot_neg (suc m) b = refl

pub abs_quot : (z : ℤ) (b : ℕ) → nat_abs (quot_z z (pos b)) ≤ nat_abs z
abs_quot (pos a) b = div-le_self a b
abs_quot (negsuc a) b = rw (abs_neg (pos (suc a / b))) (div-le_self (suc a) b)

pub round_down : (x : ℤ) (d : ℕ) → lt_z x (pos 0) ≡ true → quot_z (pos 2 *ℤ x -ℤ pos d) (pos (2 * d)) ≡ round_div x d
unfolding round_div
round_down (pos n) d e = absurd (omega (arith, ltb-true n 0 e))
round_down (negsuc a) d e = rw (← (neg_ℤ-+ℤ (pos (2 * suc a)) (pos d))) (quot_neg (2 * suc a + d) (2 * d))

pub round_up : (x : ℤ) (d : ℕ) → lt_z x (pos 0) ≡ false → quot_z (pos 2 *ℤ x +ℤ pos d) (pos (2 * d)) ≡ round_div x d
unfolding round_div
round_up (pos n) d e = refl
round_up (negsuc n) d e = absurd (subst T e tt)

pub round_magnitude : (x : ℤ) (d : ℕ) → 2 * (d * nat_abs (round_div x d)) ≤ 2 * nat_abs x + d
unfolding round_div
round_magnitude (pos a) d = omega (arith, div-mul-le_self (2 * a + d) (2 * d))
round_magnitude (negsuc a) d = rw (abs_neg (pos ((2 * suc a + d) / (2 * d)))) (omega (arith, div-mul-le_self (2 * suc a + d) (2 * d)))

-- half a divisor at most, on either side, and at a half above
near_half : (a d : ℕ) → 0 < d → ((2 * (a - d * ((2 * a + d) / (2 * d))) < d) × (2 * (d * ((2 * a + d) / (2 * d)) - a) ≤ d))
near_half a d h =
    let q : ℕ = (2 * a + d) / (2 * d) in
    let e : q * (2 * d) + (2 * a + d) % (2 * d) ≡ 2 * a + d = div-add-mod' (2 * a + d) (2 * d) in
    let l : (2 * a + d) % (2 * d) < 2 * d = mod-lt (2 * a + d) (omega arith) in
    (omega arith, omega arith)

-- the distance of two negations
apart_neg : (a b : ℕ) → nat_abs (neg_ℤ (pos a) -ℤ neg_ℤ (pos b)) ≡ (a - b) + (b - a)
apart_neg a b = simp zz (omega arith)

pub round_near : (x : ℤ) (d : ℕ) → 0 < d → 2 * nat_abs (x -ℤ pos d *ℤ round_div x d) ≤ d
unfolding round_div
round_near (pos a) d h = rw (abs_difference a (d * ((2 * a + d) / (2 * d)))) (omega (arith, near_half a d h))
round_near (negsuc a) d h =
    rw (*-neg (pos d) (pos ((2 * suc a + d) / (2 * d))), apart_neg (suc a) (d * ((2 * suc a + d) / (2 * d)))) (omega (arith, near_half (suc a) d h))

pub round_half : (x : ℤ) (d : ℕ) → 0 < d → 2 * nat_abs (x -ℤ pos d *ℤ round_div x d) ≡ d → nat_abs x < d * nat_abs (round_div x d)
unfolding round_div
round_half (pos a) d h e = omega (arith, near_half a d h, abs_difference a (d * ((2 * a + d) / (2 * d))))
round_half (negsuc a) d h e =
    rw (abs_neg (pos ((2 * suc a + d) / (2 * d))))
    (omega (arith, near_half (suc a) d h, apart_neg (suc a) (d * ((2 * suc a + d) / (2 * d))), rw (*-neg (pos d) (pos ((2 * suc a + d) / (2 * d)))) at e))
