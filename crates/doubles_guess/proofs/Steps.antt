-- A double's exact value in steps.
--   magnitude_down — q · 2^k units in steps, by a shift;  magnitude_none, magnitude_far — where nothing is left of it, and where it is above 2^36
--   guess_signed — the guess that ±q · 2^k units give is that magnitude with its sign;  guess_in — and its range is that of the magnitude
--   guess_nearest — 2·|S·x − X| ≤ 1, exactly, and at a half X lies farther from zero
--   guess_whole  — a whole number of steps gives just that number;  guess_zero, guess_tiny — either zero gives 0, and so does every subnormal
use mathlib.Core.Path.{◌≡◌, refl, sym, ap, ◌∙◌, subst}
use mathlib.Core.Bool.{Bool, true, false, ◌&&◌}
use Prim.Native.Nat.{ℕ, zero, suc, ◌+◌, ◌*◌, ◌/◌, ◌^◌, ◌≤◌, ◌<◌}
use native.Mathlib.Nat.{le_trans, le_of_eq, lt_of_lt_of_le, mul_assoc, mul_comm, mul-le-mul_right, mul-le-mul_left, le-div_iff_mul-le, div-eq_of_lt, add-div_right}
use native.Mathlib.Omega.{arith}
use borrow.Author.Tests.{leb-true, leb-false, le-leb, lt-leb}
use lib.Dec.{leb}
use lib.IntN.{ℤ, pos, negsuc, neg_ℤ, nat_abs, ◌-ℤ◌, ◌*ℤ◌, pos-*ℤ-pos}
use lib.Pow.{pow_pos, pow_mono, pow-add, shl_lt, shr-shr}
use lib.Ieee.{Float}
use lib.Ieee.Exact.{HasValue}
use lib.Ieee.Nearest.{div_same}
use Rattle.integer.specs.Quotient.{round_div}
use Rattle.integer.proofs.Ring.{ring, by_zero, neg-*, zero-*, *-zero}
use Rattle.integer.proofs.Absolute.{abs-*, abs_zero}
use Rattle.integer.proofs.Rounding.{round_near, round_half}
use Rattle.rules.specs.Range.{in_range, range_of, ranges}
use Rattle.rules.specs.declared.Kind.TheVariants as kind
use Rattle.doubles_guess.specs.Units.{signed_by, whole}
use Rattle.doubles_guess.specs.Guess.{guess_for, magnitude_for, Nearest}
use Rattle.doubles_guess.proofs.Exact.{value_whole}

-- ---- magnitudes
halve : (q P : ℕ) → (2 * q + P * 2) * (P * 2) ≡ (q + P) * (2 * (P * 2))
halve q P = omega arith

-- equal fractions have the same nearest whole number
same_half : (a c b d : ℕ) → 0 < c → 0 < d → a * d ≡ b * c → (2 * a + c) / (2 * c) ≡ (2 * b + d) / (2 * d)
same_half a c b d C D e = div_same (2 * a + c) (2 * c) (2 * b + d) (2 * d) (omega arith) (omega arith) (omega arith)

module _ (q k s : ℕ) where
  joined : q * 2 ^ k * 2 ^ s ≡ q * 2 ^ (k + s)
  joined = mul_assoc q (2 ^ k) (2 ^ s) ∙ ap (λ (x : ℕ). q * x) (sym (pow-add 2 k s))

  pub magnitude_down : (d : ℕ) → k + s + d ≡ 1073 → magnitude_for q k s ≡ (q / 2 ^ d + 1) / 2
  unfolding magnitude_for
  magnitude_down d sum =
      let P = 2 ^ d in
      let p : 0 < P = pow_pos d in
      let e : 1074 ≡ d + 1 + (k + s) = omega arith in
      let parts : 2 ^ 1074 ≡ P * 2 * 2 ^ (k + s) = ap (λ (x : ℕ). 2 ^ x) e ∙ pow-add 2 (d + 1) (k + s) ∙ ap (λ (x : ℕ). x * 2 ^ (k + s)) (pow-add 2 d 1) in
      same_half (q * 2 ^ k * 2 ^ s) (2 ^ 1074) q (P * 2) (pow_pos 1074) (omega arith)
      (ap (λ (x : ℕ). x * (P * 2)) joined ∙ mul_assoc q (2 ^ (k + s)) (P * 2) ∙ ap (λ (x : ℕ). q * x) (mul_comm (2 ^ (k + s)) (P * 2) ∙ sym parts))
      ∙ div_same (2 * q + P * 2) (2 * (P * 2)) (q + P) (P * 2) (omega arith) (omega arith) (halve q P)
      ∙ sym (shr-shr (q + P) d 1 ∙ ap (λ (x : ℕ). (q + P) / x) (pow-add 2 d 1))
      ∙ ap (λ (x : ℕ). x / 2) (add-div_right q p)

  pub magnitude_none : (d : ℕ) → k + s + d ≡ 1073 → q < 2 ^ 53 → 53 ≤ d → magnitude_for q k s ≡ 0
  magnitude_none d e h far =
      magnitude_down d e ∙ ap (λ (x : ℕ). (x + 1) / 2) (div-eq_of_lt (lt_of_lt_of_le h (pow_mono far)))

  pub magnitude_far : 1074 ≤ k + s → 2 ^ 52 ≤ q → 2 ^ 36 < magnitude_for q k s
  unfolding magnitude_for
  magnitude_far h Q =
      let A = q * 2 ^ k * 2 ^ s in
      let C = 2 ^ 1074 in
      let big : 2 ^ 52 * C ≤ A = le_trans (le_trans (mul-le-mul_right C Q) (mul-le-mul_left q (pow_mono h))) (le_of_eq (sym joined)) in
      let small : 2 ^ 36 < 2 ^ 52 = omega arith in
      lt_of_lt_of_le small ((le-div_iff_mul-le (two_pos C (pow_pos 1074))).1 (enough A C big))
    where
      two_pos : (c : ℕ) → 0 < c → 0 < 2 * c
      two_pos c h = omega arith

      enough : (a c : ℕ) → 2 ^ 52 * c ≤ a → 2 ^ 52 * (2 * c) ≤ 2 * a + c
      enough a c h = omega arith

-- ---- with the sign
round_signed : (s : Bool) (a d : ℕ) → 0 < d → round_div (signed_by s a) d ≡ signed_by s ((2 * a + d) / (2 * d))
unfolding round_div
round_signed false a d h = refl
round_signed true zero d h =
    let z : (2 * 0 + d) / (2 * d) ≡ 0 = div-eq_of_lt (omega arith) in ap pos z ∙ sym (ap (λ (n : ℕ). neg_ℤ (pos n)) z)
round_signed true (suc a) d h = refl

-- what is below a half goes to 0
round_small : (z : ℤ) (d : ℕ) → 2 * nat_abs z < d → round_div z d ≡ pos 0
unfolding round_div
round_small (pos a) d h = let z : (2 * a + d) / (2 * d) ≡ 0 = div-eq_of_lt (omega arith) in ap pos z
round_small (negsuc a) d h = let z : (2 * suc a + d) / (2 * d) ≡ 0 = div-eq_of_lt (omega arith) in ap (λ (n : ℕ). neg_ℤ (pos n)) z

signed_scaled : (s : Bool) (a p : ℕ) → signed_by s a *ℤ pos p ≡ signed_by s (a * p)
signed_scaled false a p = pos-*ℤ-pos a p
signed_scaled true a p = neg-* (pos a) (pos p) ∙ ap neg_ℤ (pos-*ℤ-pos a p)

pub guess_signed : (x : Float) (neg : Bool) (q k s : ℕ) → HasValue x neg (q * 2 ^ k) (2 ^ 1074) → guess_for s x ≡ signed_by neg (magnitude_for q k s)
unfolding guess_for magnitude_for
guess_signed x neg q k s v =
    ap (λ (z : ℤ). round_div (z *ℤ pos (2 ^ s)) (2 ^ 1074)) (value_whole x neg (q * 2 ^ k) v)
    ∙ ap (λ (z : ℤ). round_div z (2 ^ 1074)) (signed_scaled neg (q * 2 ^ k) (2 ^ s))
    ∙ round_signed neg (q * 2 ^ k * 2 ^ s) (2 ^ 1074) (pow_pos 1074)

pub guess_in : (neg : Bool) (n : ℕ) → in_range kind.Guess (signed_by neg n) ≡ leb n (2 ^ 36)
unfolding in_range range_of ranges
guess_in false n = refl
guess_in true zero = refl
guess_in true (suc n) = go (leb n 68719476735) refl
  where
    go : (b : Bool) → leb n 68719476735 ≡ b → b && true ≡ leb (suc n) 68719476736
    go true e = sym (le-leb (suc n) 68719476736 (omega (arith, leb-true n 68719476735 e)))
    go false e = sym (lt-leb (suc n) 68719476736 (omega (arith, leb-false n 68719476735 e)))

-- ---- what 02 says of a guess
module _ (s : ℕ) (x : Float) where
  pub guess_nearest : Nearest s x (guess_for s x)
  unfolding guess_for
  guess_nearest = record {
    near = round_near (whole x *ℤ pos (2 ^ s)) (2 ^ 1074) (pow_pos 1074);
    half = round_half (whole x *ℤ pos (2 ^ s)) (2 ^ 1074) (pow_pos 1074);
  }

  -- a whole number of steps gives just that number
  pub guess_whole : (X : ℤ) → whole x *ℤ pos (2 ^ s) ≡ pos (2 ^ 1074) *ℤ X → guess_for s x ≡ X
  guess_whole X e = nearest_one (2 ^ 1074) (pow_pos 1074) X (guess_for s x) (rw e at guess_nearest.near)
    where
      factor : (d a b : ℤ) → d *ℤ a -ℤ d *ℤ b ≡ d *ℤ (a -ℤ b)
      factor d a b = simp ring

      -- 2·d·m ≤ d only for m = 0
      none : (d m : ℕ) → 0 < d → 2 * (d * m) ≤ d → m ≤ 0
      none d zero p h = omega arith
      none d (suc m) p h = absurd (omega (arith, mul-le-mul_left d (one m)))
        where
          one : (m : ℕ) → 1 ≤ suc m
          one m = omega arith

      same : (a b : ℤ) → a -ℤ b ≡ pos 0 → b ≡ a
      same a b h = sym (by_zero h)

      nearest_one : (d : ℕ) → 0 < d → (a b : ℤ) → 2 * nat_abs (pos d *ℤ a -ℤ pos d *ℤ b) ≤ d → b ≡ a
      nearest_one d p a b h =
          same a b (abs_zero (a -ℤ b) (none d (nat_abs (a -ℤ b)) p (subst (λ (n : ℕ). 2 * n ≤ d) (ap nat_abs (factor (pos d) a b) ∙ abs-* (pos d) (a -ℤ b)) h)))

  -- minus zero gives 0
  pub guess_zero : whole x ≡ pos 0 → guess_for s x ≡ pos 0
  guess_zero e = guess_whole (pos 0) (rw e (zero-* (pos (2 ^ s)) ∙ sym (*-zero (pos (2 ^ 1074)))))

  -- with at most 2^20 steps to one, whatever is below 2^-1022 in absolute value gives 0
  pub guess_tiny : nat_abs (whole x) < 2 ^ 52 → s ≤ 20 → guess_for s x ≡ pos 0
  unfolding guess_for
  guess_tiny h s-max =
      let a : nat_abs (whole x) * 2 ^ s < 2 ^ (52 + s) = shl_lt 52 s h in
      let b : 2 ^ (52 + s) ≤ 2 ^ 72 = pow_mono {i = 52 + s} {j = 72} (omega arith) in
      let c : nat_abs (whole x *ℤ pos (2 ^ s)) ≡ nat_abs (whole x) * 2 ^ s = abs-* (whole x) (pos (2 ^ s)) in
      let d : 2 * nat_abs (whole x *ℤ pos (2 ^ s)) < 2 ^ 73 = omega (arith, a, b, c) in
      round_small (whole x *ℤ pos (2 ^ s)) (2 ^ 1074) (lt_of_lt_of_le d (pow_mono {i = 73} {j = 1074} (omega arith)))
