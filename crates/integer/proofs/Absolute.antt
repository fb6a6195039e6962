-- Laws of the absolute value, nat_abs : ℤ → ℕ. Every order of this project is stated through it, in ℕ.
--   abs-+, abs_sub, abs-*, abs_neg — of a sum, a difference (at most the sum of the magnitudes), a product, a negation
--   abs_zero — only 0 has magnitude 0;  free — r·z = 0 with r ≥ 1 gives z = 0
--   abs_difference — |a − b| as a sum of differences in ℕ
--   below_zero, not_below_zero — a number below 0 is minus its magnitude, any other is its magnitude
use mathlib.Core.Path.{◌≡◌, refl, ap, subst}
use mathlib.Core.Bool.{true, false}
use Prim.Native.Nat.{ℕ, zero, suc, ◌+◌, ◌*◌, ◌-◌, ◌≤◌}
use native.Mathlib.Omega.{arith}
use native.Mathlib.Nat.{le_of_mul-le-mul_left}
use borrow.Author.Tests.{ltb-true}
use lib.Dec.{T}
use lib.IntN.{ℤ, pos, negsuc, neg_ℤ, nat_abs, ◌+ℤ◌, ◌-ℤ◌, ◌*ℤ◌}
use lib.Signed.{lt_z}
use Rattle.integer.proofs.Difference.{is, zz}

pub abs-+ : (a b : ℤ) → nat_abs (a +ℤ b) ≤ nat_abs a + nat_abs b
abs-+ a b = rw (is a, is b) (simp zz (omega arith))

pub abs_neg : (a : ℤ) → nat_abs (neg_ℤ a) ≡ nat_abs a
abs_neg (pos zero) = refl
abs_neg (pos (suc a)) = refl
abs_neg (negsuc a) = refl

pub abs_sub : (a b : ℤ) → nat_abs (a -ℤ b) ≤ nat_abs a + nat_abs b
abs_sub a b = omega (arith, abs-+ a (neg_ℤ b), abs_neg b)

pub abs-* : (a b : ℤ) → nat_abs (a *ℤ b) ≡ nat_abs a * nat_abs b
abs-* (pos a) (pos b) = refl
abs-* (pos a) (negsuc b) = abs_neg (pos (a * suc b))
abs-* (negsuc a) (pos b) = abs_neg (pos (suc a * b))
abs-* (negsuc a) (negsuc b) = refl

pub abs_zero : (x : ℤ) → nat_abs x ≤ 0 → x ≡ pos 0
abs_zero x h = rw (is x) (simp zz (omega (arith, simp zz at (rw (is x) at h))))

pub free : (r : ℕ) (z : ℤ) → 1 ≤ r → pos r *ℤ z ≡ pos 0 → z ≡ pos 0
free r z o e =
    let f : nat_abs (pos r *ℤ z) ≡ 0 = ap nat_abs e in
    abs_zero z (le_of_mul-le-mul_left (omega (arith, f, abs-* (pos r) z)) o)

pub abs_difference : (a b : ℕ) → nat_abs (pos a -ℤ pos b) ≡ (a - b) + (b - a)
abs_difference a b = simp zz (omega arith)

pub below_zero : (x : ℤ) → lt_z x (pos 0) ≡ true → pos 0 -ℤ x ≡ pos (nat_abs x)
below_zero (pos n) e = absurd (omega (arith, ltb-true n 0 e))
below_zero (negsuc n) e = ap pos (omega arith)

pub not_below_zero : (x : ℤ) → lt_z x (pos 0) ≡ false → x ≡ pos (nat_abs x)
not_below_zero (pos n) e = refl
not_below_zero (negsuc n) e = absurd (subst T e tt)
