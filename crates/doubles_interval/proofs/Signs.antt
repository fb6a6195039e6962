-- The ends of z steps, by the sign of z.
--   end_zero — either end where z is 0
--   end_away, end_toward — an end as the code makes it where z is not 0: away from zero, or toward it
use mathlib.Core.Path.{◌≡◌, refl, sym, ap, ◌∙◌, subst}
use mathlib.Core.Bool.{Bool, true, false, beq, cond}
use Prim.Native.Nat.{ℕ, suc, zero, ◌-◌, ◌*◌, ◌^◌, ◌<◌}
use native.Mathlib.Nat.{mul_comm, mul-pos}
use native.Mathlib.Omega.{arith}
use borrow.Author.Tests.{ltb-true}
use lib.Dec.{T}
use lib.IntN.{ℤ, pos, negsuc, neg_ℤ, nat_abs, pos-*ℤ-pos}
use lib.Pow.{pow_pos}
use lib.Signed.{lt_z}
use lib.Ieee.{units, size}
use Rattle.integer.proofs.Absolute.{abs_zero}
use Rattle.integer.proofs.Ring.{*-zero, *-neg}
use Rattle.integer.specs.Quotient.{ceil_div}
use Rattle.doubles_guess.specs.Units.{plus_zero}
use Rattle.doubles_interval.specs.Ends.{dropped, toward, away, below, above}
use Rattle.doubles_interval.specs.Interval.{units_of}

zero_below : plus_zero ≡ below (pos 0)
unfolding below toward dropped units size
zero_below = refl

zero_above : plus_zero ≡ above (pos 0)
unfolding above away dropped units ceil_div size
zero_above = refl

negative : (n : ℕ) → 0 < n → (below (neg_ℤ (pos n)) ≡ away true n) × (above (neg_ℤ (pos n)) ≡ toward true n)
unfolding below above
negative zero h = absurd (omega arith)
negative (suc n) h = (refl, refl)

positive : (n : ℕ) → (below (pos n) ≡ toward false n) × (above (pos n) ≡ away false n)
unfolding below above
positive n = (refl, refl)

module _ (s : ℕ) (z : ℤ) where
  abbrev P : ℕ
  P = 2 ^ (1074 - s)

  nothing : nat_abs z ≡ 0 → units_of s z ≡ pos 0
  nothing e = let l : z ≡ pos 0 = abs_zero z (omega arith) in rw l (*-zero (pos P))

  pub end_zero : (low : Bool) → nat_abs z ≡ 0 → plus_zero ≡ cond low (below (units_of s z)) (above (units_of s z))
  end_zero true e = zero_below ∙ sym (ap below (nothing e))
  end_zero false e = zero_above ∙ sym (ap above (nothing e))

  down : lt_z z (pos 0) ≡ true → units_of s z ≡ neg_ℤ (pos (nat_abs z * P))
  down h = go z h
    where
      go : (y : ℤ) → lt_z y (pos 0) ≡ true → units_of s y ≡ neg_ℤ (pos (nat_abs y * P))
      go (pos n) e = absurd (omega (arith, ltb-true n 0 e))
      go (negsuc n) e = *-neg (pos P) (pos (suc n)) ∙ ap neg_ℤ (pos-*ℤ-pos P (suc n) ∙ ap pos (mul_comm P (suc n)))

  up : lt_z z (pos 0) ≡ false → units_of s z ≡ pos (nat_abs z * P)
  up h = go z h
    where
      go : (y : ℤ) → lt_z y (pos 0) ≡ false → units_of s y ≡ pos (nat_abs y * P)
      go (pos n) e = pos-*ℤ-pos P n ∙ ap pos (mul_comm P n)
      go (negsuc n) e = absurd (subst T e tt)

  module _ (a : ℕ) (is : a ≡ nat_abs z) (some : 0 < a) where
    above_nothing : 0 < nat_abs z * P
    above_nothing = mul-pos (subst (λ (n : ℕ). 0 < n) is some) (pow_pos (1074 - s))

    below_negative : lt_z z (pos 0) ≡ true → away true (a * P) ≡ below (units_of s z)
    below_negative h = ap (λ (n : ℕ). away true (n * P)) is ∙ sym (ap below (down h) ∙ (negative (nat_abs z * P) above_nothing).0)

    above_negative : lt_z z (pos 0) ≡ true → toward true (a * P) ≡ above (units_of s z)
    above_negative h = ap (λ (n : ℕ). toward true (n * P)) is ∙ sym (ap above (down h) ∙ (negative (nat_abs z * P) above_nothing).1)

    below_positive : lt_z z (pos 0) ≡ false → toward false (a * P) ≡ below (units_of s z)
    below_positive h = ap (λ (n : ℕ). toward false (n * P)) is ∙ sym (ap below (up h) ∙ (positive (nat_abs z * P)).0)

    above_positive : lt_z z (pos 0) ≡ false → away false (a * P) ≡ above (units_of s z)
    above_positive h = ap (λ (n : ℕ). away false (n * P)) is ∙ sym (ap above (up h) ∙ (positive (nat_abs z * P)).1)

    pub end_away : (b low : Bool) → lt_z z (pos 0) ≡ b → beq b low ≡ true → away b (a * P) ≡ cond low (below (units_of s z)) (above (units_of s z))
    end_away true true h e = below_negative h
    end_away true false h e = absurd (subst T (sym e) tt)
    end_away false true h e = absurd (subst T (sym e) tt)
    end_away false false h e = above_positive h

    pub end_toward : (b low : Bool) → lt_z z (pos 0) ≡ b → beq b low ≡ false → toward b (a * P) ≡ cond low (below (units_of s z)) (above (units_of s z))
    end_toward true true h e = absurd (subst T e tt)
    end_toward true false h e = above_negative h
    end_toward false true h e = below_positive h
    end_toward false false h e = absurd (subst T e tt)
