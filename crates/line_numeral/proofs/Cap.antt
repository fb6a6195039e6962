-- The cap of numbers at ±2^40 does not show: capped and exact are in and out of every range alike.
--   cap_between — between two numbers below 2^40 in absolute value
--   cap_range   — of every kind, by the one rule over the table of ranges
--   cap_small, cap_in — a number that is at most 2^40 in absolute value, or in a range, is not capped
use Rattle.std.proofs.Common.{◌≡◌, ℕ, suc, ◌-◌, ◌<◌, ◌≤◌, min, Bool, true, false, ◌&&◌, leb, ℤ, pos, negsuc, neg_ℤ, nat_abs, refl, ap, ◌∙◌, arith, leb-false, leb-true}
use lib.Signed.{le_z}
use Rattle.line_numeral.specs.Numeral.{cap, cap_at, cap_magnitude}
use Rattle.rules.specs.Range.{range_of, in_range}
use Rattle.rules.specs.declared.Kind.{Kind}
use Rattle.rules.proofs.Ranges.{range_magnitude}
use Rattle.rules.proofs.Table.{range_good}

leb_alike : (a b c d : ℕ) → (a ≤ b → c ≤ d) → (c ≤ d → a ≤ b) → leb a b ≡ leb c d
leb_alike a b c d f g = go (leb a b) refl (leb c d) refl
  where
    go : (t : Bool) → leb a b ≡ t → (u : Bool) → leb c d ≡ u → t ≡ u
    go true p true q = refl
    go true p false q = absurd (omega (arith, f (leb-true a b p), leb-false c d q))
    go false p true q = absurd (omega (arith, g (leb-true c d q), leb-false a b p))
    go false p false q = refl

cap_negsuc : (n : ℕ) → cap (negsuc n) ≡ negsuc (min n (cap_at - 1))
unfolding cap
cap_negsuc n = ap (λ (m : ℕ). neg_ℤ (pos m)) (let e : cap_magnitude (suc n) ≡ suc (min n (cap_at - 1)) = omega arith in e)

low : (a z : ℤ) → nat_abs a < cap_at → le_z a (cap z) ≡ le_z a z
low (pos a) (pos z) h = unfold cap in leb_alike a (cap_magnitude z) a z (λ l. omega arith) (λ l. omega arith)
low (negsuc a) (pos z) h = unfold cap in refl
low (pos a) (negsuc z) h = rw (cap_negsuc z)
low (negsuc a) (negsuc z) h = rw (cap_negsuc z) (leb_alike (min z (cap_at - 1)) a z a (λ l. omega arith) (λ l. omega arith))

high : (z b : ℤ) → nat_abs b < cap_at → le_z (cap z) b ≡ le_z z b
high (pos z) (pos b) h = unfold cap in leb_alike (cap_magnitude z) b z b (λ l. omega arith) (λ l. omega arith)
high (pos z) (negsuc b) h = unfold cap in refl
high (negsuc z) (pos b) h = rw (cap_negsuc z)
high (negsuc z) (negsuc b) h = rw (cap_negsuc z) (leb_alike b (min z (cap_at - 1)) b z (λ l. omega arith) (λ l. omega arith))

pub cap_between : (a b z : ℤ) → nat_abs a < cap_at → nat_abs b < cap_at → le_z a (cap z) && le_z (cap z) b ≡ le_z a z && le_z z b
cap_between a b z p q = rw (low a z p, high z b q)

pub cap_range : (k : Kind) (z : ℤ) → in_range k (cap z) ≡ in_range k z
unfolding in_range
cap_range k z =
    cap_between (range_of k).lowest (range_of k).highest z (omega (arith, (range_good k).low_magnitude)) (omega (arith, (range_good k).high_magnitude))

pub cap_small : (z : ℤ) → nat_abs z ≤ cap_at → cap z ≡ z
cap_small (pos z) h = unfold cap in ap pos (omega arith)
cap_small (negsuc z) h = cap_negsuc z ∙ ap negsuc (omega arith)

pub cap_in : (k : Kind) (z : ℤ) → in_range k z ≡ true → cap z ≡ z
cap_in k z e = cap_small z (omega (arith, range_magnitude k z e, (range_good k).low_magnitude, (range_good k).high_magnitude))
