-- Each end is the only one.
--   same_whole — doubles of one whole number that is not 0 are one
--   low_unique, high_unique — LowEnd and HighEnd fix the double
--   ends_meet  — both ends of a number of units that some double is are that double, plus zero for minus zero
use mathlib.Core.Path.{◌≡◌, refl, sym, ap, ◌∙◌, subst}
use mathlib.Core.Bool.{Bool, true, false}
use Prim.Native.Nat.{ℕ, ◌+◌, ◌^◌, ◌≤◌}
use native.Mathlib.Decide.{ℕ_discrete}
use native.Mathlib.Nat.{le_of_eq}
use native.Mathlib.Omega.{arith}
use lib.IntN.{ℤ, pos, nat_abs}
use lib.Signed.{◌≤ℤ◌}
use lib.Ieee.{Float}
use lib.Ieee.Exact.{HasValue}
use Rattle.integer.proofs.Absolute.{abs_zero}
use Rattle.doubles_guess.specs.Units.{signed_by, whole, Double, plus_zero}
use Rattle.doubles_guess.proofs.Exact.{whole_exact, same_value}
use Rattle.doubles_interval.specs.Ends.{LowEnd, HighEnd}
use Rattle.integer.proofs.Order.{pos_neg, le_eq, le_both}

pub same_whole : (x y : Float) → Double x → Double y → whole x ≡ whole y → (whole x ≡ pos 0 → ⊥) → x ≡ y
same_whole x y dx dy e some' =
    let a = whole_exact x dx in
    let b = whole_exact y dy in
    let n = nat_abs (whole x) in
    same_value x y a.0 n dx.held dy.held a.1
    (subst (λ (s : Bool). HasValue y s n (2 ^ 1074)) (one_sign b.0 a.0 n (ap (λ (z : ℤ). signed_by b.0 (nat_abs z)) e ∙ sym b.2 ∙ sym e ∙ a.2) (λ z. some' (abs_zero (whole x) (le_of_eq z))))
    (subst (λ (m : ℕ). HasValue y b.0 m (2 ^ 1074)) (ap nat_abs (sym e)) b.1))
  where
    twice : (n : ℕ) → n + n ≤ 0 → n ≡ 0
    twice n h = omega arith

    one_sign : (s t : Bool) (n : ℕ) → signed_by s n ≡ signed_by t n → (n ≡ 0 → ⊥) → s ≡ t
    one_sign true true n e h = refl
    one_sign false false n e h = refl
    one_sign true false n e h = absurd (h (twice n (pos_neg n n (le_eq (sym e)))))
    one_sign false true n e h = absurd (h (twice n (pos_neg n n (le_eq e))))

-- of one whole number, and plus zero where that is 0
one_end : (r r' : Float) → Double r → Double r' → whole r ≡ whole r' → (whole r ≡ pos 0 → r ≡ plus_zero) → (whole r' ≡ pos 0 → r' ≡ plus_zero) → r ≡ r'
one_end r r' d d' e p p' = go (ℕ_discrete (nat_abs (whole r)) 0)
  where
    go : Dec (nat_abs (whole r) ≡ 0) → r ≡ r'
    go (yes n) = let w : whole r ≡ pos 0 = abs_zero (whole r) (le_of_eq n) in p w ∙ sym (p' (sym e ∙ w))
    go (no n) = same_whole r r' d d' e (λ w. n (ap nat_abs w))

pub low_unique : (r r' : Float) (z : ℤ) → LowEnd r z → LowEnd r' z → r ≡ r'
low_unique r r' z a b =
    one_end r r' a.double b.double (le_both (b.most r a.double a.under) (a.most r' b.double b.under)) a.plus b.plus

pub high_unique : (r r' : Float) (z : ℤ) → HighEnd r z → HighEnd r' z → r ≡ r'
high_unique r r' z a b =
    one_end r r' a.double b.double (le_both (a.least r' b.double b.over) (b.least r a.double a.over)) a.plus b.plus

-- where both ends stand for one number of units that some double is, they are that double
pub ends_meet : (r r' : Float) (z : ℤ) → LowEnd r z → HighEnd r' z → (y : Float) → Double y → whole y ≡ z → (whole r ≡ z) × (r ≡ r')
ends_meet r r' z a b y d e =
    let l : whole r ≡ z = le_both a.under (subst (λ (w : ℤ). w ≤ℤ whole r) e (a.most y d (le_eq e))) in
    let h : whole r' ≡ z = le_both (subst (λ (w : ℤ). whole r' ≤ℤ w) e (b.least y d (le_eq (sym e)))) b.over in
    (l, one_end r r' a.double b.double (l ∙ sym h) a.plus b.plus)
