-- a steps shifted up to 64 digits, beside the a · 2^(1074 − s) units that they are.
--   full — what the count of leading zeros gives
--   toward_is — cut to 53 digits;  away_exact, away_next, away_carry — and one up where something was cut off
use mathlib.Core.Path.{◌≡◌, sym, ap, ◌∙◌}
use mathlib.Core.Bool.{Bool}
use Prim.Native.Nat.{ℕ, suc, ◌+◌, ◌-◌, ◌*◌, ◌/◌, ◌%◌, ◌^◌, ◌≤◌, ◌<◌}
use native.Mathlib.Nat.{le_trans, le_of_eq, le_antisymm, lt_of_lt_of_le, lt_of_le_of_lt, lt_of_mul-lt-mul_right, le_refl, le_of_mul-le-mul_right, mul-le-mul_right, mul-lt-mul_of_pos_right, mul_assoc, mod-eq_of_lt}
use native.Mathlib.Omega.{arith}
use lib.Pow.{pow_pos, pow_mono, pow-add, shl_lt}
use lib.Count.{count_leading_zeros, leading_top}
use lib.Ieee.{binary64, size, units}
use lib.Ieee.Digits.{size-lt, size-le}
use lib.Ieee.Nearest.{div_same}
use Rattle.integer.specs.Quotient.{ceil_div}
use Rattle.integer.proofs.Rounding.{ceil_covers, ceil_least}
use Rattle.doubles_interval.specs.Full.{Full}
use Rattle.doubles_interval.specs.Ends.{dropped, toward, away}
use Rattle.doubles_interval.proofs.Values.{units_same}

pub full : (a : ℕ) → 0 < a → a < 2 ^ 64 → Full a (a * 2 ^ count_leading_zeros 64 a % 2 ^ 64) (count_leading_zeros 64 a)
full a p h =
    let z = count_leading_zeros 64 a in
    let t = leading_top 64 a p h in
    let j = t.0 in
    let some : z < 64 = omega (arith, t.1) in
    let under : 63 ≡ j + z = omega (arith, t.1) in
    let over : suc j + z ≡ 64 = omega (arith, t.1) in
    let lo : 2 ^ 63 ≤ a * 2 ^ z = le_trans (le_of_eq (ap (λ (x : ℕ). 2 ^ x) under ∙ pow-add 2 j z)) (mul-le-mul_right (2 ^ z) t.2) in
    let hi : a * 2 ^ z < 2 ^ 64 = lt_of_lt_of_le (shl_lt (suc j) z t.3) (le_of_eq (ap (λ (x : ℕ). 2 ^ x) over)) in
    let e : a * 2 ^ z % 2 ^ 64 ≡ a * 2 ^ z = mod-eq_of_lt hi in
    record { zeros = some; least = rw e lo; most = rw e hi; same = e }

-- how many digits are past the 53rd
dropped_is : (n k : ℕ) → 2 ^ (52 + k) ≤ n → n < 2 ^ (53 + k) → dropped n ≡ k
unfolding dropped
dropped_is n k lo hi =
    let a : size n ≤ 53 + k = size-le n (53 + k) hi in
    let b : 52 + k < size n = more (size n) (52 + k) (λ h. clash (size-lt n) (pow_mono h) lo) in
    omega arith
  where
    more : (i j : ℕ) → (i ≤ j → ⊥) → j < i
    more i j h = omega arith

    clash : {i j m : ℕ} → i < j → j ≤ m → m ≤ i → ⊥
    clash {i} {j} {m} a b c = omega arith

module _ (neg : Bool) (a s f z : ℕ) (S : s ≤ 20) (F : Full a f z) where
  abbrev k : ℕ
  k = 1085 - s - z

  abbrev P : ℕ
  P = 2 ^ (1074 - s - z)

  abbrev N : ℕ
  N = a * 2 ^ (1074 - s)

  target : N ≡ f * P
  target =
      let Z : z < 64 = F.zeros in
      let e : 1074 - s ≡ z + (1074 - s - z) = omega arith in
      ap (λ (x : ℕ). a * 2 ^ x) e ∙ ap (λ (x : ℕ). a * x) (pow-add 2 z (1074 - s - z)) ∙ sym (mul_assoc a (2 ^ z) P) ∙ ap (λ (x : ℕ). x * P) (sym F.same)

  unit : (d j : ℕ) → d + (1074 - s - z) ≡ j → 2 ^ d * P ≡ 2 ^ j
  unit d j e = sym (pow-add 2 d (1074 - s - z)) ∙ ap (λ (x : ℕ). 2 ^ x) e

  shift : 2048 * P ≡ 2 ^ k
  shift = let Z : z < 64 = F.zeros in unit 11 k (omega arith)

  drops : dropped N ≡ k
  drops =
      let Z : z < 64 = F.zeros in
      dropped_is N k
      (le_trans (le_of_eq (sym (unit 63 (52 + k) (omega arith)))) (le_trans (mul-le-mul_right P F.least) (le_of_eq (sym target))))
      (lt_of_le_of_lt (le_of_eq target) (lt_of_lt_of_le (mul-lt-mul_of_pos_right F.most (pow_pos (1074 - s - z))) (le_of_eq (unit 64 (53 + k) (omega arith)))))

  keeps : N / 2 ^ k ≡ f / 2048
  keeps =
      ap (λ (x : ℕ). x / 2 ^ k) target ∙ ap (λ (x : ℕ). f * P / x) (sym shift)
      ∙ div_same (f * P) (2048 * P) f 2048 (times (pow_pos (1074 - s - z))) (omega arith) (cross f P)
    where
      times : {p : ℕ} → 0 < p → 0 < 2048 * p
      times {p} h = omega arith

      cross : (f p : ℕ) → f * p * 2048 ≡ f * (2048 * p)
      cross f p = omega arith

  pub toward_is : toward neg N ≡ units binary64 neg (f / 2048) k
  unfolding toward
  toward_is = rw drops (ap (λ (q : ℕ). units binary64 neg q k) keeps)

  -- ---- and up
  step : (i : ℕ) → i * 2 ^ k ≡ i * 2048 * P
  step i = ap (λ (x : ℕ). i * x) (sym shift) ∙ sym (mul_assoc i 2048 P)

  away_as : (c : ℕ) → ceil_div N (2 ^ k) ≡ c → away neg N ≡ units binary64 neg c k
  unfolding away
  away_as c e = rw drops (ap (λ (q : ℕ). units binary64 neg q k) e)

  pub away_exact : f % 2048 ≡ 0 → away neg N ≡ units binary64 neg (f / 2048) k
  away_exact e =
      let same : f / 2048 * 2048 ≡ f = omega arith in
      let is : N ≡ f / 2048 * 2 ^ k = target ∙ ap (λ (x : ℕ). x * P) (sym same) ∙ sym (step (f / 2048)) in
      away_as (f / 2048) (rw is (back (f / 2048)))
    where
      back : (i : ℕ) → ceil_div (i * 2 ^ k) (2 ^ k) ≡ i
      back i =
          le_antisymm (ceil_least (i * 2 ^ k) (2 ^ k) i (pow_pos k) (le_refl (i * 2 ^ k)))
          (le_of_mul-le-mul_right (ceil_covers (i * 2 ^ k) (2 ^ k) (pow_pos k)) (pow_pos k))

  pub away_next : (f % 2048 ≡ 0 → ⊥) → away neg N ≡ units binary64 neg (f / 2048 + 1) k
  away_next e =
      let less : f / 2048 * 2048 < f = omega arith in
      let more : f ≤ (f / 2048 + 1) * 2048 = omega arith in
      let under : f / 2048 * 2 ^ k < N = lt_of_le_of_lt (le_of_eq (step (f / 2048))) (lt_of_lt_of_le (mul-lt-mul_of_pos_right less (pow_pos (1074 - s - z))) (le_of_eq (sym target))) in
      let over : N ≤ (f / 2048 + 1) * 2 ^ k = le_trans (le_of_eq target) (le_trans (mul-le-mul_right P more) (le_of_eq (sym (step (f / 2048 + 1))))) in
      away_as (f / 2048 + 1)
      (le_antisymm (ceil_least N (2 ^ k) (f / 2048 + 1) (pow_pos k) over) (lift (lt_of_mul-lt-mul_right (2 ^ k) (lt_of_lt_of_le under (ceil_covers N (2 ^ k) (pow_pos k))))))
    where
      lift : {i c : ℕ} → i < c → i + 1 ≤ c
      lift {i} {c} h = omega arith

  pub away_carry : (f % 2048 ≡ 0 → ⊥) → f / 2048 ≡ 9007199254740991 → away neg N ≡ units binary64 neg 4503599627370496 (k + 1)
  away_carry e all =
      away_next e ∙ ap (λ (q : ℕ). units binary64 neg (q + 1) k) all
      ∙ units_same neg 9007199254740992 k 4503599627370496 (k + 1) (omega arith) (omega arith)
      (lt_of_lt_of_le (shl_lt 53 (k + 1) (omega arith)) (pow_mono {i = 53 + (k + 1)} {j = 2098} (omega arith))) (carry (2 ^ k) ∙ ap (λ (x : ℕ). 4503599627370496 * x) (sym (pow-add 2 k 1)))
    where
      carry : (p : ℕ) → 9007199254740992 * p ≡ 4503599627370496 * (p * 2 ^ 1)
      carry p = omega arith
