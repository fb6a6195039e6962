-- n units with the digits cut off that a double has no room for.
--   gap — between q · 2^k and (q + 1) · 2^k, for a q of 53 digits, there is no number of 53 digits and a shift
--   Cut n q c k, cut — q · 2^k ≤ n ≤ c · 2^k, and no such number lies nearer on either side
use mathlib.Core.Path.{◌≡◌, sym, ap, ◌∙◌}
use Prim.Native.Nat.{ℕ, ◌+◌, ◌-◌, ◌*◌, ◌/◌, ◌^◌, ◌≤◌, ◌<◌}
use native.Mathlib.Decide.{dec_le}
use native.Mathlib.Nat.{le_trans, le_of_eq, lt_of_lt_of_le, lt_of_mul-lt-mul_right, mul-le-mul_right, mul_assoc, mul-one, le-div_iff_mul-le, div-add-mod', mod-lt, div-one}
use native.Mathlib.Omega.{arith}
use lib.Pow.{pow_pos, pow_mono, pow-add, shl_lt}
use lib.Ieee.{size}
use lib.Ieee.Digits.{size_reaches}
use lib.Ieee.Fits.{kept-lt}
use Rattle.integer.specs.Quotient.{ceil_div}
use Rattle.integer.proofs.Rounding.{ceil_covers, ceil_least}
use Rattle.doubles_interval.specs.Ends.{dropped}

-- 2 ^ j as a multiple of 2 ^ i
raised : (i j : ℕ) → i ≤ j → 2 ^ j ≡ 2 ^ (j - i) * 2 ^ i
raised i j h = let e : j ≡ j - i + i = omega arith in ap (λ (x : ℕ). 2 ^ x) e ∙ pow-add 2 (j - i) i

module _ (q k q' k' : ℕ) (Q : 2 ^ 52 ≤ q) (Q' : q' < 2 ^ 53) (above : q * 2 ^ k < q' * 2 ^ k') where
  near : k ≤ k' → (q + 1) * 2 ^ k ≤ q' * 2 ^ k'
  near h =
      let e : q' * 2 ^ k' ≡ q' * 2 ^ (k' - k) * 2 ^ k = ap (λ (x : ℕ). q' * x) (raised k k' h) ∙ sym (mul_assoc q' (2 ^ (k' - k)) (2 ^ k)) in
      let more : q < q' * 2 ^ (k' - k) = lt_of_mul-lt-mul_right (2 ^ k) (lt_of_lt_of_le above (le_of_eq e)) in
      le_trans (mul-le-mul_right (2 ^ k) (next more)) (le_of_eq (sym e))
    where
      next : {i j : ℕ} → i < j → i + 1 ≤ j
      next {i} {j} h = omega arith

  far : k' < k → ⊥
  far h =
      let a : q' * 2 ^ k' < 2 ^ (53 + k') = shl_lt 53 k' Q' in
      let b : 2 ^ (53 + k') ≤ 2 ^ (52 + k) = pow_mono (omega arith) in
      let c : 2 ^ (52 + k) ≤ q * 2 ^ k = le_trans (le_of_eq (pow-add 2 52 k)) (mul-le-mul_right (2 ^ k) Q) in
      clash above a b c
    where
      clash : {i j m n : ℕ} → i < j → j < m → m ≤ n → n ≤ i → ⊥
      clash {i} {j} {m} {n} a b c d = omega arith

  pub gap : (q + 1) * 2 ^ k ≤ q' * 2 ^ k'
  gap = go (dec_le k k')
    where
      go : Dec (k ≤ k') → (q + 1) * 2 ^ k ≤ q' * 2 ^ k'
      go (yes h) = near h
      go (no h) = absurd (far (omega arith))

-- ---- what is kept
pub record Cut (n q c k : ℕ) : Type 0 where
  pub low : q * 2 ^ k ≤ n
  pub high : n ≤ c * 2 ^ k
  pub narrow : q ≤ 2 ^ 53
  pub digits_max : c ≤ 2 ^ 53
  pub next : c ≤ q + 1
  pub most : (q' k' : ℕ) → q' < 2 ^ 53 → q' * 2 ^ k' ≤ n → q' * 2 ^ k' ≤ q * 2 ^ k
  pub least : (q' k' : ℕ) → q' < 2 ^ 53 → n ≤ q' * 2 ^ k' → c * 2 ^ k ≤ q' * 2 ^ k'

module _ (n k : ℕ) (small : n / 2 ^ k < 2 ^ 53) where
  abbrev q : ℕ
  q = n / 2 ^ k

  abbrev c : ℕ
  c = ceil_div n (2 ^ k)

  abbrev P : ℕ
  P = 2 ^ k

  low : q * P ≤ n
  low = (le-div_iff_mul-le (pow_pos k)).0 (omega arith)

  high : n < (q + 1) * P
  high = omega (arith, div-add-mod' n P, mod-lt n (pow_pos k))

  next : c ≤ q + 1
  next = ceil_least n P (q + 1) (pow_pos k) (omega (arith, high))

  -- nothing is cut off
  all : n ≤ q * P → Cut n q c k
  all e = record {
    low = low;
    high = ceil_covers n P (pow_pos k);
    narrow = omega arith;
    digits_max = omega (arith, next);
    next = next;
    most = λ q' k' l h. le_trans h e;
    least = λ q' k' l h. le_trans (mul-le-mul_right P (ceil_least n P q (pow_pos k) e)) (le_trans low h);
  }

  -- 53 digits are left
  some : 2 ^ 52 ≤ q → Cut n q c k
  some Q = record {
    low = low;
    high = ceil_covers n P (pow_pos k);
    narrow = omega arith;
    digits_max = omega (arith, next);
    next = next;
    most = λ q' k' l h. by_order (q' * 2 ^ k') (q * P) (λ above. omega (arith, gap q k q' k' Q l above, high));
    least = λ q' k' l h. by_exact (q' * 2 ^ k') h (λ above. gap q k q' k' Q l above);
  }
    where
      by_order : (i j : ℕ) → (j < i → ⊥) → i ≤ j
      by_order i j h = omega arith

      by_exact : (m : ℕ) → n ≤ m → (q * P < m → (q + 1) * P ≤ m) → c * P ≤ m
      by_exact m h g = go (dec_le m (q * P))
        where
          go : Dec (m ≤ q * P) → c * P ≤ m
          go (yes l) = le_trans (mul-le-mul_right P (ceil_least n P q (pow_pos k) (le_trans h l))) (le_trans low h)
          go (no l) = le_trans (mul-le-mul_right P next) (g (omega arith))

pub cut : (n : ℕ) → Cut n (n / 2 ^ dropped n) (ceil_div n (2 ^ dropped n)) (dropped n)
unfolding dropped
cut n = go (dec_le (size n) 53)
  where
    go : Dec (size n ≤ 53) → Cut n (n / 2 ^ (size n - 53)) (ceil_div n (2 ^ (size n - 53))) (size n - 53)
    go (yes h) =
        let z : size n - 53 ≡ 0 = omega arith in
        all n (size n - 53) (kept-lt 53 n) (rw z (le_of_eq (sym (mul-one (n / 1) ∙ div-one n))))
    go (no h) =
        let e : size n - 53 + 52 < size n = omega arith in
        some n (size n - 53) (kept-lt 53 n)
        ((le-div_iff_mul-le (pow_pos (size n - 53))).1 (le_trans (le_of_eq (sym (pow-add 2 52 (size n - 53)))) (size_reaches n (52 + (size n - 53)) (omega arith))))
