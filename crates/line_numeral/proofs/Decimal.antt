-- Laws of the decimal spelling.
--   decimal_small, decimal_next — below 10 one digit; from 10 on the digits of n / 10, and then the last
--   decimal_more — the digits of v, v above 0, and one digit more
--   decimal_induction — what holds of one digit, and goes on from n / 10 to n, holds of every number's digits
use Rattle.std.proofs.Common.{◌≡◌, ℕ, zero, suc, ◌+◌, ◌*◌, ◌/◌, ◌%◌, ◌^◌, ◌<◌, ◌≤◌, Bool, true, false, ltb, List, [], ◌∷◌, ◌++◌, refl, ◌∙◌, pow-suc, arith, pow-add, ltb-false, ltb-true, le-ltb, lt-ltb}
use Rattle.line_numeral.specs.Decimal.{digits, decimal}

-- ---- the bound of the recursion
digits_small : (f n : ℕ) → n < 10 → digits (suc f) n ≡ (48 + n) ∷ []
unfolding digits
digits_small f n h = rw (lt-ltb n 10 h)

digits_next : (f n : ℕ) → 10 ≤ n → digits (suc f) n ≡ digits f (n / 10) ++ ((48 + n % 10) ∷ [])
unfolding digits
digits_next f n h = rw (le-ltb n 10 h)

quotient_below : (f n : ℕ) → n < 10 ^ suc f → n / 10 < 10 ^ f
quotient_below f n h = omega (arith, pow-suc 10 f)

-- any two bounds that are large enough give the same digits
digits_enough : (f g n : ℕ) → n < 10 ^ suc f → n < 10 ^ suc g → digits (suc f) n ≡ digits (suc g) n
digits_enough zero g n p q = digits_small zero n (omega (arith, pow-suc 10 0)) ∙ rw (digits_small g n (omega (arith, pow-suc 10 0)))
digits_enough (suc f) zero n p q = digits_small (suc f) n (omega (arith, pow-suc 10 0)) ∙ rw (digits_small zero n (omega (arith, pow-suc 10 0)))
digits_enough (suc f) (suc g) n p q =
    go (ltb n 10) refl (digits_enough f g (n / 10) (quotient_below (suc f) n p) (quotient_below (suc g) n q))
  where
    go : (t : Bool) → ltb n 10 ≡ t → digits (suc f) (n / 10) ≡ digits (suc g) (n / 10) → digits (suc (suc f)) n ≡ digits (suc (suc g)) n
    go true e ih = rw (digits_small (suc f) n (ltb-true n 10 e), digits_small (suc g) n (ltb-true n 10 e))
    go false e ih = rw (digits_next (suc f) n (ltb-false n 10 e), digits_next (suc g) n (ltb-false n 10 e), ih)

below_power : (m : ℕ) → m < 10 ^ m
below_power zero = omega arith
below_power (suc m) = omega (arith, below_power m, pow-suc 10 m)

enough_digits : (n : ℕ) → n < 10 ^ (20 + n / 10 ^ 20)
enough_digits n =
    let p : 10 ^ (20 + n / 10 ^ 20) ≡ 10 ^ 20 * 10 ^ (n / 10 ^ 20) = pow-add 10 20 (n / 10 ^ 20) in
    rw p (omega (arith, below_power (n / 10 ^ 20)))

-- ---- decimal
decimal_is : (f n : ℕ) → n < 10 ^ suc f → decimal n ≡ digits (suc f) n
unfolding decimal
decimal_is f n h =
    let b : 20 + n / 10 ^ 20 ≡ suc (19 + n / 10 ^ 20) = omega arith in
    rw b (digits_enough (19 + n / 10 ^ 20) f n (rw b at (enough_digits n)) h)

pub decimal_small : (n : ℕ) → n < 10 → decimal n ≡ (48 + n) ∷ []
decimal_small n h = decimal_is 0 n (omega (arith, pow-suc 10 0)) ∙ digits_small 0 n h

pub decimal_next : (n : ℕ) → 10 ≤ n → decimal n ≡ decimal (n / 10) ++ ((48 + n % 10) ∷ [])
decimal_next n h =
    let f = 19 + n / 10 ^ 20 in
    let b : 20 + n / 10 ^ 20 ≡ suc f = omega arith in
    let e : n < 10 ^ suc f = rw b at (enough_digits n) in
    decimal_is (suc f) n (omega (arith, pow-suc 10 (suc f))) ∙ digits_next (suc f) n h
    ∙ rw (decimal_is f (n / 10) (omega (arith, pow-suc 10 f)))

pub decimal_more : (v d : ℕ) → 1 ≤ v → d < 10 → decimal (v * 10 + d) ≡ decimal v ++ ((48 + d) ∷ [])
decimal_more v d h l =
    let q : (v * 10 + d) / 10 ≡ v = omega arith in
    let r : (v * 10 + d) % 10 ≡ d = omega arith in
    decimal_next (v * 10 + d) (omega arith) ∙ rw (q, r)

-- a property of the digits of every number, from one digit to the next
pub decimal_induction : (P : ℕ → List ℕ → Type 0)
    → ((n : ℕ) → n < 10 → P n ((48 + n) ∷ []))
    → ((n : ℕ) → 10 ≤ n → P (n / 10) (decimal (n / 10)) → P n (decimal (n / 10) ++ ((48 + n % 10) ∷ [])))
    → (n : ℕ) → P n (decimal n)
decimal_induction P one next n = go (n + 1) n (omega arith)
  where
    go : (f n : ℕ) → n < f → P n (decimal n)
    go zero n h = absurd (omega arith)
    go (suc f) n h = by (ltb n 10) refl (go f (n / 10))
      where
        by : (t : Bool) → ltb n 10 ≡ t → (n / 10 < f → P (n / 10) (decimal (n / 10))) → P n (decimal n)
        by true e ih = rw (decimal_small n (ltb-true n 10 e)) (one n (ltb-true n 10 e))
        by false e ih = rw (decimal_next n (ltb-false n 10 e)) (next n (ltb-false n 10 e) (ih (omega (arith, ltb-false n 10 e))))
