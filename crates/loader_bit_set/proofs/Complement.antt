-- The complement of a set of places, as the code counts it.
--   lack — the ones of the complement within n bits are the places that the set lacks;  mask — the mask of n ones
use mathlib.Core.Path.{◌≡◌, refl, sym, ap, subst, ◌∙◌}
use mathlib.Core.Bool.{cond}
use Prim.Native.Nat.{ℕ, zero, suc, ◌+◌, ◌-◌, ◌*◌, ◌/◌, ◌%◌, ◌^◌, ◌≤◌, ◌<◌}
use native.Mathlib.Nat.{mod-lt, mod-one, add_comm, pow-suc}
use native.Mathlib.Numerals.{one-add}
use native.Mathlib.Omega.{arith}
use lib.Count.{ones, ones_cat}
use lib.Dec.{eqb, lit<}
use lib.Pow.{pow_pos, split, high, mod-pow-add, ones_split, ones_lt, shr_lt}
use Rattle.integer.specs.Finite.{sumℕ}
use Rattle.loader_bit_set.specs.Places.{has_place, lacking}

-- a number and its complement, digit for digit from the place n on
comp : (a q r p : ℕ) → r < p → (q + a) * p + (p - 1) - (q * p + r) ≡ a * p + (p - 1 - r)
comp a q r p h = omega arith

-- the complement's part from the place n on, with m places from there
not_high : (x n m : ℕ) → x < 2 ^ (m + n) → (2 ^ (m + n) - 1 - x) / 2 ^ n ≡ 2 ^ m - 1 - x / 2 ^ n
not_high x n m h =
    let q = x / 2 ^ n in
    let r = x % 2 ^ n in
    let less : r < 2 ^ n = mod-lt x (pow_pos n) in
    let low : q < 2 ^ m = shr_lt m n h in
    let a = 2 ^ m - 1 - q in
    let whole : q + a ≡ 2 ^ m - 1 = omega arith in
    let e : 2 ^ (m + n) - 1 - x ≡ a * 2 ^ n + (2 ^ n - 1 - r) =
    ap (λ (k : ℕ). k - x) (ones_split m n ∙ ap (λ (k : ℕ). k * 2 ^ n + (2 ^ n - 1)) (sym whole))
    ∙ ap (λ (k : ℕ). (q + a) * 2 ^ n + (2 ^ n - 1) - k) (sym (split x n))
    ∙ comp a q r (2 ^ n) less in
    ap (λ (k : ℕ). k / 2 ^ n) e ∙ high a n (omega arith)

-- a digit of the complement, with k places above it
not_digit : (x n k : ℕ) → x < 2 ^ (suc k + n) → (2 ^ (suc k + n) - 1 - x) / 2 ^ n % 2 ≡ 1 - x / 2 ^ n % 2
not_digit x n k h = ap (λ (q : ℕ). q % 2) (not_high x n (suc k) h) ∙ omega (arith, pow-suc 2 k, shr_lt (suc k) n h)

not_digit32 : (x n : ℕ) → x < 2 ^ 32 → n < 32 → (2 ^ 32 - 1 - x) / 2 ^ n % 2 ≡ 1 - x / 2 ^ n % 2
not_digit32 x n h l =
    let e : suc (31 - n) + n ≡ 32 = omega arith in
    subst (λ (w : ℕ). x < 2 ^ w → (2 ^ w - 1 - x) / 2 ^ n % 2 ≡ 1 - x / 2 ^ n % 2) e (not_digit x n (31 - n)) h

-- one digit of the complement, counted
one_digit : (d : ℕ) → d < 2 → ones (1 - d) ≡ cond (eqb d 1) 0 1
unfolding ones
one_digit zero h = refl
one_digit (suc zero) h = refl
one_digit (suc (suc d)) h = absurd (omega arith)

pub lack : (x n : ℕ) → x < 2 ^ 32 → n ≤ 32 → ones ((2 ^ 32 - 1 - x) % 2 ^ n) ≡ lacking x n
unfolding lacking sumℕ ones
lack x zero h l = ap ones (mod-one (2 ^ 32 - 1 - x))
lack x (suc n) h l =
    let y = 2 ^ 32 - 1 - x in
    ap (λ (k : ℕ). ones (y % 2 ^ k)) (sym (one-add n))
    ∙ ap ones (mod-pow-add y 1 n)
    ∙ ones_cat n (y / 2 ^ n % 2) (y % 2 ^ n) (mod-lt y (pow_pos n))
    ∙ add_comm _ _
    ∙ ap (λ (k : ℕ). ones (y % 2 ^ n) + k) (ap ones (not_digit32 x n h (omega arith)) ∙ one_digit (x / 2 ^ n % 2) (mod-lt _ (lit< tt)))
    ∙ ap (λ (k : ℕ). k + cond (has_place x n) 0 1) (lack x n h (omega arith))

pub mask : (n : ℕ) → n ≤ 32 → (2 ^ 32 - 1) / 2 ^ (32 - n) ≡ 2 ^ n - 1
mask n h =
    let e : n + (32 - n) ≡ 32 = omega arith in
    ap (λ (w : ℕ). (2 ^ w - 1) / 2 ^ (32 - n)) (sym e)
    ∙ ap (λ (k : ℕ). k / 2 ^ (32 - n)) (ones_split n (32 - n))
    ∙ high (2 ^ n - 1) (32 - n) (ones_lt (32 - n))
