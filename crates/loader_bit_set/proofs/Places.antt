-- Laws of sets of places.
--   has_same, has_other — the place i is in the set with it; every other place is in it as before;  has_none — the number 0 is the empty set
--   lacking_with — with a place below n that it lacked, a set lacks one place fewer;  lacking-≤ — it lacks at most n
--   lacking_all  — the empty set lacks all n places;  lacking_none, none_lacking — a set lacks none exactly where it has every place below n
use mathlib.Core.Path.{◌≡◌, refl, sym, ap, subst, ◌∙◌}
use mathlib.Core.Bool.{Bool, true, false, cond}
use Prim.Native.Nat.{ℕ, zero, suc, ◌+◌, max, ◌-◌, ◌/◌, ◌%◌, ◌^◌, ◌≤◌, ◌<◌}
use native.Mathlib.Decide.{ℕ_discrete, dec_lt}
use native.Mathlib.Nat.{mod-lt, pow-suc, one-mul, div-eq_of_lt, zero-div}
use native.Mathlib.Omega.{arith}
use borrow.Author.Tests.{eq-eqb}
use lib.Bits.{bit_or, or_shr, or_mod}
use lib.Dec.{eqb, lit<}
use lib.Pow.{shl-shr, pow-add, pow-lt}
use Rattle.integer.proofs.Sum.{sumℕ_ext, sumℕ_mono, sumℕ_at}
use Rattle.integer.specs.Finite.{sumℕ}
use Rattle.loader_bit_set.specs.Places.{has_place, with_place, lacking}

-- ---- the set with one place more
-- a digit of a power of two
pow_digit_same : (i : ℕ) → 2 ^ i / 2 ^ i % 2 ≡ 1
pow_digit_same i = ap (λ (q : ℕ). q / 2 ^ i % 2) (sym (one-mul (2 ^ i))) ∙ ap (λ (q : ℕ). q % 2) (shl-shr 1 i)

pow_digit_low : (j k : ℕ) → 2 ^ (suc k + j) / 2 ^ j % 2 ≡ 0
pow_digit_low j k = ap (λ (q : ℕ). q / 2 ^ j % 2) (pow-add 2 (suc k) j) ∙ ap (λ (q : ℕ). q % 2) (shl-shr (2 ^ suc k) j) ∙ omega (arith, pow-suc 2 k)

pow_digit_high : (i j : ℕ) → i < j → 2 ^ i / 2 ^ j % 2 ≡ 0
pow_digit_high i j h = ap (λ (q : ℕ). q % 2) (div-eq_of_lt (pow-lt h))

pow_digit_other : (i j : ℕ) → (i ≡ j → ⊥) → 2 ^ i / 2 ^ j % 2 ≡ 0
pow_digit_other i j n = go (dec_lt i j)
  where
    go : Dec (i < j) → 2 ^ i / 2 ^ j % 2 ≡ 0
    go (yes h) = pow_digit_high i j h
    go (no f) =
        let less : j < i = omega arith in
        let e : suc (i - suc j) + j ≡ i = omega arith in
        subst (λ (k : ℕ). 2 ^ k / 2 ^ j % 2 ≡ 0) e (pow_digit_low j (i - suc j))

-- a digit of a union is the larger of the two
or_digit : (a b : ℕ) → a < 2 → b < 2 → bit_or a b ≡ max a b
or_digit zero b h l = omega arith
or_digit (suc zero) zero h l = refl
or_digit (suc zero) (suc zero) h l = refl
or_digit (suc zero) (suc (suc b)) h l = absurd (omega arith)
or_digit (suc (suc a)) b h l = absurd (omega arith)

with_digit : (x i j : ℕ) → with_place x i / 2 ^ j % 2 ≡ max (x / 2 ^ j % 2) (2 ^ i / 2 ^ j % 2)
unfolding with_place
with_digit x i j =
    ap (λ (q : ℕ). q % 2) (or_shr x (2 ^ i) j)
    ∙ or_mod (x / 2 ^ j) (2 ^ i / 2 ^ j) 1
    ∙ or_digit _ _ (mod-lt (x / 2 ^ j) (lit< tt)) (mod-lt (2 ^ i / 2 ^ j) (lit< tt))

pub has_same : (x i : ℕ) → has_place (with_place x i) i ≡ true
has_same x i =
    let e : with_place x i / 2 ^ i % 2 ≡ 1 = omega (arith, with_digit x i i, pow_digit_same i, mod-lt (x / 2 ^ i) {m = 2} (lit< tt)) in
    eq-eqb (with_place x i / 2 ^ i % 2) 1 e

pub has_other : (x i j : ℕ) → (i ≡ j → ⊥) → has_place (with_place x i) j ≡ has_place x j
has_other x i j n =
    let e : with_place x i / 2 ^ j % 2 ≡ x / 2 ^ j % 2 = omega (arith, with_digit x i j, pow_digit_other i j n) in
    ap (λ (d : ℕ). eqb d 1) e

pub has_none : (i : ℕ) → has_place 0 i ≡ false
has_none i = ap (λ (q : ℕ). eqb (q % 2) 1) (zero-div (2 ^ i))

-- ---- what a set lacks
sumℕ_one : (n : ℕ) → sumℕ n (λ (i : ℕ). 1) ≡ n
unfolding sumℕ
sumℕ_one zero = refl
sumℕ_one (suc n) = omega (arith, sumℕ_one n)

-- a sum whose term at i falls by one
one_less : (n : ℕ) (f g : ℕ → ℕ) (i : ℕ) → i < n → f i ≡ suc (g i) → ((j : ℕ) → (i ≡ j → ⊥) → f j ≡ g j) → sumℕ n f ≡ suc (sumℕ n g)
unfolding sumℕ
one_less zero f g i l e h = absurd (omega arith)
one_less (suc n) f g i l e h = go (ℕ_discrete i n) (λ m. one_less n f g i m e h)
  where
    go : Dec (i ≡ n) → (i < n → sumℕ n f ≡ suc (sumℕ n g)) → sumℕ n f + f n ≡ suc (sumℕ n g + g n)
    go (yes p) below =
        let here : f n ≡ suc (g n) = subst (λ (k : ℕ). f k ≡ suc (g k)) p e in
        omega (arith, sumℕ_ext n f g (λ j m. h j (λ q. omega arith)))
    go (no p) below = omega (arith, below (omega arith), h n p)

pub lacking_with : (x n i : ℕ) → i < n → has_place x i ≡ false → lacking x n ≡ suc (lacking (with_place x i) n)
unfolding lacking
lacking_with x n i l e =
    one_less n (λ (j : ℕ). cond (has_place x j) 0 1) (λ (j : ℕ). cond (has_place (with_place x i) j) 0 1) i l (rw (e, has_same x i)) (λ j d. rw (has_other x i j d))

lacking_all : (n : ℕ) → lacking 0 n ≡ n
unfolding lacking sumℕ
lacking_all zero = refl
lacking_all (suc n) =
    rw (has_none n, lacking_all n) (omega arith)

pub lacking-≤ : (x n : ℕ) → lacking x n ≤ n
unfolding lacking
lacking-≤ x n = omega (arith, sumℕ_mono n (λ (i : ℕ). cond (has_place x i) 0 1) (λ (i : ℕ). 1) (λ i l. at_most (has_place x i)), sumℕ_one n)
  where
    at_most : (b : Bool) → cond b 0 1 ≤ 1
    at_most true = omega arith
    at_most false = omega arith

pub lacking_none : (x n : ℕ) → lacking x n ≡ 0 → (i : ℕ) → i < n → has_place x i ≡ true
unfolding lacking
lacking_none x n e i l = go (has_place x i) refl (sumℕ_at n (λ (j : ℕ). cond (has_place x j) 0 1) i l)
  where
    go : (t : Bool) → has_place x i ≡ t → cond t 0 1 ≤ sumℕ n (λ (j : ℕ). cond (has_place x j) 0 1) → t ≡ true
    go true p q = refl
    go false p q = absurd (omega arith)

pub none_lacking : (x n : ℕ) → ((i : ℕ) → i < n → has_place x i ≡ true) → lacking x n ≡ 0
unfolding lacking sumℕ
none_lacking x zero h = refl
none_lacking x (suc n) h = rw (h n (omega arith), none_lacking x n (λ i l. h i (omega arith)))
