-- Laws of bytes written one after another.
--   wrote_nothing — nothing was written
--   byte    — one byte was
--   then    — one text after another: the second starts where the first ends
--   wider   — a text of at most a bytes has at most b, a ≤ b
--   called  — the same text in other words
--   copied, all_copied — one byte more of a text, and all of them
--   decimal_length — a number below 10^(k + 1) has at most k + 1 digits;  decimal_digits, decimal_sized — 20 below 2^64, 19 up to 2^63
--   small_length, next_length — one digit below 10; one more than n / 10 has, from 10 on
--   wrote_digit, wrote_digits — that digit was written; and the last one, after those of n / 10
--   minus, wrote_unsigned — the digits of a number's magnitude were written, and a minus before them where it is negative
use mathlib.Core.Path.{◌≡◌, refl, sym, ap, ◌∙◌, subst}
use mathlib.Core.List.{List, [], ◌∷◌, ◌++◌}
use Prim.Native.Nat.{ℕ, zero, suc, ◌+◌, ◌/◌, ◌%◌, ◌^◌, ◌≤◌, ◌<◌}
use native.Mathlib.Nat.{add-zero, add-suc, suc-add, pow-suc}
use native.Mathlib.Numerals.{add-one}
use native.Mathlib.Omega.{arith}
use borrow.Author.Tests.{ltb-true}
use lib.Dec.{T}
use lib.IntN.{ℤ, pos, negsuc, nat_abs}
use lib.ListN.{length, take, get_or, set, length-append}
use lib.Seq.{sets, take-suc, length-take-le, take-length}
use lib.Signed.{lt_z}
use mathlib.Core.Bool.{true, false}
use Rattle.line_numeral.specs.Decimal.{decimal, numeral}
use Rattle.line_numeral.proofs.Decimal.{decimal_small, decimal_next, decimal_induction}
use Rattle.listing_text.specs.Wrote.{Wrote}

-- ---- runs of stores
sets_append : (l : List ℕ) (i : ℕ) (vs ws : List ℕ) → sets l i (vs ++ ws) ≡ sets (sets l i vs) (i + length vs) ws
sets_append l i [] ws = ap (λ (k : ℕ). sets l k ws) (sym (add-zero i))
sets_append l i (v ∷ vs) ws =
    sets_append (set l i v) (suc i) vs ws ∙ ap (λ (k : ℕ). sets (sets (set l i v) (suc i) vs) k ws) (suc-add i (length vs) ∙ sym (add-suc i (length vs)))

pub copied : (l src : List ℕ) (at i : ℕ) → i < length src → set (sets l at (take i src)) (at + i) (get_or src i 0) ≡ sets l at (take (i + 1) src)
copied l src at i h =
    let room : i ≤ length src = omega arith in
    sym
    (ap (λ (k : ℕ). sets l at (take k src)) (add-one i)
    ∙ ap (λ (t : List ℕ). sets l at t) (take-suc src i 0 h)
    ∙ sets_append l at (take i src) (get_or src i 0 ∷ [])
    ∙ ap (λ (k : ℕ). set (sets l at (take i src)) (at + k) (get_or src i 0)) (length-take-le i src room))

pub all_copied : {l new src : List ℕ} {at i : ℕ} → i ≡ length src → new ≡ sets l at (take i src) → Wrote (length src) l at src new (at + i)
all_copied {l} {new} {src} {at} {i} e s = record {
  end_is = omega arith;
  stored = s ∙ ap (λ (k : ℕ). sets l at (take k src)) e ∙ ap (λ (t : List ℕ). sets l at t) (take-length src);
  end_max = omega arith;
}

-- ---- one text after another
pub wrote_nothing : (l : List ℕ) (at : ℕ) → Wrote 0 l at [] l at
wrote_nothing l at = record { end_is = omega arith; stored = refl; end_max = omega arith }

pub byte : (l : List ℕ) (at b : ℕ) → Wrote 1 l at (b ∷ []) (set l at b) (at + 1)
byte l at b = record { end_is = refl; stored = refl; end_max = omega arith }

pub then : {a b : ℕ} {o n p v w : List ℕ} {at j k : ℕ} → Wrote a o at v n j → Wrote b n j w p k → Wrote (a + b) o at (v ++ w) p k
then {a} {b} {o} {n} {p} {v} {w} {at} {j} {k} x y = record {
  end_is = simp length-append (omega (arith, x.end_is, y.end_is));
  stored = y.stored ∙ ap (λ (l : List ℕ). sets l j w) x.stored ∙ ap (λ (i : ℕ). sets (sets o at v) i w) x.end_is ∙ sym (sets_append o at v w);
  end_max = omega (arith, x.end_max, y.end_max);
}

pub wider : {a : ℕ} (b : ℕ) {o n v : List ℕ} {at j : ℕ} → a ≤ b → Wrote a o at v n j → Wrote b o at v n j
wider b h x = record { end_is = x.end_is; stored = x.stored; end_max = omega (arith, x.end_max) }

pub called : {a : ℕ} {o n v w : List ℕ} {at j : ℕ} → v ≡ w → Wrote a o at v n j → Wrote a o at w n j
called e x = rw e at x

-- ---- how many digits
pub decimal_length : (k n : ℕ) → n < 10 ^ suc k → length (decimal n) ≤ suc k
decimal_length k n = decimal_induction P one next n k
  where
    P : ℕ → List ℕ → Type 0
    P n l = (k : ℕ) → n < 10 ^ suc k → length l ≤ suc k

    one : (n : ℕ) → n < 10 → P n ((48 + n) ∷ [])
    one n h k l = omega arith

    next : (n : ℕ) → 10 ≤ n → P (n / 10) (decimal (n / 10)) → P n (decimal (n / 10) ++ ((48 + n % 10) ∷ []))
    next n h ih zero l = absurd (omega (arith, pow-suc 10 0))
    next n h ih (suc k) l = simp length-append (omega (arith, ih k (omega (arith, pow-suc 10 (suc k)))))

pub decimal_digits : (n : ℕ) → n < 2 ^ 64 → length (decimal n) ≤ 20
decimal_digits n h = decimal_length 19 n (omega arith)

decimal_sized : (n : ℕ) → n ≤ 2 ^ 63 → length (decimal n) ≤ 19
decimal_sized n h = decimal_length 18 n (omega arith)

pub small_length : (n : ℕ) → n < 10 → length (decimal n) ≡ 1
small_length n h = rw (decimal_small n h)

pub next_length : (n : ℕ) → 10 ≤ n → length (decimal n) ≡ length (decimal (n / 10)) + 1
next_length n h = rw (decimal_next n h, length-append)

-- ---- one digit after another
pub wrote_digit : (l : List ℕ) (at n : ℕ) → n < 10 → Wrote (length (decimal n)) l at (decimal n) (set l at (48 + n)) (at + 1)
wrote_digit l at n h = rw (decimal_small n h) (byte l at (48 + n))

pub wrote_digits : (n : ℕ) {o p : List ℕ} {at j : ℕ} → 10 ≤ n → Wrote (length (decimal (n / 10))) o at (decimal (n / 10)) p j → Wrote (length (decimal n)) o at (decimal n) (set p j (48 + n % 10)) (j + 1)
wrote_digits n {o} {p} {at} {j} h x = rw (next_length n h, decimal_next n h) (then x (byte p j (48 + n % 10)))

-- ---- with a minus before them
pub minus : (z : ℤ) {m : ℕ} {o p : List ℕ} {at j : ℕ} → lt_z z (pos 0) ≡ true → m ≡ nat_abs z → nat_abs z < 2 ^ 63 → Wrote (length (decimal m)) (set o at 45) (at + 1) (decimal m) p j → Wrote 20 o at (numeral z) p j
unfolding numeral
minus (pos n) t e h x = absurd (omega (arith, ltb-true n 0 t))
minus (negsuc n) {m} {o} {p} {at} {j} t e h x =
    wider 20 (omega (arith, decimal_sized (suc n) (omega arith))) (rw e at (then (byte o at 45) x))

pub wrote_unsigned : (z : ℤ) {m : ℕ} {o p : List ℕ} {at j : ℕ} → lt_z z (pos 0) ≡ false → m ≡ nat_abs z → nat_abs z < 2 ^ 63 → Wrote (length (decimal m)) o at (decimal m) p j → Wrote 20 o at (numeral z) p j
unfolding numeral
wrote_unsigned (pos n) {m} t e h x = wider 20 (omega (arith, decimal_sized n (omega arith))) (rw e at x)
wrote_unsigned (negsuc n) t e h x = absurd (subst T t tt)

-- room for the digits of a magnitude
pub wrote_room : (z : ℤ) {m : ℕ} → m ≡ nat_abs z → nat_abs z < 2 ^ 63 → length (decimal m) ≤ 19
wrote_room z {m} e h = decimal_sized m (omega arith)

pub wrote_natural : {n : ℕ} {o p : List ℕ} {at j : ℕ} → n < 2 ^ 64 → Wrote (length (decimal n)) o at (decimal n) p j → Wrote 20 o at (decimal n) p j
wrote_natural {n} h x = wider 20 (decimal_digits n h) x
