-- The exact value of a double.
--   value_whole, value_finite — what is ±n units in value is ±n whole, and finite
--   Some, some   — every finite double is ±q · 2^k units, for a q of at most 53 digits
--   whole_exact  — a finite double is exactly `whole` units: nothing is rounded away
--   same_value   — two doubles with one sign and one magnitude are one
--   minus_zero   — minus zero is 0 units
use mathlib.Core.Path.{◌≡◌, refl, sym, ap, ◌∙◌, subst}
use mathlib.Core.Bool.{Bool, true, false, cond}
use Prim.Native.Nat.{ℕ, ◌+◌, ◌-◌, ◌*◌, ◌/◌, ◌%◌, ◌^◌, ◌<◌}
use native.Mathlib.Nat.{mul-div_cancel}
use native.Mathlib.Omega.{arith}
use borrow.Author.Tests.{eqb-true, eqb-false}
use lib.Dec.{T, T_not, leb, eqb}
use lib.IntN.{pos, nat_abs}
use lib.Ieee.{Float, nan, inf, fin, binary64, hid, top, fits, size, of_bits, to_bits, of_fields, down}
use lib.Ieee.Fits.{down_pos}
use lib.Ieee.Bits.{of_bits-to_bits}
use lib.Ieee.Exact.{HasValue}
use lib.Ieee.Scale.{finite}
use Rattle.integer.proofs.Absolute.{abs_neg}
use Rattle.doubles_guess.specs.Units.{signed_by, whole, Double}
use Rattle.doubles_guess.proofs.Pattern.{field_zero, field_some, field_top, of_bits_is}

pub value_whole : (x : Float) (s : Bool) (n : ℕ) → HasValue x s n (2 ^ 1074) → whole x ≡ signed_by s n
unfolding whole
value_whole nan s n h = absurd h
value_whole (inf t) s n h = absurd h
value_whole (fin t m e) s n h =
    ap (λ (k : ℕ). signed_by t (k / down e)) h.1 ∙ ap (signed_by t) (mul-div_cancel n (down_pos e)) ∙ ap (λ (u : Bool). signed_by u n) h.0

pub value_finite : (x : Float) (s : Bool) (n c : ℕ) → HasValue x s n c → T (finite x)
value_finite nan s n c h = h
value_finite (inf t) s n c h = h
value_finite (fin t m e) s n c h = tt

-- ---- every finite double is ±q · 2^k units
abbrev pub Some : Float → Type 0
Some x = (s : Bool) × (q : ℕ) × (k : ℕ) × (q < 2 ^ 53) × HasValue x s (q * 2 ^ k) (2 ^ 1074)

some_fields : (s : Bool) (x t : ℕ) → t < 2 ^ 52 → T (finite (of_fields binary64 s x t)) → Some (of_fields binary64 s x t)
some_fields s x t small F = go (eqb x 0) refl (eqb x 2047) refl
  where
    go : (b : Bool) → eqb x 0 ≡ b → (d : Bool) → eqb x 2047 ≡ d → Some (of_fields binary64 s x t)
    go true e d e' = (s, t, 0, omega arith, field_zero s t x (eqb-true x 0 e))
    go false e true e' = absurd (T_not (finite (of_fields binary64 s x t)) (field_top s t x (eqb-true x 2047 e')) F)
    go false e false e' = (s, 2 ^ 52 + t, x - 1, omega arith, field_some s t x (eqb-false x 0 e) (eqb-false x 2047 e'))

pub some : (x : Float) → Double x → Some x
some x d =
    let b = to_bits binary64 x in
    let e : of_fields binary64 (leb (2 ^ 63) b) (b % 2 ^ 63 / 2 ^ 52) (b % 2 ^ 52) ≡ x = sym (of_bits_is b) ∙ of_bits-to_bits binary64 x d.held in
    subst Some e (some_fields (leb (2 ^ 63) b) (b % 2 ^ 63 / 2 ^ 52) (b % 2 ^ 52) (omega arith) (subst (λ (y : Float). T (finite y)) (sym e) d.finite))

abs_signed : (s : Bool) (n : ℕ) → nat_abs (signed_by s n) ≡ n
abs_signed true n = abs_neg (pos n)
abs_signed false n = refl

pub whole_exact : (x : Float) → Double x → (s : Bool) × HasValue x s (nat_abs (whole x)) (2 ^ 1074) × (whole x ≡ signed_by s (nat_abs (whole x)))
whole_exact x d =
    let w = some x d in
    let n = w.1 * 2 ^ w.2 in
    let e : whole x ≡ signed_by w.0 n = value_whole x w.0 n w.4 in
    let f : nat_abs (whole x) ≡ n = ap nat_abs e ∙ abs_signed w.0 n in
    (w.0, subst (λ (a : ℕ). HasValue x w.0 a (2 ^ 1074)) (sym f) w.4, e ∙ ap (signed_by w.0) (sym f))

-- ---- a double's bits are its sign and its magnitude
abbrev bits_of : Bool → ℕ → ℕ
bits_of s n = cond s (top binary64) 0 + (size n - 53) * hid binary64 + n / 2 ^ (size n - 53)

bits_of_lem : (x : Float) (s : Bool) (n : ℕ) → HasValue x s n (2 ^ 1074) → to_bits binary64 x ≡ bits_of s n
unfolding to_bits
bits_of_lem nan s n h = absurd h
bits_of_lem (inf t) s n h = absurd h
bits_of_lem (fin t m e) s n h =
    ap (λ (k : ℕ). bits_of t k) (ap (λ (k : ℕ). k / down e) h.1 ∙ mul-div_cancel n (down_pos e)) ∙ ap (λ (u : Bool). bits_of u n) h.0

pub same_value : (x y : Float) (s : Bool) (n : ℕ) → T (fits binary64 x) → T (fits binary64 y) → HasValue x s n (2 ^ 1074) → HasValue y s n (2 ^ 1074) → x ≡ y
same_value x y s n fx fy h g =
    sym (of_bits-to_bits binary64 x fx) ∙ ap (of_bits binary64) (bits_of_lem x s n h ∙ sym (bits_of_lem y s n g)) ∙ of_bits-to_bits binary64 y fy

pub minus_zero : whole (fin true 0 (pos 0)) ≡ pos 0
unfolding whole
minus_zero = refl
