use native.Mathlib.Omega.{arith}
use Rattle.std.proofs.Common.{rules, Some, None}
use mathlib.Core.Path.{◌≡◌, refl, sym, subst, ◌∙◌}
use mathlib.Core.Bool.{Bool, not}
use Prim.Native.Nat.{ℕ, ◌+◌, ◌-◌, ◌*◌, ◌/◌, ◌%◌, ◌^◌}
use lib.Dec.{T, leb}
use lib.Ieee.{Float, binary64, fits, to_bits, of_fields}
use lib.Ieee.Bits.{of_bits-to_bits, is_true, is_false}
use lib.Ieee.Exact.{HasValue}
use lib.Ieee.Scale.{finite}
use Rattle.doubles_guess.specs.Decoded.{Decoded, Normal}
use Rattle.doubles_guess.proofs.Pattern.{field_zero, field_some, field_top, of_bits_is, nan_not_finite}
use Rattle.doubles_guess.proofs.Exact.{value_finite}
use Rattle.doubles_guess.proofs.decode.Goals as goal
use Rattle.doubles_guess.proofs.decode.Goals.{Start}

-- what is not finite, and what has a value
decoded-other : (x : Float) → T (not (finite x)) → Decoded x None
decoded-other x h = record { tells = sym (is_false (finite x) h); parts = tt }

decoded-finite : (x : Float) (s : Bool) (q k : ℕ) → HasValue x s (q * 2 ^ k) (2 ^ 1074) → Normal q k → Decoded x (Some (record { negative = s; digits = q; shift = k }))
decoded-finite x s q k v n = record {
  tells = sym (is_true (finite x) (value_finite x s (q * 2 ^ k) (2 ^ 1074) v));
  parts = record { value = v; normal = n };
}

module _ (x : Float) (F : T (fits binary64 x)) where
  abbrev bits : ℕ
  bits = to_bits binary64 x

  abbrev field : ℕ
  field = bits % 2 ^ 63 / 2 ^ 52

  abbrev digits : ℕ
  digits = bits % 2 ^ 52

  abbrev sign : Bool
  sign = leb (2 ^ 63) bits

  read : of_fields binary64 sign field digits ≡ x
  read = sym (of_bits_is bits) ∙ of_bits-to_bits binary64 x F

  at_top : field ≡ 2047 → Decoded x None
  at_top e = decoded-other x (subst (λ (y : Float). T (not (finite y))) read (field_top sign digits field e))

  at_zero : field ≡ 0 → Decoded x (Some (record { negative = sign; digits = digits; shift = 0 }))
  at_zero e =
      decoded-finite x sign digits 0 (subst (λ (y : Float). HasValue y sign (digits * 2 ^ 0) (2 ^ 1074)) read (field_zero sign digits field e))
      (record { narrow = omega arith; low = omega arith; full = λ z. absurd (z refl) })

  at_some : (field ≡ 0 → ⊥) → (field ≡ 2047 → ⊥) → Decoded x (Some (record { negative = sign; digits = 2 ^ 52 + digits; shift = field - 1 }))
  at_some z n =
      decoded-finite x sign (2 ^ 52 + digits) (field - 1)
      (subst (λ (y : Float). HasValue y sign ((2 ^ 52 + digits) * 2 ^ (field - 1)) (2 ^ 1074)) read (field_some sign digits field z n))
      (record { narrow = omega arith; low = omega arith; full = λ w. omega arith })

held : (c : Start) → T (fits binary64 c.args.x)
held c = subst T (sym c.well_formed.0.1) tt

pub returns-then-is_nan : goal.returns-then-is_nan
returns-then-is_nan c = decoded-other c.args.x (nan_not_finite c.args.x (sym c.is_nan.ensures.value ∙ c.if-is_nan.true))

pub returns-in-2047 : goal.returns-in-2047
returns-in-2047 c = let s = (goal.at.returns-in-2047 c).Start in at_top s.args.x (held s) c.in-2047.is

pub returns-in-0 : goal.returns-in-0
returns-in-0 c = let s = (goal.at.returns-in-0 c).Start in at_zero s.args.x (held s) c.in-0.is

pub returns-in_default : goal.returns-in_default
returns-in_default c = let s = (goal.at.returns-in_default c).Start in at_some s.args.x (held s) (λ (z : field s.args.x (held s) ≡ 0). search rules) (λ (z : field s.args.x (held s) ≡ 2047). search rules)
