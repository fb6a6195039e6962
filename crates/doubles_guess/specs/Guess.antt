-- Inward: a double as a guess (02, Paper 11: "A double becomes a guess by rounding its exact value times S to a nearest whole number, halves away from zero").
--   guess_for s x — the exact value of x times 2^s, to a nearest whole number, halves away from zero
--   has_guess s x — x is finite, and that number is in the range of a guess; 19 where it is not so
--   Nearest s x X — X is that number: |S·x − X| is at most a half, and at a half X lies farther from zero, in units of 2 ^ -1074
--   GuessFoundAs s x r — the contract of `guess_of`: the guess of a double that has one, and nothing for any other
--   magnitude_for q k s, MagnitudeFoundAs — the magnitude of q · 2^k units in steps, where it is at most 2^36; cited by `nearest` alone
use Rattle.std.specs.Prelude.{Option, IfSome, is_some, Bool, ◌&&◌, ◌≡◌, ℕ, ◌+◌, ◌*◌, ◌/◌, ◌^◌, ◌≤◌, ◌<◌, leb, ℤ, pos, nat_abs, ◌-ℤ◌, ◌*ℤ◌, Float}
use Rattle.std.specs.Float.Ieee.Scale.{finite}
use Rattle.integer.specs.Quotient.{round_div}
use Rattle.rules.specs.Range.{in_range}
use Rattle.rules.specs.declared.Kind.TheVariants as kind
use Rattle.doubles_guess.specs.Units.{whole}

unfoldable pub guess_for : ℕ → Float → ℤ
guess_for s x = round_div (whole x *ℤ pos (2 ^ s)) (2 ^ 1074)

unfoldable pub has_guess : ℕ → Float → Bool
has_guess s x = finite x && in_range kind.Guess (guess_for s x)

pub record Nearest (s : ℕ) (x : Float) (X : ℤ) : Type 0 where
  pub near : 2 * nat_abs (whole x *ℤ pos (2 ^ s) -ℤ pos (2 ^ 1074) *ℤ X) ≤ 2 ^ 1074
  pub half : 2 * nat_abs (whole x *ℤ pos (2 ^ s) -ℤ pos (2 ^ 1074) *ℤ X) ≡ 2 ^ 1074 → nat_abs (whole x *ℤ pos (2 ^ s)) < 2 ^ 1074 * nat_abs X

pub record GuessFoundAs (s : ℕ) (x : Float) (r : Option ℤ) : Type 0 where
  pub found : is_some r ≡ has_guess s x
  pub steps : IfSome r (λ X. X ≡ guess_for s x)

unfoldable pub magnitude_for : ℕ → ℕ → ℕ → ℕ
magnitude_for q k s = (2 * (q * 2 ^ k * 2 ^ s) + 2 ^ 1074) / (2 * 2 ^ 1074)

pub record MagnitudeFoundAs (q k s : ℕ) (r : Option ℕ) : Type 0 where
  pub found : is_some r ≡ leb (magnitude_for q k s) (2 ^ 36)
  pub steps : IfSome r (λ m. m ≡ magnitude_for q k s)
