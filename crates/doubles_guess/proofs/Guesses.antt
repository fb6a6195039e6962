-- The contract of `guess_of`, from what `decode` and `nearest` say.
--   none_outside — a double that is not finite gives no guess
--   magnitude_small — a magnitude that is found is at most 2^36
--   none_large, given — no guess where the magnitude is not found, else the magnitude with its sign
use mathlib.Core.Path.{◌≡◌, sym, ap, ◌∙◌}
use mathlib.Core.Bool.{Bool, ◌&&◌}
use Prim.Native.Nat.{ℕ, ◌≤◌, ◌^◌}
use borrow.Author.Tests.{leb-true}
use lib.Dec.{leb}
use lib.IntN.{ℤ}
use lib.Ieee.{Float}
use Rattle.std.proofs.Common.{Some, None}
use Rattle.rules.specs.Range.{in_range}
use Rattle.rules.specs.declared.Kind.TheVariants as kind
use Rattle.doubles_guess.specs.Units.{signed_by}
use Rattle.doubles_guess.specs.Decoded.{Decoded}
use Rattle.doubles_guess.specs.Guess.{has_guess, guess_for, magnitude_for, MagnitudeFoundAs, GuessFoundAs}
use Rattle.doubles_guess.specs.declared.DoubleParts.{DoubleParts}
use Rattle.doubles_guess.proofs.Steps.{guess_signed, guess_in}

module _ (s : ℕ) (x : Float) where
  pub none_outside : Decoded x None → GuessFoundAs s x None
  unfolding has_guess
  none_outside d = record { found = ap (λ (b : Bool). b && in_range kind.Guess (guess_for s x)) d.tells; steps = tt }

  module _ (p : DoubleParts) (d : Decoded x (Some p)) where
    abbrev magnitude : ℕ
    magnitude = magnitude_for p.digits p.shift s

    guess_is : guess_for s x ≡ signed_by p.negative magnitude
    guess_is = guess_signed x p.negative p.digits p.shift s d.parts.value

    found_is : has_guess s x ≡ leb magnitude (2 ^ 36)
    unfolding has_guess
    found_is =
        ap (λ (b : Bool). b && in_range kind.Guess (guess_for s x)) (sym d.tells)
        ∙ ap (in_range kind.Guess) guess_is
        ∙ guess_in p.negative magnitude

    pub magnitude_small : {m : ℕ} → MagnitudeFoundAs p.digits p.shift s (Some m) → m ≤ 2 ^ 36
    magnitude_small h = rw h.steps (leb-true magnitude (2 ^ 36) (sym h.found))

    pub none_large : MagnitudeFoundAs p.digits p.shift s None → GuessFoundAs s x None
    none_large h = record { found = h.found ∙ sym found_is; steps = tt }

    pub given : {m : ℕ} {v : ℤ} → MagnitudeFoundAs p.digits p.shift s (Some m) → v ≡ signed_by p.negative m → GuessFoundAs s x (Some v)
    given h q = record {
      found = h.found ∙ sym found_is;
      steps = q ∙ ap (signed_by p.negative) h.steps ∙ sym guess_is;
    }
