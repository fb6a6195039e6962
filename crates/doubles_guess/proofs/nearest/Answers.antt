use mathlib.Core.Path.{◌≡◌, refl, sym, ◌∙◌}
use mathlib.Core.Bool.{Bool, true, false}
use native.Mathlib.Omega.{arith}
use Prim.Native.Nat.{ℕ, ◌+◌, ◌*◌, ◌/◌, ◌%◌, ◌^◌}
use borrow.Author.Tests.{lt-leb}
use lib.Dec.{leb}
use Rattle.std.specs.Bool.{then_some}
use Rattle.doubles_guess.specs.Guess.{magnitude_for, MagnitudeFoundAs}
use Rattle.doubles_guess.proofs.Steps.{magnitude_down, magnitude_none, magnitude_far}
use Rattle.doubles_guess.proofs.nearest.Goals as goal

-- the magnitude, where it is small enough
magnitude_found : (q k s n : ℕ) → magnitude_for q k s ≡ n → (b : Bool) → leb n (2 ^ 36) ≡ b → MagnitudeFoundAs q k s (then_some b n)
magnitude_found q k s n e true h = record { found = sym (rw e h); steps = sym e }
magnitude_found q k s n e false h = record { found = sym (rw e h); steps = tt }

-- halves counted up, as the magnitude in steps has them
up : (h r : ℕ) → 2 * r ≡ h + h % 2 → (h + 1) / 2 ≡ r
up h r e = omega arith

pub returns-in_err-d : goal.returns-in_err-d
returns-in_err-d c =
    let s = c.args in
    let f = magnitude_far s.digits s.shift s.s (omega (arith, c.in_err-d.ensures)) (c.requires.0.full (λ (z : s.shift ≡ 0). omega arith)) in
    rw c.from_residual.ensures (record { found = sym (lt-leb (magnitude_for s.digits s.shift s.s) (2 ^ 36) f); steps = tt })

pub returns-then-d-gt63 : goal.returns-then-d-gt63
returns-then-d-gt63 c =
    let s = c.args in
    magnitude_found s.digits s.shift s.s 0 (magnitude_none s.digits s.shift s.s c.in_ok-d.d (omega (arith, c.in_ok-d.ensures)) c.requires.0.narrow (omega arith)) true refl

pub returns : goal.returns
returns c =
    let s = c.args in
    rw c.then_some.ensures
    (magnitude_found s.digits s.shift s.s c.half_up-steps.result (magnitude_down s.digits s.shift s.s c.in_ok-d.d (omega (arith, c.in_ok-d.ensures)) ∙ up _ _ c.half_up-steps.ensures) _ refl)
