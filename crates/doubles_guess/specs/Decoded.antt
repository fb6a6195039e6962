-- A double taken apart; cited by contracts inside the chain.
--   Normal q k    — q has 53 digits, or at most that many where k is 0
--   PartsOf x p   — x is ±digits · 2^shift units
--   Decoded x r   — r says whether x is finite, and then holds its parts
use Rattle.std.specs.Prelude.{Option, IfSome, is_some, ◌≡◌, ℕ, ◌*◌, ◌^◌, ◌≤◌, ◌<◌, Float}
use Rattle.std.specs.Float.Ieee.Exact.{HasValue}
use Rattle.std.specs.Float.Ieee.Scale as Scale
use Rattle.doubles_guess.specs.declared.DoubleParts.{DoubleParts}

pub record Normal (q k : ℕ) : Type 0 where
  pub narrow : q < 2 ^ 53
  pub low : k ≤ 2045
  pub full : (k ≡ 0 → ⊥) → 2 ^ 52 ≤ q

pub record PartsOf (x : Float) (p : DoubleParts) : Type 0 where
  pub value : HasValue x p.negative (p.digits * 2 ^ p.shift) (2 ^ 1074)
  pub normal : Normal p.digits p.shift

pub record Decoded (x : Float) (r : Option DoubleParts) : Type 0 where
  pub tells : is_some r ≡ Scale.finite x
  pub parts : IfSome r (PartsOf x)
