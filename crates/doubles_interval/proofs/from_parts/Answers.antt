use native.Mathlib.Omega.{arith}
use mathlib.Core.Path.{◌≡◌, sym, ◌∙◌}
use mathlib.Core.Bool.{Bool, true, false}
use Prim.Native.Nat.{ℕ, ◌+◌, ◌-◌, ◌*◌, ◌^◌, ◌≤◌, ◌<◌}
use Rattle.doubles_guess.proofs.Pattern as P
use Rattle.doubles_interval.proofs.Values.{from_pattern}
use Rattle.doubles_interval.proofs.from_parts.Goals as goal
use Rattle.doubles_interval.proofs.from_parts.Goals.{Else-negative, Start, Then-negative}

less-leading : (q : ℕ) → q < 2 ^ 53 → q - 2 ^ 52 < 2 ^ 52
less-leading q h = omega arith

-- the fields of the pattern, without and with the sign's bit
module _ (k q : ℕ) (s : Bool) (p : (2 ^ 52 ≤ q) × (q < 2 ^ 53) × (k ≤ 2045)) where
  abbrev rest : ℕ
  rest = (k + 1) * 2 ^ 52 + (q - 2 ^ 52)

  abbrev D : q - 2 ^ 52 < 2 ^ 52
  D = less-leading q p.1

  plain : s ≡ false → P.Read rest k q s
  plain e = (P.plain_sign k (q - 2 ^ 52) p.2 D ∙ sym e, P.plain_field k (q - 2 ^ 52) p.2 D, P.plain_digits k (q - 2 ^ 52) p.2 D)

  signed : s ≡ true → P.Read (2 ^ 63 + rest) k q s
  signed e = (P.signed_sign k (q - 2 ^ 52) p.2 D ∙ sym e, P.signed_field k (q - 2 ^ 52) p.2 D, P.signed_digits k (q - 2 ^ 52) p.2 D)

minus : (c : Then-negative) → let s = (goal.at.Then-negative c).Start in P.Read (2 ^ 63 + rest s.args.shift s.args.digits s.args.negative s.requires) s.args.shift s.args.digits s.args.negative
minus c = let s = (goal.at.Then-negative c).Start in signed s.args.shift s.args.digits s.args.negative s.requires c.if-negative.true

plus : (c : Else-negative) → let s = (goal.at.Else-negative c).Start in P.Read (rest s.args.shift s.args.digits s.args.negative s.requires) s.args.shift s.args.digits s.args.negative
plus c = let s = (goal.at.Else-negative c).Start in plain s.args.shift s.args.digits s.args.negative s.requires c.if-negative.false

pub float_from_bits-result : goal.float_from_bits-result
float_from_bits-result c =
    let s = (goal.at.float_from_bits-result c).Start in P.pattern_number _ s.args.shift s.args.digits s.args.negative s.requires.2 s.requires.0 (minus c)

pub float_from_bits-result-else-negative : goal.float_from_bits-result-else-negative
float_from_bits-result-else-negative c =
    let s = (goal.at.float_from_bits-result-else-negative c).Start in P.pattern_number _ s.args.shift s.args.digits s.args.negative s.requires.2 s.requires.0 (plus c)

pub returns-then-negative : goal.returns-then-negative
returns-then-negative c =
    let s = (goal.at.returns-then-negative c).Start in from_pattern _ s.args.shift s.args.digits s.args.negative s.requires.2 s.requires.0 s.requires.1 (minus c)

pub returns-else-negative : goal.returns-else-negative
returns-else-negative c =
    let s = (goal.at.returns-else-negative c).Start in from_pattern _ s.args.shift s.args.digits s.args.negative s.requires.2 s.requires.0 s.requires.1 (plus c)
