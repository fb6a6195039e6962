use mathlib.Core.Path.{◌≡◌}
use Prim.Native.Nat.{◌≤◌, ◌^◌}
use native.Mathlib.Omega.{arith}
use native.Mathlib.Nat.{pow-le-pow_right}
use lib.Pow.{pow_pos}
use mir.Syntax.{w64}
use mir.Val.{to_z, of_z}
use Rattle.integer.specs.Quotient.{round_div}
use Rattle.integer.proofs.Machine.{read}
use Rattle.integer.proofs.Rounding.{round_near, round_magnitude}
use Rattle.entry.specs.Entry.{entry_bound}
use Rattle.entry.proofs.entry_bound.Goals as goal
use Rattle.entry.proofs.entry_bound.Goals.{After-distance, After-round_scaled-value, Start}

small : (c : Start) → 2 ^ c.args.s ≤ 2 ^ 20
small c = pow-le-pow_right {n = 2} (omega arith) {i = c.args.s} {j = 20} c.requires.1

-- the guess and V as they are handed on
guess_is : (c : Start) → to_z w64 (of_z w64 c.args.x) ≡ c.args.x
guess_is c = read c.args.x c.ranges.x.sfits

value_is : (c : After-round_scaled-value) → to_z w64 (of_z w64 c.round_scaled-value.result) ≡ round_div c.args.x (2 ^ c.args.s)
value_is c = rw (read c.round_scaled-value.result c.round_scaled-value.type_inv, c.round_scaled-value.ensures, guess_is c.before.before)

pub distance-requires : goal.distance-requires
distance-requires c =
    let s = (goal.at.distance-requires c).Start in
    rw (guess_is s, value_is c, c.power-steps.ensures)
    (omega (arith, small s), omega (arith, small s, s.requires.0, round_magnitude s.args.x (2 ^ s.args.s)))

pub ceil_sum-requires : goal.ceil_sum-requires
ceil_sum-requires c =
    let s = (goal.at.ceil_sum-requires c).Start in
    rw (c.distance.ensures, guess_is s, value_is (goal.at.ceil_sum-requires c).After-round_scaled-value, c.power-steps.ensures)
    (pow_pos s.args.s, (round_near s.args.x (2 ^ s.args.s) (pow_pos s.args.s), omega (arith, small s)))

pub returns : goal.returns
returns c =
    let d = (goal.at.returns c).After-distance in
    let v = d.before in
    unfold entry_bound in
    rw (d.distance.ensures, guess_is v.before.before, value_is v, v.power-steps.ensures) at c.ceil_sum.ensures
