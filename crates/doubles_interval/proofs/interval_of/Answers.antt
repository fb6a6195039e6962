use mathlib.Core.Path.{ap₂}
use native.Mathlib.Omega.{arith}
use Prim.Native.Nat.{◌<◌, ◌^◌}
use lib.IntN.{pos, nat_abs, ◌+ℤ◌, ◌-ℤ◌}
use lib.Ieee.{Float}
use mir.Syntax.{w64}
use mir.Val.{SFits}
use mir.ValLaws.{to_z-of_z, to_z_pos}
use Rattle.integer.proofs.Absolute.{abs-+, abs_sub}
use Rattle.integer.proofs.Machine.{small}
use Rattle.doubles_interval.proofs.interval_of.Goals as goal
use Rattle.doubles_interval.proofs.interval_of.Goals.{Start}

module _ (c : Start) where
  reaches : c.args.e < 2 ^ 63
  reaches = omega arith

  lower : nat_abs (c.args.x -ℤ pos c.args.e) < 2 ^ 63
  lower = omega (arith, abs_sub c.args.x (pos c.args.e))

  upper : nat_abs (c.args.x +ℤ pos c.args.e) < 2 ^ 63
  upper = omega (arith, abs-+ c.args.x (pos c.args.e))

  low_fits : SFits w64 (c.args.x -ℤ pos c.args.e)
  low_fits = small (c.args.x -ℤ pos c.args.e) lower

  high_fits : SFits w64 (c.args.x +ℤ pos c.args.e)
  high_fits = small (c.args.x +ℤ pos c.args.e) upper

pub returns : goal.returns
returns c =
    let s = (goal.at.returns c).Start in
    ap₂ (λ (l h : Float). record { low = l; high = h }) (simp (to_z-of_z w64, to_z_pos w64, s.ranges.x, reaches (goal.at.returns c).Start, low_fits (goal.at.returns c).Start) at c.end_at.ensures)
    (simp (to_z-of_z w64, to_z_pos w64, s.ranges.x, reaches (goal.at.returns c).Start, high_fits (goal.at.returns c).Start) at c.end_at-2.ensures)
