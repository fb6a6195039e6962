use Prim.Native.Nat.{◌<◌, ◌^◌}
use native.Mathlib.Omega.{arith}
use lib.IntN.{pos, ◌*ℤ◌}
use mir.Syntax.{w64}
use mir.Val.{SFits}
use mir.ValLaws.{to_z-of_z, to_z_pos}
use Rattle.integer.proofs.Machine.{small}
use Rattle.check_arrays.proofs.Magnitudes.{power_magnitude, scaled_magnitude}
use Rattle.check_residuals.proofs.scaled.Goals as goal
use Rattle.check_residuals.proofs.scaled.Goals.{After-power}

module _ (c : After-power) where
  small_power : c.power.result < 2 ^ 63
  small_power = omega (arith, c.power.ensures, power_magnitude _ c.requires.0)

  fits : SFits w64 (pos (2 ^ c.args.s) *ℤ c.args.b)
  fits = small _ (omega (arith, scaled_magnitude c.args.s c.args.b c.requires.0 c.requires.1))

pub overflow_mul-result : goal.overflow_mul-result
overflow_mul-result c = rw (to_z_pos w64 _ (small_power c), c.power.ensures, to_z-of_z w64 _ c.ranges.b) (fits c)

pub returns : goal.returns
returns c = rw (to_z_pos w64 _ (small_power c), c.power.ensures, to_z-of_z w64 _ c.ranges.b, to_z-of_z w64 _ (fits c))
