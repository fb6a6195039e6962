use Prim.Native.Nat.{◌<◌, ◌^◌}
use native.Mathlib.Omega.{arith}
use lib.IntN.{pos, ◌+ℤ◌, ◌-ℤ◌, ◌*ℤ◌}
use mir.Syntax.{w64}
use mir.Val.{SFits}
use mir.ValLaws.{to_z-of_z, to_z_pos}
use Rattle.integer.proofs.Absolute.{abs-+, abs_sub}
use Rattle.integer.proofs.Machine.{small}
use Rattle.check_arrays.proofs.Magnitudes.{power_magnitude}
use Rattle.common_spec.proofs.Magnitudes.{stepped_magnitude}
use Rattle.common_ends.proofs.ends_of.Goals as goal
use Rattle.common_ends.proofs.ends_of.Goals.{After-power-factor, Start}

module _ (c : After-power-factor) where
  abbrev s : Start
  s = (goal.at.After-power-factor c).Start

  small-factor : c.power-factor.result < 2 ^ 63
  small-factor = omega (arith, c.power-factor.ensures, power_magnitude _ s.requires.0)

  small-half : s.args.e < 2 ^ 63
  small-half = omega (arith, s.requires.1.1)

  lower : SFits w64 (s.args.x -ℤ pos s.args.e)
  lower = small (s.args.x -ℤ pos s.args.e) (omega (arith, abs_sub s.args.x (pos s.args.e), s.requires.1))

  upper : SFits w64 (s.args.x +ℤ pos s.args.e)
  upper = small (s.args.x +ℤ pos s.args.e) (omega (arith, abs-+ s.args.x (pos s.args.e), s.requires.1))

  low_end : SFits w64 (pos (2 ^ s.args.k) *ℤ (s.args.x -ℤ pos s.args.e))
  low_end =
      small _ (omega (arith, stepped_magnitude s.args.k (s.args.x -ℤ pos s.args.e) s.requires.0 (omega (arith, abs_sub s.args.x (pos s.args.e), s.requires.1))))

  high_end_lem : SFits w64 (pos (2 ^ s.args.k) *ℤ (s.args.x +ℤ pos s.args.e))
  high_end_lem =
      small _ (omega (arith, stepped_magnitude s.args.k (s.args.x +ℤ pos s.args.e) s.requires.0 (omega (arith, abs-+ s.args.x (pos s.args.e), s.requires.1))))

pub overflow_mul-result : goal.overflow_mul-result
overflow_mul-result c =
    rw (to_z_pos w64 _ (small-factor c), c.power-factor.ensures, to_z_pos w64 _ (small-half c), to_z-of_z w64 _ c.ranges.x, to_z-of_z w64 _ (lower c)) (low_end c)

pub overflow_mul-result-2 : goal.overflow_mul-result-2
overflow_mul-result-2 c =
    rw (to_z_pos w64 _ (small-factor c), c.power-factor.ensures, to_z_pos w64 _ (small-half c), to_z-of_z w64 _ c.ranges.x, to_z-of_z w64 _ (upper c)) (high_end_lem c)

pub returns : goal.returns
returns c = (
  rw (to_z_pos w64 _ (small-factor c), c.power-factor.ensures, to_z_pos w64 _ (small-half c), to_z-of_z w64 _ c.ranges.x, to_z-of_z w64 _ (lower c), to_z-of_z w64 _ (low_end c)),
  rw (to_z_pos w64 _ (small-factor c), c.power-factor.ensures, to_z_pos w64 _ (small-half c), to_z-of_z w64 _ c.ranges.x, to_z-of_z w64 _ (upper c), to_z-of_z w64 _ (high_end_lem c)),
)
