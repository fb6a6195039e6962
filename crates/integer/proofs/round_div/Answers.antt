use Rattle.std.proofs.Common.{◌*◌, ◌<◌, ◌^◌, arith}
use lib.IntN.{pos, neg_ℤ, ◌+ℤ◌, ◌-ℤ◌, ◌*ℤ◌}
use lib.Signed.{quot_z}
use mir.Syntax.{w64}
use mir.Val.{SFits}
use mir.ValLaws.{to_z-of_z, to_z_pos}
use Rattle.integer.proofs.Absolute.{abs-*, abs-+, abs_neg}
use Rattle.integer.proofs.Machine.{small}
use Rattle.integer.proofs.Rounding.{abs_quot, round_down, round_up}
use Rattle.integer.proofs.round_div.Goals as goal
use Rattle.integer.proofs.round_div.Goals.{Start}

module _ (c : Start) where
  twice : SFits w64 (pos 2 *ℤ c.args.x)
  twice = small (pos 2 *ℤ c.args.x) (omega (arith, abs-* (pos 2) c.args.x))

  e-small : c.args.d < 2 ^ 63
  e-small = omega arith

  e-twice : 2 * c.args.d < 2 ^ 63
  e-twice = omega arith

  lower : SFits w64 (pos 2 *ℤ c.args.x -ℤ pos c.args.d)
  lower =
      small (pos 2 *ℤ c.args.x -ℤ pos c.args.d)
      (omega (arith, abs-* (pos 2) c.args.x, abs_neg (pos c.args.d), abs-+ (pos 2 *ℤ c.args.x) (neg_ℤ (pos c.args.d))))

  upper : SFits w64 (pos 2 *ℤ c.args.x +ℤ pos c.args.d)
  upper =
      small (pos 2 *ℤ c.args.x +ℤ pos c.args.d)
      (omega (arith, abs-* (pos 2) c.args.x, abs-+ (pos 2 *ℤ c.args.x) (pos c.args.d)))

  lower-quot : SFits w64 (quot_z (pos 2 *ℤ c.args.x -ℤ pos c.args.d) (pos (2 * c.args.d)))
  lower-quot =
      small (quot_z (pos 2 *ℤ c.args.x -ℤ pos c.args.d) (pos (2 * c.args.d)))
      (omega (arith, abs_quot (pos 2 *ℤ c.args.x -ℤ pos c.args.d) (2 * c.args.d), abs-* (pos 2) c.args.x, abs_neg (pos c.args.d), abs-+ (pos 2 *ℤ c.args.x) (neg_ℤ (pos c.args.d))))

  upper-quot : SFits w64 (quot_z (pos 2 *ℤ c.args.x +ℤ pos c.args.d) (pos (2 * c.args.d)))
  upper-quot =
      small (quot_z (pos 2 *ℤ c.args.x +ℤ pos c.args.d) (pos (2 * c.args.d)))
      (omega (arith, abs_quot (pos 2 *ℤ c.args.x +ℤ pos c.args.d) (2 * c.args.d), abs-* (pos 2) c.args.x, abs-+ (pos 2 *ℤ c.args.x) (pos c.args.d)))

pub returns-then-x-lt0 : goal.returns-then-x-lt0
returns-then-x-lt0 c =
    let s = (goal.at.returns-then-x-lt0 c).Start in
    simp (to_z-of_z w64, to_z_pos w64, s.ranges.x, twice s, lower s, e-small s, e-twice s, lower-quot s)
    (round_down s.args.x s.args.d (simp (to_z-of_z w64, s.ranges.x) at c.if-x-lt0.true))

pub returns-else-x-lt0 : goal.returns-else-x-lt0
returns-else-x-lt0 c =
    let s = c.before in
    simp (to_z-of_z w64, to_z_pos w64, s.ranges.x, twice s, upper s, e-small s, e-twice s, upper-quot s)
    (round_up s.args.x s.args.d (simp (to_z-of_z w64, s.ranges.x) at c.if-x-lt0.false))
