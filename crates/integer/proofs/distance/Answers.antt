use Rattle.std.proofs.Common.{◌*◌, ◌≡◌, arith}
use lib.IntN.{pos, nat_abs, ◌-ℤ◌, ◌*ℤ◌}
use mir.Syntax.{w64}
use mir.Val.{SFits}
use mir.ValLaws.{to_z-of_z, to_z_pos}
use Rattle.integer.proofs.Absolute.{abs-*, abs_sub}
use Rattle.integer.proofs.Machine.{small}
use Rattle.integer.proofs.distance.Goals as goal

pub returns : goal.returns
returns c =
    let product_is : nat_abs (pos c.args.d *ℤ c.args.v) ≡ c.args.d * nat_abs c.args.v = abs-* (pos c.args.d) c.args.v in
    let product : SFits w64 (pos c.args.d *ℤ c.args.v) = small (pos c.args.d *ℤ c.args.v) (omega arith) in
    let rest : SFits w64 (c.args.x -ℤ pos c.args.d *ℤ c.args.v) =
    small (c.args.x -ℤ pos c.args.d *ℤ c.args.v) (omega (arith, abs_sub c.args.x (pos c.args.d *ℤ c.args.v))) in
    simp (to_z-of_z w64, to_z_pos w64, c.requires.0, c.ranges.v, c.ranges.x, product, rest) at c.magnitude.ensures
