use native.Mathlib.Omega.{arith}
use lib.IntN.{pos, ◌+ℤ◌}
use mir.Syntax.{w64}
use mir.Val.{SFits}
use mir.ValLaws.{to_z-of_z}
use Rattle.integer.proofs.Absolute.{abs-+}
use Rattle.integer.proofs.Machine.{small}
use Rattle.check_biased_rows.proofs.Unbiasing.{biased_small, unbiased_biased}
use Rattle.check_biased_rows.proofs.biased_of.Goals as goal
use Rattle.check_biased_rows.proofs.biased_of.Goals.{Start}

sum_fits : (c : Start) → SFits w64 (c.args.x +ℤ pos 33554432)
sum_fits c = small (c.args.x +ℤ pos 33554432) (omega (arith, abs-+ c.args.x (pos 33554432)))

pub returns : goal.returns
returns c = simp (to_z-of_z w64, c.ranges.x, sum_fits c) (unbiased_biased c.args.x c.requires, biased_small c.args.x c.requires)
