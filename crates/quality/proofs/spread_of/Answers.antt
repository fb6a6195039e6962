use mathlib.Core.Path.{◌≡◌}
use Prim.Native.Nat.{◌*◌, ◌≤◌, ◌^◌}
use native.Mathlib.Omega.{arith}
use native.Mathlib.Nat.{mul-le-mul}
use lib.IntN.{nat_abs}
use Rattle.check_arrays.proofs.Magnitudes.{power_magnitude}
use Rattle.quality.proofs.spread_of.Goals as goal
use Rattle.quality.proofs.spread_of.Goals.{After-unsigned_abs}

module _ (c : After-unsigned_abs) where
  weight_is : c.unsigned_abs.result ≡ nat_abs c.args.w
  weight_is = grind arith

  full_is : c.power.result * c.unsigned_abs.result ≡ 2 ^ c.args.t * nat_abs c.args.w
  full_is = rw (c.power.ensures, weight_is)

  full_small : 2 ^ c.args.t * nat_abs c.args.w ≤ 2 ^ 20 * 1024
  full_small = mul-le-mul (power_magnitude _ c.requires.0) c.requires.1.0

pub overflow_mul-result-2 : goal.overflow_mul-result-2
overflow_mul-result-2 c = record { fits = omega (arith, full_is c, full_small c) }
