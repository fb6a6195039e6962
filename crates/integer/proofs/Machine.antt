-- Laws of machine integers: which numbers fit an i64, and that a value read back from its bits is the value.
--   small — a number below 2 ^ 63 in absolute value fits
--   read  — what the machine reads back of a parameter, an element (`.given`) or a call's result (`.ok`) is the number itself
use mathlib.Core.Path.{◌≡◌}
use Prim.Native.Nat.{◌<◌, ◌^◌}
use native.Mathlib.Omega.{arith}
use lib.IntN.{ℤ, pos, negsuc, nat_abs}
use lib.Signed.{mag}
use mir.Syntax.{w64}
use mir.Val.{SFits, to_z, of_z}
use mir.ValLaws.{to_z-of_z}

pub small : (z : ℤ) → nat_abs z < 2 ^ 63 → SFits w64 z
small (pos n) h = record { sfits = h }
small (negsuc n) h = record { sfits = omega arith }

pub read : (z : ℤ) → mag z < 2 ^ 63 → to_z w64 (of_z w64 z) ≡ z
read z h = to_z-of_z w64 z (record { sfits = h })
