use mathlib.Core.Path.{◌≡◌, refl}
use mathlib.Core.Bool.{false}
use Prim.Native.Nat.{ℕ, suc, ◌+◌, ◌-◌, ◌<◌, ◌≤◌, ◌^◌}
use native.Mathlib.Omega.{arith}
use native.Mathlib.Nat.{lt_of_le_of_lt}
use borrow.Author.Tests.{le-ltb}
use lib.IntN.{ℤ, pos, negsuc, nat_abs, ◌-ℤ◌}
use mir.Syntax.{w64}
use mir.Val.{SFits, to_z, of_z}
use mir.ValLaws.{to_z-of_z, to_z_pos}
use Rattle.integer.proofs.Difference.{zz}
use Rattle.integer.proofs.Machine.{read}
use Rattle.integer.proofs.Union.{union_left, union_right}
use Rattle.check_arrays.specs.Parts.{above_allowed}
use Rattle.check_residuals.proofs.add_far.Goals as goal
use Rattle.check_residuals.proofs.add_far.Goals.{After-magnitude, Start}

-- 2^62 − 1, and how much z lies above a
abbrev excess : ℤ → ℕ → ℕ
excess (pos a) z = 4611686018427387903 + z - a
excess (negsuc a) z = 4611686018427387903 + z + suc a

excess-is : (a : ℤ) (z : ℕ) → nat_abs a ≤ 2 ^ 25 → pos (4611686018427387903 + z) -ℤ a ≡ pos (excess a z)
excess-is (pos a) z h = simp zz (omega arith)
excess-is (negsuc a) z h = refl

excess-most : (a : ℤ) (z : ℕ) → nat_abs a ≤ 2 ^ 25 → z ≤ 2 ^ 46 → excess a z < 2 ^ 63
excess-most (pos a) z h l = omega arith
excess-most (negsuc a) z h l = omega arith

excess-not-above : (a z : ℤ) → excess a (nat_abs z) < 2 ^ 62 → above_allowed a z ≡ false
excess-not-above (pos a) z h = le-ltb a (nat_abs z) (omega arith)
excess-not-above (negsuc a) z h = absurd (omega arith)

module _ (c : After-magnitude) where
  measured : c.magnitude.result ≡ nat_abs c.args.z
  measured = rw (read _ c.ranges.z.sfits) at c.magnitude.ensures

  raised : 4611686018427387903 + c.magnitude.result < 2 ^ 63
  raised = omega (arith, measured, c.requires.1)

  distance : to_z w64 (4611686018427387903 + c.magnitude.result) -ℤ to_z w64 (of_z w64 c.args.allowed) ≡ pos (excess c.args.allowed (nat_abs c.args.z))
  distance = rw (to_z_pos w64 _ raised, measured, read _ c.ranges.allowed.sfits) (excess-is c.args.allowed (nat_abs c.args.z) c.requires.0)

  fits : SFits w64 (pos (excess c.args.allowed (nat_abs c.args.z)))
  fits = record { sfits = excess-most c.args.allowed (nat_abs c.args.z) c.requires.0 c.requires.1 }

pub returns : goal.returns
returns c =
    let s = (goal.at.returns c).Start in
    let w = excess s.args.allowed (nat_abs s.args.z) in
    rw (distance c, to_z-of_z w64 _ (fits c)) (
      union_left s.args.all w,
      λ l. excess-not-above s.args.allowed s.args.z (lt_of_le_of_lt (union_right s.args.all w) l),
    )
