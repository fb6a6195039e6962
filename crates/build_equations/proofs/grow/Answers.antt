use mathlib.Core.Path.{◌≡◌}
use Prim.Native.Nat.{◌≤◌, ◌^◌}
use native.Mathlib.Omega.{arith}
use lib.IntN.{pos, nat_abs, ◌*ℤ◌}
use mir.Syntax.{w64}
use mir.Val.{to_z, of_z}
use mir.ValLaws.{to_z_pos, to_z-of_z}
use Rattle.integer.proofs.Machine.{small}
use Rattle.build_gathering.specs.Gathered.{Proper}
use Rattle.build_equations.specs.Kept.{SmallRow}
use Rattle.build_equations.proofs.Terms.{product_magnitude, product_read, plus_read, minus_read, grown_to, grown_from}
use Rattle.build_equations.proofs.grow.Goals as goal
use Rattle.build_equations.proofs.grow.Goals.{Start}

-- the numbers as the machine reads them
module _ (s : Start) where
  proper : Proper s.args.l
  proper = s.requires.k_bound.1.0

  room : SmallRow s.args.row
  room = s.requires.k_bound.1.1

  weight_is : to_z w64 s.args.l.weight ≡ pos s.args.l.weight
  weight_is = to_z_pos w64 s.args.l.weight (omega (arith, proper.weight))

  product_is : to_z w64 (of_z w64 (to_z w64 s.args.l.weight *ℤ to_z w64 (of_z w64 s.args.l.difference))) ≡ pos s.args.l.weight *ℤ s.args.l.difference
  product_is = product_read s.args.l proper weight_is (to_z-of_z w64 s.args.l.difference (small _ (omega (arith, proper.difference))))

  right_is : to_z w64 (of_z w64 s.args.row.right) ≡ s.args.row.right
  right_is = to_z-of_z w64 s.args.row.right (small _ (omega (arith, room.right)))

  right_fits : nat_abs s.args.row.right ≤ 2 ^ 31
  right_fits = omega (arith, room.right)

  product_fits : nat_abs (pos s.args.l.weight *ℤ s.args.l.difference) ≤ 2 ^ 31
  product_fits = omega (arith, product_magnitude s.args.l proper)

pub returns-then-l-k : goal.returns-then-l-k
returns-then-l-k c =
    let s = (goal.at.returns-then-l-k c).Start in
    grown_to c.args.k c.args.l (proper s) c.requires.k_bound.0 c.args.row (room s).long c.if-l-k.true
    (rw (weight_is s) at c.join.ensures)
    (plus_read (right_is s) (product_is s) (right_fits s) (product_fits s))

pub returns : goal.returns
returns c =
    let s = (goal.at.returns c).Start in
    grown_from c.args.k c.args.l (proper s) c.requires.k_bound.0 c.args.row (room s).long c.if-l-k.false c.requires.l_value
    (rw (weight_is s) at c.join-2.ensures)
    (minus_read (right_is s) (product_is s) (right_fits s) (product_fits s))
