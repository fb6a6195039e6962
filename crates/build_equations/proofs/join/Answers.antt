use native.Mathlib.Omega.{arith}
use mir.Syntax.{w64}
use mir.ValLaws.{to_z-of_z}
use Rattle.integer.proofs.Machine.{small}
use Rattle.linear.specs.Slice.{at}
use Rattle.build_equations.proofs.Terms.{plus_read, minus_read}
use Rattle.build_equations.proofs.join.Goals as goal

pub returns : goal.returns
returns c =
    let k = c.requires.k_bound_2 in
    let a = to_z-of_z w64 (at c.args.sums c.args.k) (small _ (omega (arith, k.0))) in
    let b = to_z-of_z w64 (at c.args.sums c.args.other) (small _ (omega (arith, k.1.0))) in
    let w = to_z-of_z w64 c.args.weight (small _ (omega (arith, k.1.1))) in
    rw (plus_read a w k.0 k.1.1, minus_read b w k.1.0 k.1.1)
