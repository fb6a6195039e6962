use Rattle.std.proofs.Common.{◌≡◌, sym, ◌∙◌, arith, ◌+◌, ◌*◌, w64, to_z, of_z, lit<}
use Rattle.integer.proofs.Machine.{read}
use Rattle.integer.proofs.Sum.{sum_none, sum_next}
use Rattle.linear.specs.Slice.{at}
use Rattle.linear.proofs.Carried.{carried_first, carried_next}
use Rattle.linear.proofs.Places.{dot_fits}
use Rattle.linear.proofs.Slices.{reach_read}
use Rattle.linear.proofs.dot.Goals as goal
use Rattle.linear.proofs.dot.Goals.{In-loop-j}

-- this turn's numbers, as the machine reads them
module _ (c : In-loop-j) where
  a-is : to_z w64 (of_z w64 (at c.args.a.now c.loop-j.at_a)) ≡ at c.args.a.now (c.args.p + c.loop-j.j * c.args.s)
  a-is = reach_read c.requires.reach (lit< tt) c.loop-j.invariant.1.0.0 c.loop-j-test.true

  x-is : to_z w64 (of_z w64 (at c.args.x.now c.loop-j.at_x)) ≡ at c.args.x.now (c.args.q + c.loop-j.j * c.args.u)
  x-is = reach_read c.requires.reach_2 (lit< tt) c.loop-j.invariant.1.0.1 c.loop-j-test.true

pub loop-j-init : goal.loop-j-init
loop-j-init c = (omega arith, ((carried_first _ _, carried_first _ _), rw (sum_none _)))

pub loop-j-preserved : goal.loop-j-preserved
loop-j-preserved c =
    let t = (goal.at.loop-j-preserved c).In-loop-j in (
      omega arith,
      (
        (carried_next t.loop-j.invariant.1.0.0, carried_next t.loop-j.invariant.1.0.1),
        read c.add_product-sum.result c.add_product-sum.type_inv ∙ (rw (t.loop-j.invariant.1.1, a-is t, x-is t) at c.add_product-sum.ensures) ∙ sym (sum_next _ _),
      ),
    )

pub add_product-sum-requires : goal.add_product-sum-requires
add_product-sum-requires c =
    let t = (goal.at.add_product-sum-requires c).In-loop-j in
    rw (t.loop-j.invariant.1.1, a-is t, x-is t) (dot_fits _ _ _ _ _ _ _ t.requires.reach t.requires.reach_2 t.loop-j.j t.requires.n_bound.0 t.loop-j-test.true)

pub bounds-a-at_a : goal.bounds-a-at_a
bounds-a-at_a c = rw c.loop-j.invariant.1.0.0.is (c.requires.reach.inside _ c.loop-j-test.true)
