use Rattle.std.proofs.Common.{◌≡◌, ◌+◌, ◌<◌, ℕ, length, ◌*◌, w64, refl, ◌∙◌, arith}
use Rattle.std.proofs.lemmas.List.{length-take}
use Rattle.integer.proofs.Machine.{small}
use Rattle.std.proofs.lemmas.Int.{to_z-of_z}
use Rattle.std.proofs.lemmas.List.Edits.{length-between}
use Rattle.check_biased_rows.specs.Biased.{unbiased}
use Rattle.linear.specs.Slice.{at}
use Rattle.linear.proofs.Carried.{carried_first, carried_next}
use Rattle.check_biased_rows.proofs.Filling.{part_none, part_more, part_whole, part_end, part_sum, part_placed}
use Rattle.check_biased_rows.proofs.bias_row.Goals as goal
use Rattle.check_biased_rows.proofs.bias_row.Goals.{After-biased_of-x}

module _ (c : After-biased_of-x) where
  inside : c.loop-slot.slot-index < c.args.n
  inside = omega (arith, length-take {A = ℕ})

  value : unbiased c.biased_of-x.result ≡ at c.args.xs.now (c.args.start + c.loop-slot.slot-index * c.args.stride)
  value =
      let from = c.loop-slot.invariant.0.is in
      c.biased_of-x.ensures.0 ∙ rw from (to_z-of_z w64 _ (small _ (omega (arith, c.requires.reach.magnitudes _ inside))))

pub loop-slot-init : goal.loop-slot-init
loop-slot-init c = (carried_first _ _, part_none _ _ _)

pub overflow_add-sum : goal.overflow_add-sum
overflow_add-sum c = omega (arith, c.biased_of-x.ensures.1, part_sum (omega (arith, inside c, c.requires.n_bound.0)) c.loop-slot.invariant.1)

pub loop-slot-preserved : goal.loop-slot-preserved
loop-slot-preserved c =
    (carried_next c.loop-slot.invariant.0, part_more c.loop-slot.invariant.1 (omega arith) (omega arith) c.biased_of-x.result (value c) c.biased_of-x.ensures.1)

pub returns : goal.returns
returns c =
    let room = c.requires.n_bound.1.1 in
    let long : length c.loop-slot.slot-items ≡ c.args.n = c.loop-slot.auto.slot-items ∙ omega (arith, length-between c.args.out.now c.args.place (c.args.place + c.args.n) (omega arith)) in
    let part = part_whole (omega (arith, c.loop-slot.auto.slot-index-end, long)) (omega (arith, c.loop-slot-test.false, long)) c.loop-slot.invariant.1 in
    let placed = part_placed (omega arith) long part in
    part_end placed (omega (arith, placed.kept.long)) refl
