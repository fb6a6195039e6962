use Rattle.std.proofs.Common.{◌≡◌, ℕ, ◌<◌, ◌^◌, sym, ◌∙◌, length, get_or, arith, rules}
use Rattle.std.proofs.lemmas.List.{length-append}
use native.Mathlib.Nat.{mul-le-mul}
use Rattle.std.proofs.lemmas.Slice.Zip.{zip_turn, zip_end}
use Rattle.integer.proofs.Sum.{sumℕ_none, sumℕ_next, sumℕ_end, sumℕ≤}
use Rattle.check_biased_rows.proofs.low_dot.Goals as goal
use Rattle.check_biased_rows.proofs.low_dot.Goals.{In-Some}

-- this turn's numbers
module _ (c : In-Some) where
  abbrev k : ℕ
  k = length c.loop-x.yielded

  turn : (k < length c.args.a.now) × (k < length c.args.b.now)
      × ((d : ℕ) → c.in-Some.field-0-0.now ≡ get_or c.args.a.now k d) × ((d : ℕ) → c.in-Some.field-0-1.now ≡ get_or c.args.b.now k d)
  turn = zip_turn c.args.a.now c.args.b.now c.loop-x.yielded c.into_iter-x-iterator.result c.loop-x.x-iterator c.next.new.self c.next.result (search rules) (search rules) c.loop-x.yielded_by (c.in-Some.field-0-0, c.in-Some.field-0-1) c.in-Some.is c.next.ensures.steps

pub loop-x-init : goal.loop-x-init
loop-x-init c = sym (sumℕ_none _)

pub add_low-sum-requires : goal.add_low-sum-requires
add_low-sum-requires c =
    let t = turn c in
    let partial = sumℕ≤ (k c) (2 ^ 52) _ (λ j h. mul-le-mul (c.requires.small j (omega arith)) (c.requires.small_2 j (omega arith))) in
    (omega (arith, c.loop-x.invariant, partial), (rw (t.2 0) (c.requires.small _ t.0), rw (t.3 0) (c.requires.small_2 _ t.1)))

pub loop-x-preserved : goal.loop-x-preserved
loop-x-preserved c =
    let h = (goal.at.loop-x-preserved c).In-Some in
    let t = turn h in
    rw (length-append h.loop-x.yielded, c.add_low-sum.ensures, h.loop-x.invariant, t.2 0, t.3 0) (sym (sumℕ_next _ _))

pub returns : goal.returns
returns c =
    let e = zip_end c.args.a.now c.args.b.now c.loop-x.yielded c.into_iter-x-iterator.result c.loop-x.x-iterator c.next.new.self c.next.result (search rules) (search rules) c.loop-x.yielded_by c.in-None.is c.next.ensures.steps in
    c.loop-x.invariant ∙ sumℕ_end _ (omega (arith, e)) (omega (arith, e))
