use mathlib.Core.List.{[], ◌∷◌, ◌++◌}
use mathlib.Core.Path.{◌≡◌, sym, ◌∙◌}
use Prim.Native.Nat.{ℕ, ◌+◌, ◌*◌, ◌<◌, min}
use native.Mathlib.Omega.{arith}
use lib.ListN.{length, get_or, length-append}
use Rattle.std.specs.List.{between}
use Rattle.std.proofs.Common.{rules}
use Rattle.std.proofs.lemmas.List.Edits.{length-between, get_or-between}
use Rattle.std.proofs.lemmas.Slice.Zip.{zip_turn, zip_end}
use Rattle.integer.proofs.Sum.{sumℕ_none, sumℕ_next}
use Rattle.linear.proofs.Carried.{start_place}
use Rattle.check_biased_rows.proofs.Unbiasing.{unbiased_magnitude}
use Rattle.check_bounds.proofs.Column.{slack_sum}
use Rattle.check_bounds.proofs.slack_of.Goals as goal
use Rattle.check_bounds.proofs.slack_of.Goals.{In-Some, In-None}

-- turn k takes number k of biased row m, and slack k
module _ (c : In-Some) where
  abbrev k : ℕ
  k = length c.loop-x.yielded

  turn : (k < length (between c.args.row (c.args.row + c.args.n) c.args.rows.now)) × (k < length c.args.slacks.now)
      × ((d : ℕ) → c.in-Some.field-0-0.now ≡ get_or (between c.args.row (c.args.row + c.args.n) c.args.rows.now) k d) × ((d : ℕ) → c.in-Some.field-0-1.now ≡ get_or c.args.slacks.now k d)
  turn =
      zip_turn _ _ c.loop-x.yielded c.into_iter-x-iterator.result c.loop-x.x-iterator c.next.new.self c.next.result
      (search rules) (search rules) c.loop-x.yielded_by (c.in-Some.field-0-0, c.in-Some.field-0-1) c.in-Some.is c.next.ensures.steps

  inside : k < c.args.n
  inside = omega (arith, turn.0, length-between c.args.rows.now c.args.row (c.args.row + c.args.n))

  x_is : c.in-Some.field-0-0.now ≡ get_or c.args.rows.now (c.args.m * (c.args.n + 1) + k) 0
  x_is = turn.2 0 ∙ get_or-between c.args.rows.now c.args.row (c.args.row + c.args.n) k 0 (omega (arith, inside)) ∙ rw (start_place c.requires.carried)

pub add_low-sum-requires : goal.add_low-sum-requires
add_low-sum-requires c =
    let s = (goal.at.add_low-sum-requires c).In-Some in (
      omega (arith, inside s, c.loop-x.invariant, slack_sum c.args.slacks.now (k s) (omega (arith, inside s)) c.requires.biased_row c.requires.by_index),
      (rw (c.unbiased_magnitude.ensures, x_is s) (omega (arith, unbiased_magnitude _ (c.requires.biased_row.small.each (k s) (inside s)))), rw ((turn s).3 0) (omega (arith, c.requires.by_index (k s) (inside s)))),
    )

pub loop-x-init : goal.loop-x-init
loop-x-init c = sym (sumℕ_none _)

pub loop-x-preserved : goal.loop-x-preserved
loop-x-preserved c =
    let s = (goal.at.loop-x-preserved c).In-Some in
    let next : length (c.loop-x.yielded ++ ((c.in-Some.field-0-0, c.in-Some.field-0-1) ∷ [])) ≡ k s + 1 = length-append c.loop-x.yielded _ in
    rw next ((rw (c.unbiased_magnitude.ensures, x_is s, (turn s).3 0, c.loop-x.invariant) at c.add_low-sum.ensures) ∙ sym (sumℕ_next _ _))

pub returns : goal.returns
returns c =
    let all : length c.loop-x.yielded ≡ min (length (between c.args.row (c.args.row + c.args.n) c.args.rows.now)) (length c.args.slacks.now) =
    zip_end _ _ c.loop-x.yielded c.into_iter-x-iterator.result c.loop-x.x-iterator c.next.new.self c.next.result
    (search rules) (search rules) c.loop-x.yielded_by c.in-None.is c.next.ensures.steps in
    let end : length c.loop-x.yielded ≡ c.args.n =
    omega (arith, all, length-between c.args.rows.now c.args.row (c.args.row + c.args.n), c.requires.biased_row.inside, start_place c.requires.carried) in
    rw end at c.loop-x.invariant
