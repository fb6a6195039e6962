use mathlib.Core.Path.{◌≡◌, sym, ap, ◌∙◌}
use mathlib.Core.List.{[], ◌∷◌, ◌++◌}
use Prim.Native.Nat.{ℕ, ◌+◌, ◌*◌, ◌≤◌, ◌<◌, ◌^◌, min}
use native.Mathlib.Omega.{arith}
use lib.IntN.{ℤ, pos, nat_abs}
use lib.ListN.{length, get_or, length-append}
use mir.Syntax.{w64}
use mir.Val.{to_z, of_z}
use mir.ValLaws.{to_z-of_z}
use Rattle.std.specs.List.{between}
use Rattle.std.proofs.Common.{rules}
use Rattle.std.proofs.lemmas.List.Edits.{length-between, get_or-between}
use Rattle.std.proofs.lemmas.Slice.Zip.{zip_turn, zip_end}
use Rattle.integer.proofs.Machine.{small}
use Rattle.integer.proofs.Sum.{sumℕ_none, sumℕ_next}
use Rattle.linear.specs.Slice.{at}
use Rattle.linear.proofs.Carried.{start_place}
use Rattle.linear.proofs.Places.{place, row_ends}
use Rattle.check_margins.proofs.Loads.{load_magnitude}
use Rattle.check_margins.proofs.weighted_load.Goals as goal
use Rattle.check_margins.proofs.weighted_load.Goals.{In-Some, In-None}

-- turn k takes number k of row m, and weight k
module _ (c : In-Some) where
  abbrev k : ℕ
  k = length c.loop-d.yielded

  turn : (k < length (between c.args.row (c.args.row + c.args.n) c.args.defects.now)) × (k < length c.args.weights.now)
      × ((d : ℤ) → c.in-Some.field-0-0.now ≡ get_or (between c.args.row (c.args.row + c.args.n) c.args.defects.now) k d) × ((d : ℤ) → c.in-Some.field-0-1.now ≡ get_or c.args.weights.now k d)
  turn = zip_turn _ _ c.loop-d.yielded c.into_iter-d-iterator.result c.loop-d.d-iterator c.next.new.self c.next.result (search rules) (search rules) c.loop-d.yielded_by (c.in-Some.field-0-0, c.in-Some.field-0-1) c.in-Some.is c.next.ensures.steps

  inside : k < c.args.n
  inside = omega (arith, turn.0, length-between c.args.defects.now c.args.row (c.args.row + c.args.n))

  d_small : nat_abs (at c.args.defects.now (c.args.m * c.args.n + k)) ≤ 2 ^ 46
  d_small = c.requires.column_list.within.magnitudes _ (place c.requires.n_bound.1.0 inside)

  d_read : to_z w64 (of_z w64 c.in-Some.field-0-0.now) ≡ at c.args.defects.now (c.args.m * c.args.n + k)
  d_read =
      let here : c.in-Some.field-0-0.now ≡ at c.args.defects.now (c.args.m * c.args.n + k) =
      turn.2 (pos 0) ∙ get_or-between c.args.defects.now c.args.row (c.args.row + c.args.n) k (pos 0) (omega (arith, inside)) ∙ rw (start_place c.requires.n_bound.1.1) in
      ap (λ (z : ℤ). to_z w64 (of_z w64 z)) here ∙ to_z-of_z w64 _ (small _ (omega (arith, d_small)))

  -- any weight as it is read, of whichever row
  weights_small : (j : ℕ) → j < c.args.n → nat_abs (to_z w64 (of_z w64 (at c.args.weights.now j))) ≤ 1024
  weights_small j l = let h = c.requires.column_list_2.within.magnitudes j l in rw (to_z-of_z w64 (at c.args.weights.now j) (small (at c.args.weights.now j) (omega (arith, h)))) h

  w_small : nat_abs (at c.args.weights.now k) ≤ 1024
  w_small = c.requires.column_list_2.within.magnitudes _ inside

  w_read : to_z w64 (of_z w64 c.in-Some.field-0-1.now) ≡ at c.args.weights.now k
  w_read = ap (λ (z : ℤ). to_z w64 (of_z w64 z)) (turn.3 (pos 0)) ∙ to_z-of_z w64 _ (small _ (omega (arith, w_small)))

pub weigh-sum-requires : goal.weigh-sum-requires
weigh-sum-requires c =
    let s = (goal.at.weigh-sum-requires c).In-Some in
    (load_magnitude c.requires.column_list c.requires.column_list_2 c.requires.n_bound.1.0 (k s) c.requires.n_bound.0 (omega (arith, inside s)) c.loop-d.invariant, (rw (d_read s) (d_small s), search (rules, (turn s).3 (pos 0), weights_small s, inside s)))

pub loop-d-init : goal.loop-d-init
loop-d-init c = sym (sumℕ_none _)

pub loop-d-preserved : goal.loop-d-preserved
loop-d-preserved c =
    let s = (goal.at.loop-d-preserved c).In-Some in
    let next : length (c.loop-d.yielded ++ ((c.in-Some.field-0-0, c.in-Some.field-0-1) ∷ [])) ≡ k s + 1 = length-append c.loop-d.yielded _ in
    rw next ((rw (d_read s, w_read s, c.loop-d.invariant) at c.weigh-sum.ensures) ∙ sym (sumℕ_next _ _))

pub returns : goal.returns
returns c =
    let all : length c.loop-d.yielded ≡ min (length (between c.args.row (c.args.row + c.args.n) c.args.defects.now)) (length c.args.weights.now) = zip_end _ _ c.loop-d.yielded c.into_iter-d-iterator.result c.loop-d.d-iterator c.next.new.self c.next.result (search rules) (search rules) c.loop-d.yielded_by c.in-None.is c.next.ensures.steps in
    let end : length c.loop-d.yielded ≡ c.args.n = omega (arith, all, length-between c.args.defects.now c.args.row (c.args.row + c.args.n), c.requires.column_list_2.long, c.requires.column_list.long, row_ends c.requires.n_bound.1.0 c.requires.n_bound.0, start_place c.requires.n_bound.1.1) in
    rw end at c.loop-d.invariant
