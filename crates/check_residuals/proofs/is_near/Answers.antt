use borrow.Author.Tests.{ltb-true}
use mathlib.Core.Bool.{false}
use mathlib.Core.List.{[], ◌∷◌, ◌++◌}
use mathlib.Core.Path.{◌≡◌, ap, ◌∙◌}
use Prim.Native.Nat.{ℕ, ◌+◌, ◌≤◌, ◌<◌, ◌^◌, min}
use native.Mathlib.Omega.{arith}
use lib.IntN.{ℤ, pos, nat_abs}
use lib.ListN.{length, get_or, length-append}
use mir.Syntax.{w64}
use mir.Val.{to_z, of_z}
use mir.ValLaws.{to_z-of_z}
use Rattle.std.proofs.Common.{rules}
use Rattle.std.proofs.lemmas.Slice.Zip.{zip_turn, zip_end}
use Rattle.integer.proofs.Machine.{small}
use Rattle.integer.proofs.Search.{upto}
use Rattle.linear.specs.Slice.{at}
use Rattle.enclosure.specs.Reckoning.{allowed_residual}
use Rattle.check_arrays.specs.Parts.{above_allowed}
use Rattle.check_residuals.proofs.is_near.Goals as goal
use Rattle.check_residuals.proofs.is_near.Goals.{In-Some, In-None}

-- turn k takes residual k, and what row k allows
module _ (c : In-Some) where
  abbrev k : ℕ
  k = length c.loop-z.yielded

  turn : (k < length c.args.column.now) × (k < length c.args.allowed.now)
      × ((d : ℤ) → c.in-Some.field-0-0.now ≡ get_or c.args.column.now k d) × ((d : ℤ) → c.in-Some.field-0-1.now ≡ get_or c.args.allowed.now k d)
  turn =
      zip_turn _ _ c.loop-z.yielded c.into_iter-z-iterator.result c.loop-z.z-iterator c.next.new.self c.next.result
      (search rules) (search rules) c.loop-z.yielded_by (c.in-Some.field-0-0, c.in-Some.field-0-1) c.in-Some.is c.next.ensures.steps

  z_small : nat_abs (at c.args.column.now k) ≤ 2 ^ 46
  z_small = c.requires.within.magnitudes k turn.0

  a_small : nat_abs (at c.args.allowed.now k) ≤ allowed_residual
  a_small = c.requires.column_list.within.magnitudes k turn.0

  z_read : to_z w64 (of_z w64 c.in-Some.field-0-0.now) ≡ at c.args.column.now k
  z_read = ap (λ (z : ℤ). to_z w64 (of_z w64 z)) (turn.2 (pos 0)) ∙ to_z-of_z w64 _ (small _ (omega (arith, z_small)))

  a_read : to_z w64 (of_z w64 c.in-Some.field-0-1.now) ≡ at c.args.allowed.now k
  a_read = ap (λ (z : ℤ). to_z w64 (of_z w64 z)) (turn.3 (pos 0)) ∙ to_z-of_z w64 _ (small _ (omega (arith, a_small)))

pub add_far-all-requires : goal.add_far-all-requires
add_far-all-requires c =
    let s = (goal.at.add_far-all-requires c).In-Some in
    rw (z_read s, a_read s) (a_small s, z_small s)

pub loop-z-preserved : goal.loop-z-preserved
loop-z-preserved c =
    let s = (goal.at.loop-z-preserved c).In-Some in
    let next : length (c.loop-z.yielded ++ ((c.in-Some.field-0-0, c.in-Some.field-0-1) ∷ [])) ≡ k s + 1 = length-append c.loop-z.yielded _ in
    λ low i l. upto (λ (j : ℕ). above_allowed (at c.args.allowed.now j) (at c.args.column.now j) ≡ false) (k s) i (omega (arith, next)) (c.loop-z.invariant (omega (arith, c.add_far-all.ensures.0)))
    (rw (z_read s, a_read s) at (c.add_far-all.ensures.1 low))

pub returns : goal.returns
returns c =
    let all : length c.loop-z.yielded ≡ min (length c.args.column.now) (length c.args.allowed.now) =
    zip_end _ _ c.loop-z.yielded c.into_iter-z-iterator.result c.loop-z.z-iterator c.next.new.self c.next.result
    (search rules) (search rules) c.loop-z.yielded_by c.in-None.is c.next.ensures.steps in
    λ low i l. c.loop-z.invariant (ltb-true _ _ low) i (omega (arith, all, c.requires.column_list.long))
