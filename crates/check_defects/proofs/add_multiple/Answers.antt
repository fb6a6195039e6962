use mathlib.Core.Path.{◌≡◌, refl, sym, ap, ◌∙◌}
use Prim.Native.Nat.{ℕ, ◌+◌, ◌*◌, ◌≤◌, ◌<◌}
use native.Mathlib.Omega.{arith}
use lib.IntN.{nat_abs}
use lib.ListN.{get_or, length}
use mir.Syntax.{w64}
use mir.Val.{to_z, of_z}
use mir.ValLaws.{to_z-of_z}
use Rattle.std.specs.List.{between}
use Rattle.std.proofs.lemmas.List.Edits.{get_or-between, length-between}
use Rattle.linear.proofs.Carried.{start_place}
use Rattle.check_biased_rows.specs.Biased.{BiasedRow}
use Rattle.check_biased_rows.specs.Place.{biased_place}
use Rattle.check_biased_rows.proofs.Unbiasing.{slice_at, slice_small}
use Rattle.check_defects.specs.Sums.{half_of}
use Rattle.check_defects.proofs.Halves.{half_room, added_none, added_row}
use Rattle.check_defects.proofs.add_multiple.Goals as goal
use Rattle.check_defects.proofs.add_multiple.Goals.{Start}

module _ (s : Start) where
  x-is : to_z w64 (of_z w64 s.args.x) ≡ s.args.x
  x-is = to_z-of_z w64 s.args.x s.ranges.x

  row : BiasedRow s.args.rows.now s.args.row s.args.n
  row = rw (start_place s.requires.carried) s.requires.biased_row

  -- the half of the sums, as a part of all
  part_long : (half : ℕ) → half ≤ 32 → length (between half (half + s.args.n) s.args.sums.now) ≡ s.args.n
  part_long half h =
      length-between s.args.sums.now half (half + s.args.n) (omega (arith, h, s.requires.n_bound.0, s.requires.sums_len.0)) ∙ omega arith

  part_at : (half j : ℕ) → j < s.args.n → get_or (between half (half + s.args.n) s.args.sums.now) j 0 ≡ get_or s.args.sums.now (half + j) 0
  part_at half j l = get_or-between s.args.sums.now half (half + s.args.n) j 0 (omega arith)

pub returns-then-x-ne0 : goal.returns-then-x-ne0
returns-then-x-ne0 c =
    let s = (goal.at.returns-then-x-ne0 c).Start in
    let half = rw (x-is s) at c.half_of-half.ensures.value in
    let magnitude-is = rw (x-is s) at c.magnitude.ensures in
    let same : length c.add_row.new.sums ≡ s.args.n = c.add_row.auto.sums ∙ part_long s _ c.half_of-half.ensures.within in
    let each : (j : ℕ) → j < s.args.n → get_or c.add_row.new.sums j 0 ≡ get_or s.args.sums.now (half_of s.args.x + j) 0 + nat_abs s.args.x * get_or s.args.rows.now (biased_place s.args.n s.args.k j) 0
    = λ j l. c.add_row.ensures j (omega (arith, same)) ∙ rw (part_at s c.half_of-half.result j l, slice_at (row s) j l, half, magnitude-is, start_place s.requires.carried) refl in
    rw half (added_row _ _ s.args.n s.requires.n_bound.0 s.requires.sums_len.0 _ same s.args.x each)

pub returns-else-x-ne0 : goal.returns-else-x-ne0
returns-else-x-ne0 c = rw (sym (x-is (goal.at.returns-else-x-ne0 c).Start) ∙ ap (to_z w64) c.if-x-ne0.false) (added_none _ _ _)

pub add_row-requires-clause-small_sums : goal.add_row-requires-clause-small_sums
add_row-requires-clause-small_sums c =
    let s = (goal.at.add_row-requires-clause-small_sums c).Start in
    let half = rw (x-is s) at c.half_of-half.ensures.value in
    λ j l. let l : j < s.args.n = omega (arith, part_long s _ c.half_of-half.ensures.within) in
    rw (part_at s c.half_of-half.result j l, half) ((half_room s.args.x s.requires.sums_len.1.0 s.requires.sums_len.1.1).each j l)

pub add_row-requires-clause-small_row : goal.add_row-requires-clause-small_row
add_row-requires-clause-small_row c = slice_small (row (goal.at.add_row-requires-clause-small_row c).Start)
