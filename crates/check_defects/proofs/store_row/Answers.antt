use mathlib.Core.Path.{◌≡◌, sym, ◌∙◌}
use Prim.Native.Nat.{ℕ, ◌+◌, ◌*◌, ◌≤◌, ◌<◌, ◌^◌}
use native.Mathlib.Omega.{arith}
use lib.IntN.{ℤ, pos, nat_abs, ◌*ℤ◌}
use lib.ListN.{get_or}
use mir.Syntax.{w64}
use mir.Val.{SFits, to_z, of_z}
use mir.ValLaws.{to_z-of_z}
use Rattle.integer.specs.Finite.{sum}
use Rattle.integer.proofs.Machine.{small, read}
use Rattle.linear.specs.Slice.{at}
use Rattle.linear.proofs.Carried.{carried_first, carried_next}
use Rattle.linear.proofs.Written.{written_none, written_more}
use Rattle.check_biased_rows.specs.Biased.{bias}
use Rattle.check_biased_rows.specs.Place.{biased_place}
use Rattle.check_defects.proofs.Sums.{ups_small, downs_small, biased_small, unit_up, unit_small, sums_less}
use Rattle.check_defects.proofs.store_row.Goals as goal
use Rattle.check_defects.proofs.store_row.Goals.{After-add_rows, After-way_told-1, In-loop-j, Start}

abbrev X : Start → ℕ → ℤ
X s i = at s.args.xs.now (s.args.start + i * s.args.stride)

-- what all biased numbers have too much of
module _ (c : After-add_rows) where
  abbrev start : Start
  start = (goal.at.After-add_rows c).Start

  biased-most : nat_abs (pos bias *ℤ sum start.args.n (X start)) ≤ 2 ^ 50
  biased-most = biased_small (X start) start.requires.t_bound.1.0 start.requires.reach.magnitudes

  biased-fits : SFits w64 (pos bias *ℤ sum start.args.n (X start))
  biased-fits = small (pos bias *ℤ sum start.args.n (X start)) (omega (arith, biased-most))

  total-is : to_z w64 (of_z w64 c.add_rows.result) ≡ sum start.args.n (X start)
  total-is = read c.add_rows.result c.add_rows.type_inv ∙ c.add_rows.ensures.0

  biased_is : to_z w64 (of_z w64 (pos bias *ℤ to_z w64 (of_z w64 c.add_rows.result))) ≡ pos bias *ℤ sum start.args.n (X start)
  biased_is = rw total-is (to_z-of_z w64 _ biased-fits)

  low : (i j : ℕ) → i < start.args.n → j < start.args.n → get_or start.args.rows.now (biased_place start.args.n i j) 0 ≤ 2 ^ 26
  low i j li lj = (start.requires.biased_rows.each i li).small.each j lj

module _ (t : In-loop-j) where
  abbrev before : Start
  before = start (goal.at.In-loop-j t).After-add_rows

  inside : before.args.m < 32
  inside = omega (arith, before.requires.t_bound.1.1.0, before.requires.t_bound.1.0)

  up-most : get_or t.add_unit.new.sums t.loop-j.j 0 ≤ 2 ^ 51
  up-most =
      rw (t.add_unit.ensures, unit_up t.add_rows.new.sums before.args.t before.args.m t.loop-j.j (omega (arith, t.loop-j-test.true, before.requires.t_bound.1.0)))
      (ups_small _ _ _ before.requires.t_bound.1.0 before.requires.reach.magnitudes (low (goal.at.In-loop-j t).After-add_rows) t.add_rows.ensures.1.1 _ t.loop-j-test.true)

  down-most : get_or t.add_unit.new.sums (32 + t.loop-j.j) 0 ≤ 2 ^ 52
  down-most =
      rw t.add_unit.ensures
      (unit_small t.add_rows.new.sums before.args.t before.args.m t.loop-j.j t.add_rows.ensures.1.0 before.requires.t_bound.0 inside
      (downs_small _ _ _ before.requires.t_bound.1.0 before.requires.reach.magnitudes (low (goal.at.In-loop-j t).After-add_rows) t.add_rows.ensures.1.1 _ t.loop-j-test.true))

pub overflow_mul-biased : goal.overflow_mul-biased
overflow_mul-biased c = rw (total-is c) (biased-fits c)

pub add_unit-requires : goal.add_unit-requires
add_unit-requires c =
    let a = (goal.at.add_unit-requires c).After-add_rows in
    let s = (goal.at.add_unit-requires c).Start in (
      s.requires.t_bound.0,
      (omega (arith, s.requires.t_bound.1.1.0, s.requires.t_bound.1.0), downs_small _ _ _ s.requires.t_bound.1.0 s.requires.reach.magnitudes (low (goal.at.add_unit-requires c).After-add_rows) a.add_rows.ensures.1.1 _ s.requires.t_bound.1.1.0),
    )

pub loop-j-init : goal.loop-j-init
loop-j-init c = (omega arith, (carried_first _ _, sym (written_none _ _ _ _)))

pub loop-j-preserved : goal.loop-j-preserved
loop-j-preserved c =
    let t = (goal.at.loop-j-preserved c).In-loop-j in
    let a = (goal.at.loop-j-preserved c).After-add_rows in
    let s = (goal.at.loop-j-preserved c).Start in
    let l = t.loop-j in (
      omega arith,
      (
        carried_next l.invariant.1.0,
        written_more _ _ _ _ l.j l.invariant.1.1 l.invariant.1.0.is
            (read _ c.number_less.type_inv ∙ (rw (biased_is (goal.at.loop-j-preserved c).After-add_rows) at c.number_less.ensures) ∙ sums_less s.args.rows.now s.args.n (X (goal.at.loop-j-preserved c).Start) s.args.t s.args.m s.requires.t_bound.1.0 a.add_rows.ensures.1.0 (inside (goal.at.loop-j-preserved c).In-loop-j) a.add_rows.ensures.1.1 t.add_unit.ensures l.j t.loop-j-test.true),
      ),
    )

pub number_less-requires-clause-biased_bound : goal.number_less-requires-clause-biased_bound
number_less-requires-clause-biased_bound c = let t = (goal.at.number_less-requires-clause-biased_bound c).After-way_told-1 in rw (biased_is (goal.at.number_less-requires-clause-biased_bound c).After-add_rows) (biased-most (goal.at.number_less-requires-clause-biased_bound c).After-add_rows)

pub number_less-requires-clause-up_bound : goal.number_less-requires-clause-up_bound
number_less-requires-clause-up_bound c = let t = (goal.at.number_less-requires-clause-up_bound c).After-way_told-1 in (up-most (goal.at.number_less-requires-clause-up_bound c).In-loop-j, down-most (goal.at.number_less-requires-clause-up_bound c).In-loop-j)
