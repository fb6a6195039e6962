use mathlib.Core.Path.{sym, ap, ◌∙◌}
use Prim.Native.Nat.{◌+◌, ◌<◌}
use native.Mathlib.Omega.{arith}
use Rattle.linear.specs.Slice.{at}
use Rattle.linear.proofs.Places.{place, square}
use Rattle.integer.proofs.Machine.{read}
use Rattle.linear.proofs.Written.{written_none, written_more}
use Rattle.half_fill.specs.Half.{half_place, half_count}
use Rattle.half_fill.proofs.Places.{place_lower, place_below, count_few}
use Rattle.half_fill.proofs.fill_row.Goals as goal
use Rattle.half_fill.proofs.fill_row.Goals.{In-loop-j}

module _ (c : In-loop-j) where
  there : c.loop-j.place < 528
  there =
      let p = c.requires in
      let e : half_place c.args.i c.loop-j.j < half_count c.args.n = place_below p.n_bound.1.0 (omega arith) in
      rw c.loop-j.invariant.place (omega (arith, e, count_few p.n_bound.0))

  here : c.args.to + c.loop-j.j < 1024
  here = omega (arith, place c.requires.n_bound.1.0 c.loop-j-test.true, square c.requires.n_bound.0, c.requires.to_value.0)

pub loop-j-init : goal.loop-j-init
loop-j-init c = record { in_row = omega arith; place = c.requires.to_value.1 ∙ sym (place_lower (omega arith)); written = sym (written_none _ _ _ _) }

pub offset_bounds-half-place : goal.offset_bounds-half-place
offset_bounds-half-place c = omega (arith, there c)

pub bounds-half-place : goal.bounds-half-place
bounds-half-place c = omega (arith, there c)

pub loop-j-preserved : goal.loop-j-preserved
loop-j-preserved c =
    let l = c.loop-j in
    record {
      in_row = omega arith;
      place = c.next_place-place.ensures;
      written = written_more _ _ _ _ l.j l.invariant.written (omega arith) (read _ c.out-1.given ∙ ap (at c.args.half.now) l.invariant.place);
    }
