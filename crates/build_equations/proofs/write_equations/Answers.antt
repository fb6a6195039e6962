use mir.Val.{SFits}
use mir.ValLaws.{to_z-of_z}
use mir.Syntax.{w64}
use Rattle.build_equations.proofs.Places.{rows_none, row_start, row_room, row_length, row_written}
use Rattle.build_equations.proofs.Rows.{row_matrix, row_right}
use Rattle.build_equations.specs.Kept.{kept_matrix}
use Rattle.integer.proofs.Sum.{sumℕ_none}
use Rattle.linear.proofs.Written.{written_none, written_more}
use lib.ListN.{length, length-set}
use native.Mathlib.Omega.{arith}
use Prim.Native.Nat.{◌+◌, ◌≤◌}
use mathlib.Core.Path.{sym, ◌∙◌}
use Rattle.std.proofs.Common.{rules}
use Rattle.build_equations.proofs.write_equations.Goals as goal
use Rattle.build_equations.proofs.write_equations.Goals.{After-count_of-n, After-width_of-width}

-- the row of a turn has room
row-room : (c : After-width_of-width) → c.loop-i.start + c.width_of-width.result ≤ length c.args.matrix.now
row-room c =
    let s = (goal.at.After-width_of-width c).After-count_of-n in
    row_room c.args.layout s.count_of-n.result c.loop-i.i c.loop-i.invariant.1 c.width_of-width.ensures.0 c.loop-i-test.true (rw s.count_of-n.ensures s.requires.n_in_bounds.0)

pub loop-i-init : goal.loop-i-init
loop-i-init c = (search rules, sym (sumℕ_none _), search rules, search rules, sym (rows_none _ _ _), sym (written_none _ _ 1 _))

pub store_row-requires : goal.store_row-requires
store_row-requires c =
    let e = row-room (goal.at.store_row-requires c).After-width_of-width in
    (c.width_of-width.ensures.1, omega (arith, e, c.loop-i.invariant.2))

pub overflow_add-start : goal.overflow_add-start
overflow_add-start c = let e = row-room (goal.at.overflow_add-start c).After-width_of-width in search rules

pub loop-i-preserved : goal.loop-i-preserved
loop-i-preserved c =
    let a = c.args in
    let n = (goal.at.loop-i-preserved c).After-count_of-n in
    let l = c.loop-i in
    let w = c.width_of-width.ensures in
    let o = c.row_of-row in
    let r = c.store_row.ensures in
    let f : SFits w64 o.result.right = search rules in (
      search rules,
      row_start a.layout n.count_of-n.result l.i l.invariant.1 w.0,
      row_length a.layout n.count_of-n.result l.i l.invariant.1 w.0 _ (kept_matrix a.g) a.matrix.now l.matrix r l.invariant.2,
      simp length-set l.invariant.3,
      row_written a.layout n.count_of-n.result l.i l.invariant.1 w.0 _ (kept_matrix a.g) a.matrix.now l.matrix r
          (λ j b. row_matrix a.g l.i o.ensures j (omega (arith, b, w.1, c.requires.ready.size))) l.invariant.4,
      written_more _ _ 1 _ l.i l.invariant.5 (omega arith) (to_z-of_z w64 o.result.right f ∙ row_right a.g l.i o.ensures),
    )
