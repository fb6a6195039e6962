use mathlib.Core.Path.{◌≡◌, sym}
use Prim.Native.Nat.{◌+◌, ◌-◌}
use native.Mathlib.Omega.{arith}
use lib.ListN.{length-set}
use Rattle.integer.proofs.Machine.{read}
use Rattle.linear.proofs.Carried.{carried_first, carried_next}
use Rattle.linear.proofs.Written.{written_none, written_more}
use Rattle.check_biased_rows.proofs.Unbiasing.{row_dot_magnitude}
use Rattle.check_arrays.proofs.Filled.{prefix_more}
use Rattle.check_bounds.specs.Limits.{column_magnitude}
use Rattle.check_inverse_bounds.proofs.work_out.Goals as goal
use Rattle.check_inverse_bounds.proofs.work_out.Goals.{After-magnitude-x, In-loop-m, Start}

abbrev turn : After-magnitude-x → In-loop-m
turn c = (goal.at.After-magnitude-x c).In-loop-m

-- what is worked out in this turn
worked : (c : After-magnitude-x) →
    let s = (goal.at.After-magnitude-x c).Start in c.magnitude-x.result ≡ column_magnitude s.args.rows.now s.args.residuals.now s.args.n c.loop-m.m 0
worked c = rw (read _ c.row_dot.type_inv, c.row_dot.ensures) at c.magnitude-x.ensures

pub loop-m-init : goal.loop-m-init
loop-m-init c =
    let s = (goal.at.loop-m-init c).Start in
    let none : s.args.known - s.args.known ≡ 0 = omega arith in (
      (omega arith, s.requires.n_bound.1.0),
      ((rw none (carried_first _ _), s.requires.carried), (s.requires.n_bound.1.1.0, (s.requires.prefix_is, rw none (sym (written_none _ _ _ _))))),
    )

pub magnitude-x-requires : goal.magnitude-x-requires
magnitude-x-requires c =
    let t = (goal.at.magnitude-x-requires c).In-loop-m in
    let s = (goal.at.magnitude-x-requires c).Start in
    rw (read _ c.row_dot.type_inv, c.row_dot.ensures) (omega (arith, row_dot_magnitude s.requires.n_bound.0 (s.requires.biased_rows.0.each t.loop-m.m t.loop-m-test.true).small s.requires.biased_rows.1.small))

pub loop-m-preserved : goal.loop-m-preserved
loop-m-preserved c =
    let l = c.loop-m in
    let s = (goal.at.loop-m-preserved c).Start in
    let i = l.invariant in
    let more : l.m + 1 - s.args.known ≡ l.m - s.args.known + 1 = omega (arith, i.0.0) in
    let there : s.args.known + (l.m - s.args.known) ≡ l.m = omega (arith, i.0.0) in (
      (omega (arith, i.0.0), omega (arith, c.loop-m-test.true)),
      (
        (rw more (carried_next i.1.0.0), carried_next i.1.0.1),
        (
          simp length-set i.1.1.0,
          (
            prefix_more _ _ _ _ _ i.1.1.1.0 (omega arith) (worked (goal.at.loop-m-preserved c).After-magnitude-x),
            rw more (written_more _ _ _ _ (l.m - s.args.known) i.1.1.1.1 i.1.0.0.is (rw there (worked (goal.at.loop-m-preserved c).After-magnitude-x))),
          ),
        ),
      ),
    )
