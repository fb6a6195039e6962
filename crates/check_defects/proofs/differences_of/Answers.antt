use mathlib.Core.List.{List}
use mathlib.Core.Path.{refl, sym, ap₂, ◌∙◌}
use Prim.Native.Nat.{ℕ}
use native.Mathlib.Omega.{arith}
use lib.IntN.{ℤ, pos}
use Rattle.linear.specs.Written.{written}
use Rattle.linear.proofs.Carried.{carried_first, carried_next, start_place}
use Rattle.check_arrays.proofs.Filled.{columns_none, columns_next, columns_end}
use Rattle.check_arrays.proofs.Columns.{columns_whole}
use Rattle.check_defects.specs.Difference.{number_less, difference}
use Rattle.check_defects.proofs.differences_of.Goals as goal
use Rattle.check_defects.proofs.differences_of.Goals.{In-loop-m, Start}

pub loop-m-init : goal.loop-m-init
loop-m-init c = (omega arith, (carried_first _ _, (refl, sym (columns_none _ _ _))))

pub loop-m-preserved : goal.loop-m-preserved
loop-m-preserved c =
    let t = (goal.at.loop-m-preserved c).In-loop-m in
    let l = t.loop-m in
    let a = t.args in (
      omega arith,
      (
        carried_next l.invariant.1.0,
        (
          c.store_row.ensures.0,
          c.store_row.ensures.1
              ∙ ap₂ (λ (ys : List ℤ) (p : ℕ). written ys l.m a.n (λ (j : ℕ). number_less a.t a.xs.now p a.stride a.rows.now a.n l.m j) a.n) l.invariant.1.1.1 (start_place l.invariant.1.0)
              ∙ sym (columns_next _ _ _ l.m),
        ),
      ),
    )

pub returns : goal.returns
returns c =
    let l = c.loop-m in
    let s = (goal.at.returns c).Start in
    rw (l.invariant.1.1.1 ∙ columns_end _ _ _ l.invariant.0 c.loop-m-test.false)
    (columns_whole (pos 0) _ s.args.n (difference s.args.n s.args.t s.args.xs.now s.args.step s.args.stride s.args.rows.now) s.requires.t_bound.1.1.1.1)
