use mathlib.Core.Path.{◌≡◌, sym, ◌∙◌}
use Prim.Native.Nat.{ℕ, ◌^◌}
use native.Mathlib.Omega.{arith}
use native.Mathlib.Nat.{mul-le-mul_right}
use lib.IntN.{nat_abs}
use lib.ListN.{get_or}
use Rattle.check_biased_rows.specs.Biased.{unbiased_rows}
use Rattle.check_bounds.proofs.Column.{slack_sum, no_slack_sum}
use Rattle.check_bounds.proofs.add_slacks.Goals as goal
use Rattle.check_bounds.proofs.add_slacks.Goals.{After-slack_of, In-loop-m, Start}

-- the magnitude that is read in this turn is that of the entry
as_before : (t : In-loop-m) → get_or t.loop-m.magnitudes t.loop-m.m 0 ≡ get_or t.args.magnitudes.now t.loop-m.m 0
as_before t = t.loop-m.invariant.1.1.1.1 t.loop-m.m (omega arith)

pub returns-then-sum_of-eq0 : goal.returns-then-sum_of-eq0
returns-then-sum_of-eq0 c =
    let s = (goal.at.returns-then-sum_of-eq0 c).Start in
    record { each = λ m l. omega (arith, no_slack_sum s.args.n (λ (j : ℕ). nat_abs (unbiased_rows s.args.rows.now s.args.n m j)) (λ (j : ℕ). get_or s.args.slacks.now j 0) (sym c.sum_of.ensures ∙ c.if-sum_of-eq0.true)) }

pub overflow_add-magnitudes : goal.overflow_add-magnitudes
overflow_add-magnitudes c =
    let t = (goal.at.overflow_add-magnitudes c).After-slack_of in
    let s = (goal.at.overflow_add-magnitudes c).Start in
    rw (c.slack_of.ensures, as_before (goal.at.overflow_add-magnitudes c).In-loop-m)
    (omega (
      arith,
      s.requires.by_index_2 t.loop-m.m t.loop-m-test.true,
      slack_sum s.args.slacks.now s.args.n (omega arith) (s.requires.biased_rows.each t.loop-m.m t.loop-m-test.true) s.requires.by_index,
      mul-le-mul_right (2 ^ 50) s.requires.n_bound.0,
    ))
