use native.Mathlib.Omega.{arith}
use lib.ListN.{get_or, take}
use Rattle.std.proofs.lemmas.List.{get_or-take, length-take}
use Rattle.build_lines.specs.declared.Observation.{Observation}
use Rattle.build_lines.specs.Line.{no_observation}
use Rattle.build_gathering.specs.Gathered.{line_at}
use Rattle.build_equations.proofs.Rows.{row_none, row_next, row_end, row_small}
use Rattle.build_equations.proofs.Terms.{same_row}
use Rattle.build_equations.specs.Kept.{Grown}
use mathlib.Core.Path.{◌≡◌, sym, subst, ◌∙◌}
use Prim.Native.Nat.{◌<◌}
use Rattle.build_equations.proofs.row_of.Goals as goal
use Rattle.build_equations.proofs.row_of.Goals.{then-is_at, else-is_at, In-loop-l}

-- the line of a turn
below : (c : In-loop-l) → c.loop-l.l-index < c.args.count
below c = omega (arith, length-take {A = Observation})

line : (c : In-loop-l) → get_or (take c.args.count c.args.seen.now.lines) c.loop-l.l-index no_observation ≡ line_at c.args.seen.now c.loop-l.l-index
unfolding line_at
line c = get_or-take _ _ _ _ (below c)

pub loop-l-init : goal.loop-l-init
loop-l-init c = row_none _ _

pub loop-l-preserved : goal.loop-l-preserved
loop-l-preserved c =
    let t = (goal.at.loop-l-preserved c).In-loop-l in
    let i = c.loop-l in
    let l = get_or (take c.args.count c.args.seen.now.lines) i.l-index no_observation in
    row_next c.args.seen.now c.args.k i.l-index i.invariant
    (subst (λ (z : Observation). Grown c.args.k z i.row c.if-is_at.row) (line t)
    (elim c.if-is_at.branch [
      | then-is_at w ↦ subst (Grown c.args.k l i.row) (sym w.row-is) w.grow-row.ensures
      | else-is_at w ↦ subst (Grown c.args.k l i.row) (sym w.row-is) (same_row c.args.k l (sym c.is_at.ensures ∙ w.if-is_at.false) i.row i.invariant.long)
    ]))

pub grow-row-requires-clause-k_bound : goal.grow-row-requires-clause-k_bound
grow-row-requires-clause-k_bound c =
    let t = (goal.at.grow-row-requires-clause-k_bound c).In-loop-l in
    let o = c.requires.1 in
    (c.requires.0, (rw (line t) (o.proper c.loop-l.l-index (below t)), row_small c.args.seen.now c.args.k o (omega (arith, below t)) c.loop-l.invariant))

pub returns : goal.returns
returns c = row_end _ _ (omega (arith, length-take {A = Observation})) (omega (arith, c.requires.1.count_max, length-take {A = Observation})) c.loop-l.invariant
