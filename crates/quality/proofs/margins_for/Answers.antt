use mathlib.Core.Path.{ap₂, ◌∙◌}
use mathlib.Core.List.{[]}
use Prim.Native.Nat.{ℕ, ◌*◌, ◌-◌, ◌^◌}
use lib.IntN.{nat_abs}
use Rattle.linear.specs.Slice.{at}
use Rattle.enclosure.specs.Problem.{problem_of}
use Rattle.check_arrays.specs.Parts.{cut_margin}
use Rattle.check_arrays.proofs.Filled.{prefix_as}
use Rattle.weights_steps.specs.Steps.{Below, stored_margin}
use Rattle.weights_steps.proofs.Stored.{magnitudes_at, magnitudes_below, load_is}
use Rattle.quality.proofs.margins_for.Goals as goal
use Rattle.quality.proofs.margins_for.Goals.{After-defect_magnitudes-magnitudes, After-loads_of-loads, After-weights_of-list, Start}

-- the weights are at most 1,024
weights-below : (c : After-weights_of-list) → Below c.weights_of-list.result c.args.n 1024
weights-below c = record { each = λ m l. rw (c.weights_of-list.ensures.each m l) (c.requires.column_list.within.magnitudes m l) }

pub returns : goal.returns
returns c =
    let l = (goal.at.returns c).After-loads_of-loads in
    let w = (goal.at.returns c).After-weights_of-list in
    let d = (goal.at.returns c).After-defect_magnitudes-magnitudes in
    let p = d.requires in
    let a = d.args in
    let P = problem_of a.n 0 a.t a.matrix.now [] [] [] a.inverse.now [] in
    prefix_as 0 (stored_margin a.t l.loads_of-loads.result w.weights_of-list.result) (cut_margin (problem_of a.n 0 a.t a.matrix.now [] [] [] a.inverse.now a.weights.now))
    (λ m lm. ap₂ (λ (x y : ℕ). 2 ^ a.t * x - y) (w.weights_of-list.ensures.each m lm)
    (l.loads_of-loads.ensures.each m lm
    ∙ load_is P (λ (k : ℕ). nat_abs (at a.weights.now k)) w.weights_of-list.ensures d.defect_magnitudes-magnitudes.result
    (magnitudes_at a.n a.t a.matrix.now a.inverse.now p.t_bound.0 p.t_bound.1 p.matrix_list p.matrix_list_2 d.defect_magnitudes-magnitudes.ensures) m lm))
    c.margins_from.ensures

pub loads_of-loads-requires-clause-below : goal.loads_of-loads-requires-clause-below
loads_of-loads-requires-clause-below c = let w = (goal.at.loads_of-loads-requires-clause-below c).After-weights_of-list in let s = (goal.at.loads_of-loads-requires-clause-below c).Start in let a = s.args in let p = s.requires in (magnitudes_below a.n a.t a.matrix.now a.inverse.now p.t_bound.0 p.t_bound.1 p.matrix_list p.matrix_list_2 w.defect_magnitudes-magnitudes.ensures, weights-below (goal.at.loads_of-loads-requires-clause-below c).After-weights_of-list)
