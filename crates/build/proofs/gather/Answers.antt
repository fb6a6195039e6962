use Rattle.std.proofs.Common.{ap, ◌≤◌, ◌<◌, ◌∙◌, sym, length, rules, arith}
use Rattle.build_gathering.specs.Gathered.{together, gathered, no_lines}
use Rattle.build_gathering.proofs.Whole.{gathered_none, gathered_next, gathered_end, few_within}
use Rattle.build.proofs.gather.Goals as goal
use Rattle.build.proofs.gather.Goals.{After-few_of-end}

within : (c : After-few_of-end) → c.few_of-end.result ≤ length c.args.observations.now
within c = rw c.few_of-end.ensures (few_within _ _)

pub loop-i-init : goal.loop-i-init
loop-i-init c = (rw c.no_lines-seen.ensures (gathered_none _ _), omega arith)

pub offset_bounds-observations-i : goal.offset_bounds-observations-i
offset_bounds-observations-i c =
    let w = within (goal.at.offset_bounds-observations-i c).After-few_of-end in
    let l : c.loop-i.i < length c.args.observations.now = omega arith in
    search rules

pub bounds-observations-i : goal.bounds-observations-i
bounds-observations-i c =
    let w = within (goal.at.bounds-observations-i c).After-few_of-end in omega arith

pub loop-i-preserved : goal.loop-i-preserved
loop-i-preserved c = (rw c.loop-i.invariant.0 at c.add_observation-progress.ensures ∙ sym (gathered_next _ _ _), omega arith)

pub returns : goal.returns
returns c =
    c.as_gathered.ensures ∙ c.loop-i.invariant.0 ∙ gathered_end _ _ (omega arith) (omega arith)
    ∙ ap (gathered (together c.args.start no_lines) c.args.observations.now) c.few_of-end.ensures
