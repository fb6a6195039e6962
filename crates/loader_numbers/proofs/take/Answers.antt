use mathlib.Core.Path.{◌≡◌}
use Rattle.std.specs.Prelude.{Err}
use Rattle.std.proofs.Common.{rules}
use Rattle.rules.specs.Refusal.{Outcome}
use Rattle.loader_numbers.proofs.Taken.{taken_accepted, taken_refused}
use Rattle.loader_lists.specs.Lists.{Lists, lists}
use Rattle.loader_numbers.proofs.take.Goals as goal
use Rattle.loader_numbers.proofs.take.Goals.{After-take-taken, Start}

abbrev lent : Start → Lists
lent s = lists s.args.matrix.now s.args.right.now s.args.tolerance.now s.args.guess.now s.args.inverse.now s.args.weights.now

abbrev left : After-take-taken → Lists
left k =
    let z = k.take-taken.new in
    lists z.matrix z.right z.tolerance z.guess z.inverse z.weights

pub returns : goal.returns
returns c =
    taken_accepted c.args.loader.now {l = lent (goal.at.returns c).Start} {l' = left (goal.at.returns c).After-take-taken} c.from_numbers.ensures c.take-taken.ensures (search rules) c.numbers.ensures

pub returns-in_err-taken : goal.returns-in_err-taken
returns-in_err-taken c =
    let gives : ◌≡◌ {A = Outcome} c.from_residual.result (Err c.in_err-taken.field-0.0) = search rules in
    rw gives (taken_refused c.args.loader.now {l = lent (goal.at.returns-in_err-taken c).Start} {l' = left (goal.at.returns-in_err-taken c).After-take-taken} c.from_numbers.ensures c.take-taken.ensures (search rules))
