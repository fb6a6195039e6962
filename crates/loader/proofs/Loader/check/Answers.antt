use mathlib.Core.Path.{sym, ◌∙◌}
use Rattle.check_spec.specs.Input.{Input, input}
use Rattle.loader_order.proofs.Through.{through_ended, through_open}
use Rattle.loader.proofs.Loader.check.Goals as goal
use Rattle.loader.proofs.Loader.check.Goals.{Start}

abbrev I : Start → Input
I s =
    let a = s.args in
    input a.self.n a.self.s a.self.t a.matrix.now a.right.now a.tolerance.now a.guess.now a.inverse.now a.weights.now a.solution_bounds.now a.inverse_bounds.now

pub returns-then-is_ended : goal.returns-then-is_ended
returns-then-is_ended c = through_ended c.args.self.stage (I (goal.at.returns-then-is_ended c).Start) (sym c.is_ended.ensures ∙ c.if-is_ended.true) c.check.ensures

pub returns : goal.returns
returns c = through_open c.args.self.stage (I (goal.at.returns c).Start) (sym c.is_ended.ensures ∙ c.if-is_ended.false) c.is_short-short.ensures c.not_ended.ensures
