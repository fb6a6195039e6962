use mathlib.Core.Path.{◌∙◌}
use native.Mathlib.Omega.{arith}
use Rattle.integer.proofs.Sum.{sumℕ_ext}
use Rattle.check_margins.proofs.load_of.Goals as goal
use Rattle.check_margins.proofs.load_of.Goals.{Then-ones}

pub returns-then-ones : goal.returns-then-ones
returns-then-ones c =
    let t = (goal.at.returns-then-ones c).Then-ones in
    c.row_sum.ensures ∙ sumℕ_ext _ _ _ (λ j l. rw (t.requires.j_value t.if-ones.true j l) (omega arith))
