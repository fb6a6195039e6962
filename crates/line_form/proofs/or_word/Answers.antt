use Rattle.line_form.proofs.Steps.{or_yes, or_no}
use Rattle.line_form.proofs.or_word.Goals as goal

pub returns-then-head-s : goal.returns-then-head-s
returns-then-head-s c = or_yes _ _ _ _ _ c.if-head-s.true

pub returns : goal.returns
returns c = or_no _ _ _ _ _ c.if-head-s.false (rw c.opening.ensures at c.word_at.ensures)
