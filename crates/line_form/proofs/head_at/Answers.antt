use Rattle.std.proofs.Common.{◌∙◌, refl}
use Rattle.line_form.specs.Reading.{head_at}
use Rattle.line_form.proofs.Steps.{next_word, last_word}
use Rattle.line_form.proofs.head_at.Goals as goal

pub loop-word-init : goal.loop-word-init
unfolding head_at
loop-word-init c = refl

pub loop-word-preserved : goal.loop-word-preserved
loop-word-preserved c = next_word _ _ _ _ _ _ c.loop-word-test.true c.or_word-head.ensures ∙ c.loop-word.invariant

pub returns : goal.returns
returns c = last_word _ _ _ _ _ c.loop-word-test.false ∙ c.loop-word.invariant
