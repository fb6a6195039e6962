use mathlib.Core.Path.{◌∙◌}
use Rattle.line_form.proofs.Steps.{word_test}
use Rattle.line_form.proofs.has_word.Goals as goal

pub returns : goal.returns
returns c = c.starts_with.ensures.value ∙ word_test c.args.s.now c.args.word.now c.args.at c.min.ensures
