use native.Mathlib.Omega.{arith}
use Rattle.line_form.proofs.Steps.{word_yes, word_no, word_fits}
use Rattle.line_form.proofs.word_at.Goals as goal

pub overflow_add-result : goal.overflow_add-result
overflow_add-result c =
    let a = c.args in
    omega (arith, word_fits a.s.now a.word.now a.at c.has_word.ensures c.if-has_word.true)

pub returns-then-has_word : goal.returns-then-has_word
returns-then-has_word c = word_yes _ _ _ c.has_word.ensures c.if-has_word.true

pub returns-else-has_word : goal.returns-else-has_word
returns-else-has_word c = word_no _ _ _ c.has_word.ensures c.if-has_word.false
