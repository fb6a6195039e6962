-- The theorems for specs/Paper06, a theorem for each statement.
use mathlib.Core.Path.{sym, ap, ◌∙◌}
use Rattle.line_form.proofs.Spelling.{spelled_read, read_spelled}
use Rattle.line_form.specs.Reading.{reading}
use Rattle.loader_runs.proofs.Changed.{made_changes, becomes_12}
use Rattle.promises.specs.Paper06 as paper

pub answers_changed : paper.AnswersChanged
answers_changed d line l r l' x m =
    let c = made_changes d l line m in (
      λ h. let f = c.0 (λ e. h (x.says ∙ e)) in (f.0, (spelled_read line f.0 f.1.0, f.1.1)),
      λ f e. c.1 (f.0, (ap reading f.1.0 ∙ read_spelled f.0, f.1.1)) (sym x.says ∙ e),
    )

pub changed_answers_are_12 : paper.ChangedAnswersAre12
changed_answers_are_12 d line l r l' x h = x.says ∙ becomes_12 d l line (λ e. h (x.says ∙ e))
