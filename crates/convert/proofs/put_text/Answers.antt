use mathlib.Core.Path.{ap, ◌∙◌}
use borrow.Author.Rules.{rules}
use Rattle.convert.proofs.Text.{shown_file, shown_refusal, shown_unfit}
use Rattle.std.specs.Prelude.{Err}
use Rattle.convert.proofs.put_text.Goals as goal

pub returns-in-Ok : goal.returns-in-Ok
returns-in-Ok c = shown_file c.args.file.now c.convert_file-conversion.ensures (search rules) c.in-Ok.is

pub returns-in-Refused : goal.returns-in-Refused
returns-in-Refused c =
    shown_refusal c.args.file.now c.convert_file-conversion.ensures (search rules) (search rules) (c.in-Err.is ∙ ap Err c.in-Refused.is) c.put_refusal.ensures

pub returns-in-NotConvertible : goal.returns-in-NotConvertible
returns-in-NotConvertible c =
    shown_unfit c.args.file.now c.convert_file-conversion.ensures (search rules) (search rules) (c.in-Err.is ∙ ap Err c.in-NotConvertible.is) c.put_list.ensures
