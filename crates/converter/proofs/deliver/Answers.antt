use mathlib.Core.Path.{sym, ◌∙◌}
use Rattle.converter.proofs.Handed.{taken_text, held_delivered}
use Rattle.std.proofs.Common.{rules}
use Rattle.converter.proofs.deliver.Goals as goal

pub returns : goal.returns
returns c =
    held_delivered c.args.collected (sym c.has_ended.ensures ∙ c.if-not-has_ended.false) (taken_text c.put_file-length.ensures (search rules)) c.has_tolerance.ensures c.hand_over.ensures
