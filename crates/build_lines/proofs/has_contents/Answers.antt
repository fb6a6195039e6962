use mathlib.Core.Path.{◌∙◌}
use Rattle.std.proofs.Common.{rules}
use Rattle.build_lines.proofs.Laws.{contents_tested}
use Rattle.build_lines.proofs.has_contents.Goals as goal

pub returns : goal.returns
returns c = c.eq.ensures ∙ contents_tested _ _ (search rules)
