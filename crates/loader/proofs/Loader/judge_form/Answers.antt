use mathlib.Core.Path.{sym, ◌∙◌}
use Rattle.loader_progress.proofs.Progress.{placed_32}
use Rattle.loader.proofs.Loader.judge_form.Goals as goal

pub is_repeated-requires : goal.is_repeated-requires
is_repeated-requires c =
    placed_32 c.args.self.stage c.args.self.n c.item_of-item.result (sym c.is_early.ensures ∙ c.if-is_early.false) (sym c.is_misplaced.ensures ∙ c.if-is_misplaced.false)
