-- The theorems for specs/Paper02, a theorem for each statement.
use mathlib.Core.Path.{sym, subst, ◌∙◌}
use Rattle.entry.specs.Limit.{EntryLimit}
use Rattle.entry.proofs.Limit.{entry_limit, paper_limit}
use Rattle.promises.specs.Paper02 as paper
use Rattle.promises.proofs.Demands.{accepted_encloses}
use Rattle.promises.proofs.Document01.{entered, limited}

pub paper_entry : paper.PaperEntry
paper_entry v b r = (entered _ 10 4 v b r ∙ paper_limit.0.0, limited _ 10 4 v b r ∙ paper_limit.0.1.1, paper_limit.0.1.0)

pub entry_encloses : paper.EntryEncloses
entry_encloses P E L a = let x = accepted_encloses P E L a in (x.entry_at_b, x.entry)

pub entry_least : paper.EntryLeast
entry_least x e s v b r = subst (EntryLimit s x e) (sym (limited x e s v b r)) (entry_limit s x e)
