use mathlib.Core.Path.{◌≡◌}
use lib.ListN.{drop}
use Rattle.line_form.specs.Reading.{first_of, head_at}
use Rattle.line_form.proofs.head_at.Given as goal

abbrev pub invariant-loop-word : goal.invariant-loop-word
invariant-loop-word l = first_of l.s l.at l.head (drop l.word-index l.word-items) ≡ head_at l.s l.at
