-- Lines at a loader, one after another.
--   after_form u f   — the loader and the lists u after the form f
--   run u lines     — the state after all lines
--   Accepts u lines — every one of them is accepted
--   Made d          — the loader d was made by `new` and `take`, whatever the lines and the lists lent
use Rattle.std.specs.Prelude.{List, [], ◌∷◌, ◌≡◌, ℕ}
use Rattle.line_form.specs.Form.{Form}
use Rattle.loader_values.specs.Item.{item_of}
use Rattle.loader_lists.specs.Lists.{Lists}
use Rattle.loader.specs.declared.Loader.{Loader}
use Rattle.loader.specs.Answer.{line_answer}
use Rattle.loader.specs.Taken.{fresh, loader_after, after, lists_with}
use Rattle.loader_runs.specs.Run.{State, step}

abbrev pub after_form : State → Form → State
after_form u f = record { loader = after u.loader (item_of f); lists = lists_with u.loader f u.lists }

unfoldable pub run : State → List (List ℕ) → State
run u [] = u
run u (line ∷ lines) = run (step u line) lines

abbrev pub Accepts : State → List (List ℕ) → Type 0
Accepts u [] = Unit
Accepts u (line ∷ lines) = (line_answer u.loader u.lists line ≡ []) × Accepts (step u line) lines

pub data Made : Loader → Type 0 where
  new : Made fresh
  taken : {d : Loader} → Made d → (l : Lists) (line : List ℕ) → Made (loader_after d l line)
