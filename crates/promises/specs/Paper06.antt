-- 02, Paper 6. A block pasted twice is told as that. "A user who pastes a block of rows twice and damages the copy gets 3 or 4, and looks in the wrong spot.
-- Repetition and the rules on values overlap" is its reason. "Order of a line from now on": `LineOrdered` of Lines01; "repetition is now tested first":
-- `RepeatedIs12`.
use Rattle.std.specs.Prelude.{List, [], ◌∷◌, ◌↔◌, ◌≡◌, ℕ}
use Rattle.rules.specs.Refusal.{code}
use Rattle.line_form.specs.Form.{Form}
use Rattle.line_form.specs.Spelling.{spell}
use Rattle.loader_values.specs.Item.{item_of}
use Rattle.loader_lists.specs.Lists.{Lists}
use Rattle.loader.specs.Taken.{TakenAs}
use Rattle.loader.specs.declared.Loader.{Loader}
use Rattle.loader.specs.declared.Taken.{Taken}
use Rattle.loader_runs.specs.Before.{answer_before, Becomes12}
use Rattle.loader_runs.specs.Accepts.{Made}

-- "The answers that change are exactly each 3 or 4 for a kind and i given already, i in range, and each 3 for a second problem or scale form" (`Becomes12`;
-- `answer_before` is what was said in 01's order)
abbrev pub AnswersChanged : Type 0
AnswersChanged =
    (d : Loader) (line : List ℕ) (l : Lists) (r : Taken) (l' : Lists) → TakenAs d line l r l' → Made d →
    (code r.outcome ≡ answer_before d l line → ⊥) ↔ ((f : Form) × ((line ≡ spell f) × Becomes12 d (item_of f) (answer_before d l line)))

-- "they become 12"
abbrev pub ChangedAnswersAre12 : Type 0
ChangedAnswersAre12 =
    (d : Loader) (line : List ℕ) (l : Lists) (r : Taken) (l' : Lists) → TakenAs d line l r l' → (code r.outcome ≡ answer_before d l line → ⊥) → code r.outcome ≡ 12 ∷ []
