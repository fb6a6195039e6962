-- A run of lines at a loader, and what it collects.
--   State, state_with d l — a loader and its lists;  from_new l — the loader of `new`, with the lists l
--   step u line     — the state after a line, accepted or refused
--   forms lines     — the forms that lines are;  with_form — a form, where there is one, before others
use Rattle.std.specs.Prelude.{List, [], ◌∷◌, ℕ}
use Rattle.std.proofs.Math.Option.{Option, none, some}
use Rattle.line_form.specs.Form.{Form}
use Rattle.line_form.specs.Reading.{reading}
use Rattle.loader_lists.specs.Lists.{Lists}
use Rattle.loader.specs.declared.Loader.{Loader}
use Rattle.loader.specs.Taken.{fresh, loader_after, lists_after}

pub record State : Type 0 where
  pub loader : Loader
  pub lists : Lists

abbrev pub state_with : Loader → Lists → State
state_with d l = record { loader = d; lists = l }

abbrev pub from_new : Lists → State
from_new l = record { loader = fresh; lists = l }

abbrev pub step : State → List ℕ → State
step u line = record { loader = loader_after u.loader u.lists line; lists = lists_after u.loader u.lists line }

abbrev pub with_form : Option Form → List Form → List Form
with_form none fs = fs
with_form (some f) fs = f ∷ fs

unfoldable pub forms : List (List ℕ) → List Form
forms [] = []
forms (line ∷ lines) = with_form (reading line) (forms lines)
