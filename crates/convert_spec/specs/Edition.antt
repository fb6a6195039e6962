-- The desk of the old edition, document 01's: "Some offices can read only what 01 describes". Its eight forms, right without a tolerance; its order, "8, 14, 1,
-- 2, 11, 3, 4, 12, 13"; its count of missing forms, "out of 5n"; an accepted line puts its numbers and nothing else. The lists are those of
-- loader_lists/specs/Lists.antt, of which the old edition has no list of tolerances: no form of its own gives one. Only theorems cite this file.
--   is_old f       — the form f is one of 01's;  reading_old line — the form of 01 that the line is, if it is one
--   case_old d l line — which of the stated cases hold of a line at the loader d, with the lists l;  answer_old — what is said of the line
--   loader_old, lists_old, step_old — what is left of it
--   read_old k u lines — the lines at the state u, after k others, up to the first refusal;  reading_of_old file — those of a file, at a new desk
--   CompleteOld file — every line is accepted, and the last is an end
use Rattle.std.specs.Prelude.{Bool, true, false, cond, List, [], ◌∷◌, ◌≡◌, ℕ, ◌+◌, ltb, length}
use Rattle.std.proofs.Math.Option.{Option, none, some}
use Rattle.rules.specs.Order.{verdict, if_accepted}
use Rattle.line_form.specs.Form.{Form, problem, scale, row, right, right_within, guess, inverse, weight, end}
use Rattle.line_form.specs.Reading.{reading}
use Rattle.loader_values.specs.Item.{item_of, outside, miscounted}
use Rattle.loader_lists.specs.Lists.{Lists, short_lists}
use Rattle.loader_lists.specs.Put.{put_all}
use Rattle.loader_progress.specs.Before.{incomplete01}
use Rattle.loader_progress.specs.Ungiven.{ungiven}
use Rattle.loader_progress.specs.Progress.{ended, early, misplaced, repeated}
use Rattle.loader_order.specs.Order.{LineCase}
use Rattle.loader.specs.declared.Loader.{Loader}
use Rattle.loader.specs.Answer.{of_form}
use Rattle.loader.specs.Taken.{after}
use Rattle.loader_runs.specs.Before.{order_before}
use Rattle.loader_runs.specs.Lines.{lines_of}
use Rattle.loader_runs.specs.Read.{Reading, zeros}
use Rattle.loader_runs.specs.Run.{State, from_new}

abbrev pub is_old : Form → Bool
is_old (problem n) = true
is_old (scale s t) = true
is_old (row i a others) = true
is_old (right i b) = true
is_old (right_within i b d) = false
is_old (guess i x) = true
is_old (inverse i g others) = true
is_old (weight i w) = true
is_old end = true

abbrev pub reading_old : List ℕ → Option Form
reading_old line = of_form (reading line) none (λ (f : Form). cond (is_old f) (some f) none)

abbrev pub case_old : Loader → Lists → List ℕ → LineCase
case_old d l line = record {
  short = short_lists l;
  ended = ended d.stage;
  long = ltb 320 (length line);
  unspelled = of_form (reading_old line) true (λ (f : Form). false);
  early = of_form (reading_old line) false (λ (f : Form). early d.stage (item_of f));
  misplaced = of_form (reading_old line) false (λ (f : Form). misplaced d.stage d.n (item_of f));
  repeated = of_form (reading_old line) false (λ (f : Form). repeated d.stage d.sets (item_of f));
  outside = of_form (reading_old line) false (λ (f : Form). outside f);
  miscounted = of_form (reading_old line) false (λ (f : Form). miscounted d.n f);
  incomplete = of_form (reading_old line) false (λ (f : Form). incomplete01 d.n d.sets (item_of f));
  missing = ungiven d.n d.sets;
}

unfoldable pub answer_old : Loader → Lists → List ℕ → List ℕ
answer_old d l line = verdict (order_before (case_old d l line))

unfoldable pub loader_old : Loader → Lists → List ℕ → Loader
loader_old d l line = if_accepted (answer_old d l line) (of_form (reading_old line) d (λ (f : Form). after d (item_of f))) d

unfoldable pub lists_old : Loader → Lists → List ℕ → Lists
lists_old d l line = if_accepted (answer_old d l line) (of_form (reading_old line) l (λ (f : Form). put_all d.n f l)) l

abbrev pub step_old : State → List ℕ → State
step_old u line = record { loader = loader_old u.loader u.lists line; lists = lists_old u.loader u.lists line }

unfoldable pub read_old : ℕ → State → List (List ℕ) → Reading
read_old k u [] = record { code = []; line = k; state = u }
read_old k u (line ∷ lines) =
    let code = answer_old u.loader u.lists line in
    if_accepted code (read_old (k + 1) (step_old u line) lines) (record { code = code; line = k + 1; state = u })

abbrev pub reading_of_old : List ℕ → Reading
reading_of_old file = read_old 0 (from_new zeros) (lines_of file)

pub record CompleteOld (file : List ℕ) : Type 0 where
  pub lines : (reading_of_old file).code ≡ []
  pub end : ended (reading_of_old file).state.loader.stage ≡ true
