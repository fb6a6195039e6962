-- The lines of a file at a loader, up to the first refusal (01: "It stops at its first refusal").
--   Reading      — what is said first, in 01's number and values, with the number of its line, from 1; the state then. Nothing is said where every line is
--     accepted: the state is that after the last, and the number that of the last
--   read_from k u lines — the lines at the state u, after k others
--   zeros        — the program's own lists, long enough;  reading_of file — the lines of a file at a new loader, with those lists
use Rattle.std.specs.Prelude.{List, [], ◌∷◌, ℕ, ◌+◌, pos, replicate}
use Rattle.rules.specs.Order.{if_accepted}
use Rattle.loader_lists.specs.Lists.{Lists, lists}
use Rattle.loader.specs.Answer.{line_answer}
use Rattle.loader_runs.specs.Lines.{lines_of}
use Rattle.loader_runs.specs.Run.{State, from_new, step}

pub record Reading : Type 0 where
  pub code : List ℕ
  pub line : ℕ
  pub state : State

unfoldable pub read_from : ℕ → State → List (List ℕ) → Reading
read_from k u [] = record { code = []; line = k; state = u }
read_from k u (line ∷ lines) =
    let code = line_answer u.loader u.lists line in
    if_accepted code (read_from (k + 1) (step u line) lines) (record { code = code; line = k + 1; state = u })

unfoldable pub zeros : Lists
zeros = lists (replicate 1024 (pos 0)) (replicate 32 (pos 0)) (replicate 32 (pos 0)) (replicate 32 (pos 0)) (replicate 1024 (pos 0)) (replicate 32 (pos 0))

abbrev pub reading_of : List ℕ → Reading
reading_of file = read_from 0 (from_new zeros) (lines_of file)
