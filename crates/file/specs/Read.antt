-- What is collected from a file's lines.
--   LinesTakenAs — the contract of `take_lines`: the lines at a new loader, with the lists that are lent
--   state_of r — the loader and the lists;  ReadAs — the contract of `read_file`
use Rattle.std.specs.Prelude.{List, ◌≡◌, ℕ}
use Rattle.rules.specs.Refusal.{code}
use Rattle.loader_lists.specs.Lists.{Lists, lists}
use Rattle.loader_runs.specs.Lines.{lines_of}
use Rattle.loader_runs.specs.Run.{State, from_new}
use Rattle.loader_runs.specs.Read.{read_from, reading_of}
use Rattle.file.specs.declared.Collected.{Collected}
use Rattle.file.specs.declared.LinesTaken.{LinesTaken}

pub record LinesTakenAs (file : List ℕ) (old : Lists) (r : LinesTaken) (new : Lists) : Type 0 where
  pub says : code r.outcome ≡ (read_from 0 (from_new old) (lines_of file)).code
  pub line : r.line ≡ (read_from 0 (from_new old) (lines_of file)).line
  pub state : record { loader = r.loader; lists = new } ≡ (read_from 0 (from_new old) (lines_of file)).state

abbrev pub state_of : Collected → State
state_of r = record { loader = r.loader; lists = lists r.matrix r.right r.tolerance r.guess r.inverse r.weights }

pub record ReadAs (file : List ℕ) (r : Collected) : Type 0 where
  pub says : code r.outcome ≡ (reading_of file).code
  pub line : r.line ≡ (reading_of file).line
  pub state : state_of r ≡ (reading_of file).state
