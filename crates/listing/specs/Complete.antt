-- A file that is complete.
--   Complete file — every line is accepted, and the last is an end
use Rattle.std.specs.Prelude.{true, List, [], ◌≡◌, ℕ}
use Rattle.loader_progress.specs.Progress.{ended}
use Rattle.loader_runs.specs.Read.{reading_of}

pub record Complete (file : List ℕ) : Type 0 where
  pub lines : (reading_of file).code ≡ []
  pub end : ended (reading_of file).state.loader.stage ≡ true
