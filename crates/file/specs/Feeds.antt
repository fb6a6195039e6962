-- Where the first line feed of a file is not; cited by the contracts inside.
--   FeedWithin file at k b — where b is false, none of the k bytes from a place on ends a line
use Rattle.std.specs.Prelude.{Bool, false, List, ◌≡◌, ℕ, ◌+◌, drop}
use Rattle.loader_runs.specs.Length.{line_length}

abbrev pub FeedWithin : List ℕ → ℕ → ℕ → Bool → Type 0
FeedWithin file at k b = b ≡ false → at + k + line_length (drop (at + k) file) ≡ at + line_length (drop at file)
