-- How many lines may still be accepted at a loader; it falls at each accepted line (proofs/Acceptable.antt), so the first bytes of a file decide.
--   lines_most — before problem, when n is not known, the forms of 32 equations: problem, scale, 5 · 32 and end
--   acceptable_at s m, acceptable d — the lines that may still be accepted: problem, scale, the forms that were not given, weights among them (`ungiven`), and end
--   line_most  — the bytes of a line at most, with its line feed;  bytes_most — those of a file that are read
use Rattle.std.specs.Prelude.{ℕ, ◌+◌}
use Rattle.loader_progress.specs.Ungiven.{ungiven}
use Rattle.loader_progress.specs.declared.Stage.{Stage}
use Rattle.loader_progress.specs.declared.Stage.TheVariants.{Start, Sized, Scaled, Ended}
use Rattle.loader.specs.declared.Loader.{Loader}

abbrev pub lines_most : ℕ
lines_most = 163

abbrev pub line_most : ℕ
line_most = 321

abbrev pub bytes_most : ℕ
bytes_most = 65536

abbrev pub acceptable_at : Stage → ℕ → ℕ
acceptable_at Start m = lines_most
acceptable_at Sized m = m + 2
acceptable_at Scaled m = m + 1
acceptable_at Ended m = 0

abbrev pub acceptable : Loader → ℕ
acceptable d = acceptable_at d.stage (ungiven d.n d.sets)
