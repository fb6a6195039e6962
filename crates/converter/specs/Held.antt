-- What the steps of a conversion ask and say; cited by the contracts inside.
--   InRangeAtEnd c — where the end was accepted, every collected number that counts is in its range
--   held_answer c room — what is said of collected numbers: 15, 22
--   unfit tolerance room size — 22 where there is a tolerance, or the room is less than the size
use Rattle.std.specs.Prelude.{Bool, true, ◌||◌, cond, List, [], ◌∷◌, ◌≡◌, ℕ, ltb, length}
use Rattle.loader_progress.specs.Progress.{ended}
use Rattle.loader_runs.specs.Holds.{InRange}
use Rattle.file.specs.declared.Collected.{Collected}
use Rattle.file.specs.Read.{state_of}
use Rattle.convert_spec.specs.Converted.{some_tolerance}
use Rattle.convert_spec.specs.File.{old_file}
use Rattle.convert_writer.specs.Written.{held_by}

abbrev pub InRangeAtEnd : Collected → Type 0
InRangeAtEnd c = ended c.loader.stage ≡ true → InRange (state_of c)

abbrev pub unfit : Bool → ℕ → ℕ → List ℕ
unfit tolerance room size = cond (tolerance || ltb room size) (22 ∷ []) []

abbrev pub held_answer : Collected → ℕ → List ℕ
held_answer c room = cond (ended c.loader.stage) (unfit (some_tolerance (held_by c)) room (length (old_file (held_by c)))) (15 ∷ [])
