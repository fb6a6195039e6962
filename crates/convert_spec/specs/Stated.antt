-- Each answer of a converter written out, with what must not hold before it (02, Paper 14).
--   ConvertStated file room w — w is said of the file, for a buffer of the length room, by its stated case
use Rattle.std.specs.Prelude.{false, List, [], ◌∷◌, ◌≡◌, ℕ, ◌≤◌, ◌<◌, length}
use Rattle.enclosure.specs.Demand.{NoTolerance}
use Rattle.loader_progress.specs.Progress.{ended}
use Rattle.loader_runs.specs.Read.{reading_of}
use Rattle.listing.specs.Listing.{problem_in}
use Rattle.listing.specs.Complete.{Complete}
use Rattle.convert_spec.specs.File.{new_file}

pub data ConvertStated (file : List ℕ) (room : ℕ) : List ℕ → Type 0 where
  -- the desk's refusals: 1 to 4 and 11 to 14, as the loader says them
  line_refused : (k : ℕ) (vs : List ℕ) → (reading_of file).code ≡ k ∷ vs → ConvertStated file room (k ∷ vs)
  -- 15: the file stops before an end
  not_ended : (reading_of file).code ≡ [] → ended (reading_of file).state.loader.stage ≡ false → ConvertStated file room (15 ∷ [])
  -- 22: a tolerance is above 0
  tolerance : Complete file → (i : ℕ) → i < (problem_in file).n → 0 < (problem_in file).d i → ConvertStated file room (22 ∷ [])
  -- 22: the buffer is shorter than the new file
  too_small : Complete file → room < length (new_file file) → ConvertStated file room (22 ∷ [])
  -- none of them
  converted : Complete file → NoTolerance (problem_in file) → length (new_file file) ≤ room → ConvertStated file room []
