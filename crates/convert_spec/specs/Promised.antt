-- What 02's Paper 14 promises of a file and its new file, and what an office on the old edition finds with the new file.
--   EqualChecks file other — "The old and new file lead to equal checks": what is said, every limit, and the listing
--   input_old file E L — what the desk of document 01 hands to a check after the file, with the limit lists E and L
--   SameLimits file other E L — the desk of 01 holds, after the file `other`, the numbers of `file`; 01's own check of them (check_spec/specs/Before) accepts wherever
--     the rules in force accept `file`, and wherever it accepts, the limits that it writes are those of the rules in force
use Rattle.std.specs.Prelude.{List, [], ◌≡◌, ℕ, ◌+◌, ◌*◌, ◌<◌, get_or}
use Rattle.enclosure.specs.Reckoning.{bound, inverse_bound}
use Rattle.check_spec.specs.Before.{answer01, solution_after01, inverse_after01}
use Rattle.check_spec.specs.Input.{Input, problem}
use Rattle.check_spec.specs.Order.{checked_of}
use Rattle.loader_runs.specs.Holds.{input_of}
use Rattle.listing.specs.Listing.{problem_in, answer_of, listing_of}
use Rattle.convert_spec.specs.Edition.{reading_of_old}
use Rattle.convert_spec.specs.Numbers.{SameNumbers}

pub record EqualChecks (file other : List ℕ) : Type 0 where
  pub check : checked_of (problem_in other) ≡ checked_of (problem_in file)
  pub size : (problem_in other).n ≡ (problem_in file).n
  pub bounds : (i : ℕ) → i < (problem_in other).n → bound (problem_in other) i ≡ bound (problem_in file) i
  pub inverse_bounds : (i j : ℕ) → i < (problem_in other).n → j < (problem_in other).n → inverse_bound (problem_in other) i j ≡ inverse_bound (problem_in file) i j
  pub answer : answer_of other ≡ answer_of file
  pub listing : listing_of other ≡ listing_of file

abbrev pub input_old : List ℕ → List ℕ → List ℕ → Input
input_old file E L = input_of (reading_of_old file).state E L

pub record SameLimits (file other E L : List ℕ) : Type 0 where
  pub numbers : SameNumbers (problem (input_old other E L)) (problem_in file)
  pub accepts : answer_of file ≡ [] → answer01 (input_old other E L) ≡ []
  pub bounds : answer01 (input_old other E L) ≡ [] → (i : ℕ) → i < (problem_in file).n → get_or (solution_after01 (input_old other E L)) i 0 ≡ bound (problem_in file) i
  pub inverse_bounds : answer01 (input_old other E L) ≡ [] → (i j : ℕ) → i < (problem_in file).n → j < (problem_in file).n →
      get_or (inverse_after01 (input_old other E L)) (i * (problem_in file).n + j) 0 ≡ inverse_bound (problem_in file) i j
