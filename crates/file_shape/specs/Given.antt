-- What a loader holds as given, from the forms alone (01: 11, 12, 13, 14 and 15; 02, Paper 1: "The count of forms still missing is now out of 4n").
--   missing_of n fs — how many forms are missing of fs: for each kind but the weights, each i from 1 to n of which fs has none
--   GivenBy d fs   — the loader d holds as given just the forms fs: problem, scale and end where one of fs is that form, the form of a kind for the number k
--                    where one of fs is of that kind and number; and it counts as missing those that are missing of fs
use Rattle.std.specs.Prelude.{true, cond, List, ◌↔◌, ◌≡◌, ℕ, suc, ◌≤◌, eqb, ℤ}
use Rattle.integer.specs.Among.{Among}
use Rattle.integer.specs.Finite.{sumℕ}
use Rattle.line_form.specs.Form.{Form, problem, scale, end}
use Rattle.loader_values.specs.declared.Part.{Part}
use Rattle.loader_progress.specs.Progress.{given, counted_parts, total_over, missing, sized, scaled, ended}
use Rattle.loader.specs.declared.Loader.{Loader}
use Rattle.file_shape.specs.Shape.{how_many}

abbrev pub missing_of : ℕ → List Form → ℕ
missing_of n fs = total_over counted_parts (λ (p : Part). sumℕ n (λ (i : ℕ). cond (eqb (how_many p (suc i) fs) 0) 1 0))

pub record GivenBy (d : Loader) (fs : List Form) : Type 0 where
  pub problem_given : (sized d.stage ≡ true) ↔ ((n : ℤ) × Among (problem n) fs)
  pub scale_given : (scaled d.stage ≡ true) ↔ ((s : ℤ) × ((t : ℤ) × Among (scale s t) fs))
  pub end_given : (ended d.stage ≡ true) ↔ Among end fs
  pub part_given : (p : Part) (k : ℕ) → 1 ≤ k → (given d.sets p k ≡ true) ↔ (how_many p k fs ≡ 1)
  pub still_missing : (n : ℕ) → missing n d.sets ≡ missing_of n fs
