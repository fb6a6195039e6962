-- What 02's Paper 14 promises of a file that is converted: of every file and every room for which `convert_answer` says nothing.
--   complete, untolerant, fits — such a file is complete, its tolerances are 0, and there is room for the new file
--   old_desk     — "Some offices can read only what 01 describes": the desk of 01 accepts every line of the new file, end among them
--   new_count    — its forms are problem, scale and end, and 5n others
--   equal_checks — "The old and new file lead to equal checks": what is said, every limit, and the listing
--   same_limits  — the desk of 01 holds the file's numbers after the new file, and 01's own check of them finds the same limits
--   again        — "Converting a converted file gives equal bytes": it is converted, in any buffer that it fits, and the new file is that file
--   alike        — "two files with equal numbers give equal bytes": where one is converted, so is the other, if it is complete and has no tolerance, in any
--     buffer that the new file fits
--   new_fits     — the new file has at most 21,300 bytes, so there is always room for it in 32,768
use mathlib.Core.Path.{◌≡◌, sym, ap, ◌∙◌}
use mathlib.Core.List.{List, [], ◌∷◌}
use Prim.Native.Nat.{ℕ, zero, suc, ◌+◌, ◌*◌, ◌≤◌}
use native.Mathlib.Nat.{suc-mul}
use native.Mathlib.Omega.{arith}
use lib.ListN.{length}
use Rattle.rules.proofs.Verdicts.{nothing_is_not}
use Rattle.enclosure.specs.Demand.{NoTolerance}
use Rattle.enclosure.specs.Problem.{Problem}
use Rattle.line_form.specs.Form.{Form, end}
use Rattle.loader_values.specs.declared.Part.{Part}
use Rattle.loader_values.specs.declared.Part.TheVariants.{Row, Right, Guess, Inverse, Weight}
use Rattle.loader_runs.specs.Lines.{lines_of}
use Rattle.loader_runs.specs.Run.{forms}
use Rattle.listing.specs.Listing.{problem_in}
use Rattle.listing.specs.Complete.{Complete}
use Rattle.convert_spec.specs.Converted.{convert_answer}
use Rattle.convert_spec.specs.Edition.{CompleteOld}
use Rattle.convert_spec.specs.File.{form_for, rising, parts_then, old_forms, new_file}
use Rattle.convert_spec.specs.Numbers.{SameNumbers}
use Rattle.convert_spec.specs.Promised.{EqualChecks, SameLimits}
use Rattle.convert_spec.specs.Stated.{ConvertStated, line_refused, not_ended, tolerance, too_small, converted}
use Rattle.convert_spec.proofs.Equal.{new_complete, new_complete_old, new_size, equal_answer, equal_listing, equal_check, equal_bound, equal_inverse_bound}
use Rattle.convert_spec.proofs.Limits as limits
use Rattle.convert_spec.proofs.Orders.{equal_bytes}
use Rattle.convert_spec.proofs.Same as same
use Rattle.convert_spec.proofs.Stated.{convert_stated, stated_code}
use Rattle.convert_spec.proofs.Values.{forms_of, same_file, no_tolerance}

-- ---- the forms of a problem
rising_count : (f : ℕ → Form) (i c : ℕ) (rest : List Form) → length (rising f i c rest) ≡ c + length rest
unfolding rising
rising_count f i zero rest = omega arith
rising_count f i (suc c) rest = omega (arith, rising_count f (suc i) c rest)

parts_count : (P : Problem) (ps : List Part) (rest : List Form) → length (parts_then P ps rest) ≡ length ps * P.n + length rest
parts_count P [] rest = omega arith
parts_count P (p ∷ ps) rest = omega (arith, suc-mul (length ps) P.n, rising_count (form_for P p) 0 P.n (parts_then P ps rest), parts_count P ps rest)

forms_count : (P : Problem) → length (old_forms P) ≡ 5 * P.n + 3
unfolding old_forms
forms_count P = omega (arith, parts_count P (Row ∷ Right ∷ Guess ∷ Inverse ∷ Weight ∷ []) (end ∷ []))

-- ---- a file that is converted
pub record Convertible (file : List ℕ) (room : ℕ) : Type 0 where
  pub complete : Complete file
  pub untolerant : NoTolerance (problem_in file)
  pub fits : length (new_file file) ≤ room

stated_nothing : {file : List ℕ} {room : ℕ} {w : List ℕ} → ConvertStated file room w → w ≡ [] → Convertible file room
stated_nothing (line_refused k vs q) e = absurd (nothing_is_not e)
stated_nothing (not_ended q d) e = absurd (nothing_is_not e)
stated_nothing (tolerance c i l h) e = absurd (nothing_is_not e)
stated_nothing (too_small c l) e = absurd (nothing_is_not e)
stated_nothing (converted c z l) e = record { complete = c; untolerant = z; fits = l }

module _ (file : List ℕ) (room : ℕ) (e : convert_answer file room ≡ []) where
  convertible : Convertible file room
  convertible = stated_nothing (convert_stated file room) e

  pub old_desk : CompleteOld (new_file file)
  old_desk = new_complete_old file convertible.complete

  pub new_count : length (forms (lines_of (new_file file))) ≡ 5 * (problem_in file).n + 3
  new_count = ap length (forms_of (problem_in file)) ∙ forms_count (problem_in file)

  pub new_fits : length (new_file file) ≤ 21300
  new_fits = new_size file convertible.complete

  pub equal_checks : EqualChecks file (new_file file)
  equal_checks =
      let c = convertible.complete in
      let z = convertible.untolerant in
      record {
        check = equal_check file c z;
        size = (same_file (problem_in file)).size;
        bounds = equal_bound file c z;
        inverse_bounds = equal_inverse_bound file c z;
        answer = equal_answer file c z;
        listing = equal_listing file c z;
      }

  pub same_limits : (E L : List ℕ) → 32 ≤ length E → 1024 ≤ length L → SameLimits file (new_file file) E L
  same_limits = limits.same_limits file convertible.complete convertible.untolerant

  pub same_again : new_file (new_file file) ≡ new_file file
  same_again = same.file_again (problem_in file)

  pub again : (space : ℕ) → length (new_file file) ≤ space → convert_answer (new_file file) space ≡ []
  again space l = stated_code (new_file file) space (converted (new_complete file convertible.complete) (no_tolerance (problem_in file)) (rw same_again l))

  pub alike : (space : ℕ) → length (new_file file) ≤ space → (other : List ℕ) → Complete other → NoTolerance (problem_in other) → SameNumbers (problem_in file) (problem_in other) →
      (convert_answer other space ≡ []) × (new_file other ≡ new_file file)
  alike space l other c z same =
      let b = equal_bytes file other same in
      (stated_code other space (converted c z (rw (← b) l)), sym b)
