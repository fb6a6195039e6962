-- 02, Paper 14. Files for offices on the old edition.
use Rattle.std.specs.Prelude.{List, [], ◌∷◌, ◌++◌, ◌↔◌, ◌≡◌, ℕ, ◌≤◌, pos, length, drop}
use Rattle.line_form.specs.Form.{problem, scale, end}
use Rattle.loader_values.specs.declared.Part.TheVariants.{Row, Right, Guess, Inverse, Weight}
use Rattle.enclosure.specs.Demand.{NoTolerance}
use Rattle.loader_spelled.specs.Ones.{text_of}
use Rattle.listing.specs.Listing.{problem_in}
use Rattle.listing.specs.Complete.{Complete}
use Rattle.convert_spec.specs.Converted.{convert_code, length_of, ConvertedAs, Converted}
use Rattle.convert_spec.specs.Edition.{CompleteOld}
use Rattle.convert_spec.specs.File.{parts_then, new_file}
use Rattle.convert_spec.specs.Numbers.{SameNumbers}
use Rattle.convert_spec.specs.Promised.{EqualChecks}
use Rattle.convert_spec.specs.Stated.{ConvertStated}
use Rattle.promises.specs.Ways.{Refused}

-- "A converter takes any file whose every line the desk accepts, end among them, and writes problem, scale, rows, right sides without tolerance, guesses, inverse
-- rows and all n weights, each kind by rising i, then end, every line with its line feed" (`parts_then`; `text_of` spells each form with its line feed)
abbrev pub NewFileIs : Type 0
NewFileIs =
    (file : List ℕ) → let P = problem_in file in
    new_file file ≡ text_of (problem (pos P.n) ∷ scale (pos P.s) (pos P.t) ∷ parts_then P (Row ∷ Right ∷ Guess ∷ Inverse ∷ Weight ∷ []) (end ∷ []))

-- "The answer is the new file's length, and the buffer past it stays as it was"
abbrev pub NewFileWritten : Type 0
NewFileWritten =
    (file old new : List ℕ) (r : Converted) → ConvertedAs file old new r → convert_code r ≡ [] →
    (length_of r ≡ length (new_file file)) × (new ≡ new_file file ++ drop (length (new_file file)) old)

-- "Some offices can read only what 01 describes": it is complete by 01's own rules (`CompleteOld`)
abbrev pub OldDeskReads : Type 0
OldDeskReads = (file old new : List ℕ) (r : Converted) → ConvertedAs file old new r → convert_code r ≡ [] → CompleteOld (new_file file)

-- "The old and new file lead to equal checks"
abbrev pub ChecksEqual : Type 0
ChecksEqual = (file old new : List ℕ) (r : Converted) → ConvertedAs file old new r → convert_code r ≡ [] → EqualChecks file (new_file file)

-- "Converting a converted file gives equal bytes": into any buffer that these fit
abbrev pub ConvertedAgain : Type 0
ConvertedAgain =
    (file old new old' new' : List ℕ) (r r' : Converted) → ConvertedAs file old new r → convert_code r ≡ [] → length (new_file file) ≤ length old' → ConvertedAs (new_file file) old' new' r' →
    (convert_code r' ≡ []) × (new_file (new_file file) ≡ new_file file)

-- "and two files with equal numbers give equal bytes"
abbrev pub EqualNumbersEqualBytes : Type 0
EqualNumbersEqualBytes =
    (file other old new old' new' : List ℕ) (r r' : Converted) → ConvertedAs file old new r → convert_code r ≡ [] → Complete other → NoTolerance (problem_in other) →
    SameNumbers (problem_in file) (problem_in other) → length (new_file file) ≤ length old' → ConvertedAs other old' new' r' → (convert_code r' ≡ []) × (new_file other ≡ new_file file)

-- "(The desk's refusals first, and 15 where the file stops before an end. New 22, after them, if any tolerance is above 0, or the output buffer is shorter than
-- the new file" (`ConvertStated`)
abbrev pub ConvertRefusesAsStated : Type 0
ConvertRefusesAsStated = (file old new : List ℕ) (r : Converted) → ConvertedAs file old new r → (w : List ℕ) → (convert_code r ≡ w) ↔ ConvertStated file (length old) w

-- "nothing is written.)"
abbrev pub RefusedConversionLeaves : Type 0
RefusedConversionLeaves = (file old new : List ℕ) (r : Converted) → ConvertedAs file old new r → Refused (convert_code r) → new ≡ old
