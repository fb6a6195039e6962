-- What a converter says and writes. Document 02, Paper 14: "A converter takes any file whose every line the desk accepts, end among them [..] The answer is
-- the new file's length, and the buffer past it stays as it was. [..] (The desk's refusals first, and 15 where the file stops before an end. New 22, after
-- them, if any tolerance is above 0, or the output buffer is shorter than the new file; nothing is written.)"
--   Converted      — the answer: the new file's length, or a refusal
--   convert_code r — what an answer says, in the documents' numbers: nothing where a file is written;  length_of r — the length it gives; 0 on a refusal
--   some_tolerance P — a tolerance is above 0
--   conversion_order file room — the tests of a file whose lines are all accepted, for a buffer of the length room
--   convert_answer file room — what is said: the loader's first refusal of a line, with its count for 13, or what these tests say
--   Delivered code text old new r — the answer r says this, and gives the text's length where nothing is said, 0 on a refusal; the buffer, `old` before the
--     call and `new` after it, starts with the text and past it is as before where nothing is said, and is all as before on a refusal
--   ConvertedAs file old new r — the contract of `convert`: what is said of the file is delivered, with its new file
--   refusal_numbers file room — what is said in the numbers of a refusal's line, as `register` prints it: with the number of the line where a line is refused
--     by its number alone, else with 0;  converted_text file — what the program prints: that line, or the new file
--   ConvertedAt     — the contract of the call that the program makes: the answer, and the number of the line to print
use Rattle.std.specs.Prelude.{Bool, not, ◌||◌, List, [], ◌∷◌, ◌++◌, ◌≡◌, ℕ, ltb, length, drop, Result, Ok, Err}
use Rattle.integer.specs.Finite.{largest}
use Rattle.rules.specs.Order.{Test, number, verdict, if_accepted, or_else}
use Rattle.rules.specs.Refusal.{number_of, values_of}
use Rattle.enclosure.specs.Problem.{Problem}
use Rattle.loader_progress.specs.Progress.{ended}
use Rattle.loader_runs.specs.Read.{reading_of}
use Rattle.listing_refusal.specs.Refused.{printed}
use Rattle.file_check.specs.Judged.{line_or}
use Rattle.listing.specs.Listing.{problem_in}
use Rattle.convert_spec.specs.declared.Conversion.{Conversion}
use Rattle.convert_spec.specs.declared.ConversionRefusal.{ConversionRefusal}
use Rattle.convert_spec.specs.declared.ConversionRefusal.TheVariants.{Refused, NotConvertible}
use Rattle.convert_spec.specs.File.{new_file}

abbrev pub Converted : Type 0
Converted = Result ℕ ConversionRefusal

abbrev pub convert_code : Converted → List ℕ
convert_code (Ok n) = []
convert_code (Err (Refused r)) = number_of r ∷ values_of r
convert_code (Err NotConvertible) = 22 ∷ []

abbrev pub length_of : Converted → ℕ
length_of (Ok n) = n
length_of (Err (Refused r)) = 0
length_of (Err NotConvertible) = 0

abbrev pub some_tolerance : Problem → Bool
some_tolerance P = ltb 0 (largest P.n P.d)

abbrev pub conversion_order : List ℕ → ℕ → List Test
conversion_order file room =
    number 15 (not (ended (reading_of file).state.loader.stage))
    ∷ number 22 (some_tolerance (problem_in file) || ltb room (length (new_file file)))
    ∷ []

unfoldable pub convert_answer : List ℕ → ℕ → List ℕ
convert_answer file room = or_else (reading_of file).code (verdict (conversion_order file room))

pub record Delivered (code text old new : List ℕ) (r : Converted) : Type 0 where
  pub says : convert_code r ≡ code
  pub size : length_of r ≡ if_accepted code (length text) 0
  pub bytes : new ≡ if_accepted code (text ++ drop (length text) old) old

abbrev pub ConvertedAs : List ℕ → List ℕ → List ℕ → Converted → Type 0
ConvertedAs file old new r = Delivered (convert_answer file (length old)) (new_file file) old new r

abbrev pub refusal_numbers : List ℕ → ℕ → List ℕ
refusal_numbers file room = or_else (printed (reading_of file).line (reading_of file).code) (printed 0 (verdict (conversion_order file room)))

unfoldable pub converted_text : List ℕ → List ℕ
converted_text file = line_or (refusal_numbers file 32768) (new_file file)

pub record ConvertedAt (file old new : List ℕ) (r : Conversion) : Type 0 where
  pub answer : ConvertedAs file old new r.answer
  pub line : r.line ≡ if_accepted (reading_of file).code 0 (reading_of file).line
