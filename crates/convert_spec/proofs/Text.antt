-- What the program prints of a file.
--   text_is        — the text, from what is said;  text_refused — the line of a line's refusal
--   answer_numbers — the numbers of the refusal's line, from what is said and the number of the line
--   text_first_bytes — the first 65,536 bytes decide any file: the program may read into one buffer of that size
--   never_too_small — for a complete file without tolerance the program prints the new file: its buffer of 32,768 bytes is long enough
use mathlib.Core.Path.{◌≡◌, refl}
use mathlib.Core.List.{List, [], ◌∷◌}
use Prim.Native.Nat.{ℕ}
use native.Mathlib.Omega.{arith}
use lib.ListN.{take}
use Rattle.rules.specs.Order.{verdict, if_accepted}
use Rattle.enclosure.specs.Demand.{NoTolerance}
use Rattle.loader_runs.specs.Acceptable.{bytes_most}
use Rattle.loader_runs.specs.Read.{reading_of}
use Rattle.listing_refusal.specs.Refused.{printed, refused_of}
use Rattle.file_check.specs.Judged.{line_or}
use Rattle.listing.specs.Listing.{problem_in}
use Rattle.listing.specs.Complete.{Complete}
use Rattle.listing.proofs.FirstBytes.{first_decide}
use Rattle.convert_spec.specs.Converted.{conversion_order, convert_answer, refusal_numbers, converted_text}
use Rattle.convert_spec.specs.File.{new_file}
use Rattle.convert_spec.proofs.Stated.{always_fits}

module _ (file : List ℕ) where
  answer_numbers : (room : ℕ) → refusal_numbers file room ≡ printed (if_accepted (reading_of file).code 0 (reading_of file).line) (convert_answer file room)
  unfolding convert_answer
  answer_numbers room = go (reading_of file).code (reading_of file).line
    where
      go : (w : List ℕ) (k : ℕ) → if_accepted (printed k w) (printed 0 (verdict (conversion_order file room))) (printed k w) ≡ printed (if_accepted w 0 k) (if_accepted w (verdict (conversion_order file room)) w)
      go [] k = refl
      go (n ∷ vs) k = refl

  pub text_is : (w : List ℕ) → convert_answer file 32768 ≡ w → converted_text file ≡ line_or (printed (if_accepted (reading_of file).code 0 (reading_of file).line) w) (new_file file)
  unfolding converted_text
  text_is w e = rw (answer_numbers 32768, e)

  text_refused : {k : ℕ} {vs : List ℕ} → (reading_of file).code ≡ k ∷ vs → converted_text file ≡ refused_of (printed (reading_of file).line (k ∷ vs))
  unfolding converted_text
  text_refused e = rw e

  pub never_too_small : Complete file → NoTolerance (problem_in file) → converted_text file ≡ new_file file
  never_too_small c z = text_is [] (always_fits file 32768 c z (omega arith))

pub text_first_bytes : (s : List ℕ) → converted_text s ≡ converted_text (take bytes_most s)
text_first_bytes = first_decide converted_text (λ s k vs q. text_refused s q)
