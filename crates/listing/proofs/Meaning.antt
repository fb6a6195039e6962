-- What a caller may take from `answer_file` and `listing`: whoever gets an acceptance has the limits that enclose and the one height (02, Papers 2 and 12).
--   begins_bounds, bounds_begin — a listing begins with "(bounds " exactly where the file is accepted
--   answered_none — `answer_file` answers 0 for an accepted file alone;  listed_none — `listing` writes "(bounds " first of an accepted file alone
--   answered_encloses, listed_encloses, answered_height, listed_height — what holds then
use mathlib.Core.Path.{◌≡◌, refl, sym, ap, ◌∙◌}
use mathlib.Core.List.{List, [], ◌∷◌}
use Prim.Native.Nat.{ℕ}
use native.Mathlib.Omega.{arith}
use lib.ListN.{get_or, take}
use Rattle.enclosure.specs.Reckoning.{bound, inverse_bound}
use Rattle.enclosure.specs.Demand.{Encloses}
use Rattle.enclosure.specs.Height.{OneHeight}
use Rattle.line_form.specs.Form.{bytes}
use Rattle.listing_report.specs.Report.{report_of}
use Rattle.listing_refusal.specs.Reply.{reply_of}
use Rattle.listing_refusal.specs.declared.FileAnswer.{FileAnswer}
use Rattle.file_check.specs.Judged.{reported_of, line_or}
use Rattle.listing.specs.Listing.{problem_in, answer_of, listing_of, ListedAs, AnsweredAs}
use Rattle.listing.proofs.Answers.{answer_zero}
use Rattle.listing.proofs.Demand.{file_reported, file_encloses, file_height}

-- the second byte of "(refused " is not that of "(bounds "
opening_tells : (l rest : List ℕ) → take 8 (line_or l rest) ≡ bytes "(bounds " → l ≡ []
opening_tells [] rest e = refl
opening_tells (k ∷ vs) rest e = let z : ◌≡◌ {A = ℕ} 114 98 = ap (λ (bs : List ℕ). get_or bs 1 0) e in absurd (omega (arith, z))

number_first : (l : List ℕ) → (reply_of l).number ≡ get_or l 0 0
number_first [] = refl
number_first (k ∷ vs) = refl

module _ (file : List ℕ) where
  pub begins_bounds : take 8 (listing_of file) ≡ bytes "(bounds " → answer_of file ≡ []
  unfolding listing_of
  begins_bounds = opening_tells (answer_of file) (reported_of (problem_in file))

  pub bounds_begin : answer_of file ≡ [] → take 8 (listing_of file) ≡ bytes "(bounds "
  unfolding report_of
  bounds_begin e = rw (file_reported file e) refl

module _ {file old new : List ℕ} {r : FileAnswer} (x : AnsweredAs file old new r) (z : r.reply.number ≡ 0) where
  pub answered_none : answer_of file ≡ []
  answered_none = answer_zero file (sym (number_first (answer_of file)) ∙ rw x.reply at z)

  pub answered_encloses : Encloses (problem_in file) (bound (problem_in file)) (inverse_bound (problem_in file))
  answered_encloses = file_encloses file answered_none

  pub answered_height : OneHeight (problem_in file) (bound (problem_in file))
  answered_height = file_height file answered_none

module _ {file old new : List ℕ} {count : ℕ} (x : ListedAs file old new count) (b : take 8 (take count new) ≡ bytes "(bounds ") where
  pub listed_none : answer_of file ≡ []
  listed_none = begins_bounds file (rw x.bytes at b)

  pub listed_encloses : Encloses (problem_in file) (bound (problem_in file)) (inverse_bound (problem_in file))
  listed_encloses = file_encloses file listed_none

  pub listed_height : OneHeight (problem_in file) (bound (problem_in file))
  listed_height = file_height file listed_none
