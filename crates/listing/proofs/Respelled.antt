-- 02, Paper 5: "(right i b) means d = 0, written like a given one": two files whose lines differ only in how a right side without tolerance is spelled.
--   respelled_answer, respelled_listing — what is said of them, and their listings, are equal
--   spelled_out — so they are for 01's whole file with (right 1 (5 0)) for (right 1 5)
use mathlib.Core.Path.{◌≡◌, refl, sym, ap, ◌∙◌}
use mathlib.Core.List.{List, [], ◌∷◌, ◌++◌}
use Prim.Native.Nat.{ℕ, ◌≤◌}
use lib.Dec.{lit≤}
use lib.IntN.{pos, negsuc}
use lib.ListN.{length}
use Rattle.line_numeral.specs.Decimal.{digits, decimal, numeral}
use Rattle.line_form.specs.Form.{Form, problem, scale, row, right, right_within, guess, inverse, weight, end}
use Rattle.line_form.specs.Spelling.{numerals, spell}
use Rattle.loader_runs.specs.Lines.{lines_of}
use Rattle.loader_runs.specs.Read.{Reading, zeros, reading_of}
use Rattle.loader_runs.specs.Respelled.{Respelled, none, same, alone}
use Rattle.loader_runs.specs.Run.{from_new}
use Rattle.loader_runs.proofs.Respelled.{respelled_read}
use Rattle.loader_runs.proofs.Passing.{spelled}
use Rattle.listing_refusal.specs.Refused.{printed}
use Rattle.file_check.specs.Shown.{code_of, shown_of}
use Rattle.listing.specs.Cases.{whole_file, spelled_out_file, whole_listing}
use Rattle.listing.specs.Listing.{answer_of, listing_of}
use Rattle.listing.proofs.Entire.{answer_refused, listing_from, as_checked}
use Rattle.listing.proofs.Table.{whole_forms, whole_spelled, whole_file_lem}

module _ (file file' : List ℕ) (h : Respelled (lines_of file) (lines_of file')) where
  read : reading_of file ≡ reading_of file'
  read = respelled_read 0 (from_new zeros) h

  both : (l : List ℕ) → (reading_of file).code ≡ l → (answer_of file ≡ answer_of file') × (listing_of file ≡ listing_of file')
  both [] e =
      let c = as_checked file e in
      let d = as_checked file' (ap (λ (R : Reading). R.code) (sym read) ∙ e) in
      let states : (reading_of file).state ≡ (reading_of file').state = ap (λ (R : Reading). R.state) read in
      (c.answer ∙ ap code_of states ∙ sym d.answer, c.listing ∙ ap shown_of states ∙ sym d.listing)
  both (k ∷ vs) e =
      let a = answer_refused file e in
      let b = answer_refused file' (ap (λ (R : Reading). R.code) (sym read) ∙ e) in
      let lines : printed (reading_of file).line (k ∷ vs) ≡ printed (reading_of file').line (k ∷ vs) = ap (λ (R : Reading). printed R.line (k ∷ vs)) read in
      (a ∙ lines ∙ sym b, listing_from file (a ∙ lines) ∙ sym (listing_from file' b))

  pub respelled_answer : answer_of file ≡ answer_of file'
  respelled_answer = (both (reading_of file).code refl).0

  pub respelled_listing : listing_of file ≡ listing_of file'
  respelled_listing = (both (reading_of file).code refl).1

-- ---- the whole file: its forms before that line, and after it
abbrev forms_before : List Form
forms_before = problem (pos 2) ∷ scale (pos 4) (pos 4) ∷ row (pos 1) (pos 4) (negsuc 0 ∷ []) ∷ row (pos 2) (negsuc 0) (pos 3 ∷ []) ∷ []

abbrev forms_after : List Form
forms_after =
    right (pos 2) (pos 1)
    ∷ guess (pos 1) (pos 23)
    ∷ guess (pos 2) (pos 13)
    ∷ inverse (pos 1) (pos 4) (pos 1 ∷ [])
    ∷ inverse (pos 2) (pos 1) (pos 6 ∷ [])
    ∷ weight (pos 1) (pos 1)
    ∷ weight (pos 2) (pos 1)
    ∷ end
    ∷ []

abbrev spelled_out_forms : List Form
spelled_out_forms = forms_before ++ (right_within (pos 1) (pos 5) (pos 0) ∷ forms_after)

out_spelled : lines_of spelled_out_file ≡ spelled spelled_out_forms
unfolding lines_of spell numerals numeral decimal digits
out_spelled = refl

few_bytes : length (spell (right_within (pos 1) (pos 5) (pos 0))) ≤ 320
unfolding spell numerals numeral decimal digits
few_bytes = lit≤ tt

-- the same lines, and others after them
respelled_behind : (fs gs hs : List Form) → Respelled (spelled gs) (spelled hs) → Respelled (spelled (fs ++ gs)) (spelled (fs ++ hs))
respelled_behind [] gs hs h = h
respelled_behind (f ∷ fs) gs hs h = same (spell f) (respelled_behind fs gs hs h)

one_respelled : Respelled (spelled whole_forms) (spelled spelled_out_forms)
one_respelled = respelled_behind forms_before (right (pos 1) (pos 5) ∷ forms_after) (right_within (pos 1) (pos 5) (pos 0) ∷ forms_after) (alone (pos 1) (pos 5) few_bytes (respelled_behind forms_after [] [] none))

pub spelled_out : listing_of spelled_out_file ≡ whole_listing
spelled_out =
    let h : Respelled (lines_of whole_file) (lines_of spelled_out_file) = rw (whole_spelled, out_spelled) one_respelled in
    sym (respelled_listing whole_file spelled_out_file h) ∙ whole_file_lem
