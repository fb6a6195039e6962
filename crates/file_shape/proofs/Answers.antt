-- What is said of a file of the shape, from its forms alone.
--   printed_says, not_missing, not_open — nothing, 5, 6 and 7 stand with what they give; none of them is 13 or 15
--   shape_problem — its problem is that of the forms
--   shape_answer, shape_listing — what is said of it, and its listing, are those of that problem
--   shape_says    — so it is accepted, or refused with 5, 6 or 7;  never_missing, never_open — never with 13 or 15
--   shape_accepted — demand 3's second half: with a rounded exact proposal it is accepted
--   whole_shaped, unweighted_shaped — 01's whole file has the shape, and so has that file without its weights
use mathlib.Core.Path.{◌≡◌, sym, ap, subst, ◌∙◌}
use mathlib.Core.List.{List, [], ◌∷◌}
use Prim.Native.Nat.{ℕ}
use native.Mathlib.Omega.{arith}
use lib.ListN.{take}
use Rattle.linear.specs.Matrix.{Vec, Mat}
use Rattle.enclosure.specs.Demand.{RoundedExact}
use Rattle.enclosure.specs.Problem.{Problem}
use Rattle.check_spec.specs.Order.{first_margin, first_residual, first_inverse_place, checked_of}
use Rattle.line_form.specs.Form.{Form, bytes}
use Rattle.loader_runs.specs.Holds.{ComputedSays, accepted, margin, residual, inverse_residual}
use Rattle.loader_runs.proofs.Check.{computes}
use Rattle.listing_refusal.specs.Refused.{printed}
use Rattle.file_check.specs.Judged.{reported_of, line_or, problem_from}
use Rattle.listing.specs.Cases.{whole_file, unweighted_file}
use Rattle.listing.specs.Listing.{problem_in, answer_of, listing_of}
use Rattle.listing.proofs.Demand.{accepted_parts, exact_accepted}
use Rattle.listing.proofs.Entire.{answer_judged, listing_from}
use Rattle.listing.proofs.Meaning.{begins_bounds}
use Rattle.listing.proofs.Table.{whole_file_lem, unweighted_complete}
use Rattle.file_shape.specs.Shape.{Shape, Spells, Shaped}
use Rattle.file_shape.proofs.Complete.{shape_complete, shape_forms, complete_shape}

-- ---- the check's own refusals, in the numbers of the refusal's line
printed_says : {w : List ℕ} → ComputedSays w → ComputedSays (printed 0 w)
printed_says accepted = accepted
printed_says (margin row) = margin row
printed_says (residual row) = residual row
printed_says (inverse_residual column row) = inverse_residual column row

not_missing : {l : List ℕ} → ComputedSays l → (count : ℕ) → l ≡ 13 ∷ count ∷ [] → ⊥
not_missing accepted c e = let z : ◌≡◌ {A = ℕ} 0 1 = cc in omega arith
not_missing (margin row) c e = let z : ◌≡◌ {A = ℕ} 5 13 = cc in omega arith
not_missing (residual row) c e = let z : ◌≡◌ {A = ℕ} 6 13 = cc in omega arith
not_missing (inverse_residual column row) c e = let z : ◌≡◌ {A = ℕ} 7 13 = cc in omega arith

not_open : {l : List ℕ} → ComputedSays l → l ≡ 15 ∷ 0 ∷ [] → ⊥
not_open accepted e = let z : ◌≡◌ {A = ℕ} 0 1 = cc in omega arith
not_open (margin row) e = let z : ◌≡◌ {A = ℕ} 5 15 = cc in omega arith
not_open (residual row) e = let z : ◌≡◌ {A = ℕ} 6 15 = cc in omega arith
not_open (inverse_residual column row) e = let z : ◌≡◌ {A = ℕ} 7 15 = cc in omega arith

-- ---- a file of the shape
module _ {n s t : ℕ} {fs : List Form} (h : Shape n s t fs) {file : List ℕ} (x : Spells fs file) where
  pub shape_problem : problem_in file ≡ problem_from fs
  shape_problem = ap problem_from (shape_forms h x)

  pub shape_answer : answer_of file ≡ printed 0 (checked_of (problem_from fs))
  shape_answer = let c = shape_complete h x in answer_judged file c.lines c.end ∙ ap (λ (P : Problem). printed 0 (checked_of P)) shape_problem

  pub shape_listing : listing_of file ≡ line_or (printed 0 (checked_of (problem_from fs))) (reported_of (problem_from fs))
  shape_listing = listing_from file shape_answer ∙ ap (λ (P : Problem). line_or (printed 0 (checked_of (problem_from fs))) (reported_of P)) shape_problem

  pub shape_says : ComputedSays (answer_of file)
  shape_says =
      let P = problem_from fs in
      subst (λ (l : List ℕ). ComputedSays l) (sym shape_answer) (printed_says (computes P.n (first_margin P) (first_residual P) (first_inverse_place P)))

  pub never_missing : (count : ℕ) → answer_of file ≡ 13 ∷ count ∷ [] → ⊥
  never_missing = not_missing shape_says

  pub never_open : answer_of file ≡ 15 ∷ 0 ∷ [] → ⊥
  never_open = not_open shape_says

  pub shape_accepted : (N : Vec) (q : ℕ) (H : Mat) (q' : ℕ) → RoundedExact (problem_from fs) N q H q' → answer_of file ≡ []
  shape_accepted N q H q' e = exact_accepted file (shape_complete h x) N q H q' (subst (λ (P : Problem). RoundedExact P N q H q') (sym shape_problem) e)

-- ---- some files
pub whole_shaped : Shaped whole_file
whole_shaped =
    let b : take 8 (listing_of whole_file) ≡ bytes "(bounds " = ap (take 8) whole_file_lem in
    complete_shape whole_file (accepted_parts whole_file (begins_bounds whole_file b)).complete

pub unweighted_shaped : Shaped unweighted_file
unweighted_shaped = complete_shape unweighted_file unweighted_complete
