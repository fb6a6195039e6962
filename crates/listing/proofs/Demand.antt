-- Demand 3 of a whole file.
--   Accepted, accepted_parts — of an accepted file every line is accepted, the last is an end, and the reckoning says nothing of its problem
--   file_reported, file_encloses — its listing is the report, and the limits in it enclose every exact solution of every right side within the tolerances
--     (02, Paper 5), and every exact inverse
--   file_height — for each such right side there is exactly one height, as a fraction, and it lies within its limit (02, Paper 12)
--   exact_accepted — a complete file without tolerances, with a rounded exact proposal, is accepted
use mathlib.Core.Path.{◌≡◌, refl, ap, ◌∙◌}
use mathlib.Core.Bool.{Bool, true, false, cond}
use mathlib.Core.List.{List, [], ◌∷◌}
use Prim.Native.Nat.{ℕ}
use Rattle.linear.specs.Matrix.{Vec, Mat}
use Rattle.rules.proofs.Verdicts.{nothing_is_not, else_none}
use Rattle.enclosure.specs.Reckoning.{bound, inverse_bound}
use Rattle.enclosure.specs.Demand.{Encloses, RoundedExact}
use Rattle.enclosure.specs.Height.{OneHeight}
use Rattle.enclosure.proofs.Acceptance.{rounded_sound}
use Rattle.enclosure.proofs.Demands.{encloses, one_height}
use Rattle.check_spec.specs.Order.{checked_of}
use Rattle.check_spec.proofs.Contract.{sound_code, code_sound}
use Rattle.loader_runs.specs.Run.{forms}
use Rattle.loader_progress.specs.Progress.{ended}
use Rattle.listing_refusal.specs.Refused.{printed}
use Rattle.loader_runs.specs.Lines.{lines_of}
use Rattle.loader_runs.specs.Read.{reading_of}
use Rattle.file_check.specs.Judged.{reported_of}
use Rattle.file_check.proofs.Forms.{n_pos, fine, heavy}
use Rattle.listing.specs.Listing.{problem_in, answer_of, listing_of}
use Rattle.listing.specs.Complete.{Complete}
use Rattle.listing.proofs.Entire.{answer_judged, listing_from, from, inside}

-- ---- nothing said, part by part
nothing_printed : (line : ℕ) (l : List ℕ) → printed line l ≡ [] → l ≡ []
nothing_printed line [] e = refl
nothing_printed line (k ∷ vs) e = absurd (nothing_is_not e)

nothing_open : (b : Bool) (l : List ℕ) → cond b l (15 ∷ []) ≡ [] → (b ≡ true) × (l ≡ [])
nothing_open true l e = (refl, e)
nothing_open false l e = absurd (nothing_is_not e)

module _ (file : List ℕ) where
  pub record Accepted : Type 0 where
    pub complete : Complete file
    pub quiet : checked_of (problem_in file) ≡ []

  pub accepted_parts : answer_of file ≡ [] → Accepted
  unfolding answer_of
  accepted_parts e =
      let R = reading_of file in
      let later = cond (ended R.state.loader.stage) (checked_of (problem_in file)) (15 ∷ []) in
      let none = else_none (printed R.line R.code) (printed 0 later) e in
      let l = nothing_printed R.line R.code none.0 in
      let c = nothing_open (ended R.state.loader.stage) (checked_of (problem_in file)) (nothing_printed 0 later none.1) in
      record { complete = record { lines = l; end = c.0 }; quiet = c.1 }

  pub file_reported : answer_of file ≡ [] → listing_of file ≡ reported_of (problem_in file)
  file_reported e = listing_from file e

  pub file_encloses : answer_of file ≡ [] → Encloses (problem_in file) (bound (problem_in file)) (inverse_bound (problem_in file))
  file_encloses e =
      let a = accepted_parts e in
      let c = a.complete in
      encloses (problem_in file) (heavy (reading_of file).state (forms (lines_of file)) (from file c.lines c.end) (inside file c.lines c.end))
      (code_sound (problem_in file) a.quiet).margins

  pub file_height : answer_of file ≡ [] → OneHeight (problem_in file) (bound (problem_in file))
  file_height e = one_height (problem_in file) (bound (problem_in file)) (inverse_bound (problem_in file)) (file_encloses e)

  pub exact_accepted : Complete file → (N : Vec) (q : ℕ) (H : Mat) (q' : ℕ) → RoundedExact (problem_in file) N q H q' → answer_of file ≡ []
  exact_accepted c N q H q' x =
      let f = from file c.lines c.end in
      let r = inside file c.lines c.end in
      let u = (reading_of file).state in
      let s = sound_code (problem_in file) (n_pos u (forms (lines_of file)) f r) (rounded_sound (problem_in file) N q H q' (fine u (forms (lines_of file)) f r) x) in
      answer_judged file c.lines c.end ∙ ap (printed 0) s
