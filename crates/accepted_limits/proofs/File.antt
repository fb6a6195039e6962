-- The limits in the listing of an accepted file are good (good_limits/specs/Good).
--   file_good     — of every file of which nothing is said
--   answered_good, listed_good — where `answer_file` answers 0, and where the listing begins with "(bounds "
--   file_one_step — a complete file with a rounded exact proposal, without tolerances, with weights 1 and 3·Σ|A_ij| ≤ 2·T is accepted, and its limits are 0 or 1
use mathlib.Core.Path.{◌≡◌}
use mathlib.Core.List.{List, []}
use Prim.Native.Nat.{ℕ}
use lib.ListN.{take}
use Rattle.linear.specs.Matrix.{Vec, Mat}
use Rattle.enclosure.specs.Reckoning.{bound, inverse_bound}
use Rattle.check_spec.proofs.Contract.{code_sound}
use Rattle.line_form.specs.Form.{bytes}
use Rattle.loader_runs.specs.Lines.{lines_of}
use Rattle.loader_runs.specs.Read.{reading_of}
use Rattle.loader_runs.specs.Run.{forms}
use Rattle.listing_refusal.specs.declared.FileAnswer.{FileAnswer}
use Rattle.file_check.proofs.Forms.{n_pos, heavy}
use Rattle.listing.specs.Listing.{problem_in, answer_of, ListedAs, AnsweredAs}
use Rattle.listing.specs.Complete.{Complete}
use Rattle.listing.proofs.Demand.{accepted_parts, exact_accepted}
use Rattle.listing.proofs.Entire.{from, inside}
use Rattle.listing.proofs.Meaning.{answered_none, listed_none}
use Rattle.good_limits.specs.Good.{FineRounded, OneStep, Good}
use Rattle.good_limits.proofs.Good.{limits_good}

module _ (file : List ℕ) where
  pub file_good : answer_of file ≡ [] → Good (problem_in file) (bound (problem_in file)) (inverse_bound (problem_in file))
  file_good e =
      let a = accepted_parts file e in
      let c = a.complete in
      let u = (reading_of file).state in
      let f = from file c.lines c.end in
      let r = inside file c.lines c.end in
      limits_good (problem_in file) (n_pos u (forms (lines_of file)) f r) (heavy u (forms (lines_of file)) f r) (code_sound (problem_in file) a.quiet).margins

  pub file_one_step : Complete file → (N : Vec) (q : ℕ) (H : Mat) (q' : ℕ) → FineRounded (problem_in file) N q H q' →
      (answer_of file ≡ []) × OneStep (problem_in file).n (bound (problem_in file)) (inverse_bound (problem_in file))
  file_one_step c N q H q' y =
      let a = exact_accepted file c N q H q' y.rounded in (a, (file_good a).one_step N q H q' y)

pub answered_good : {file old new : List ℕ} {r : FileAnswer} → AnsweredAs file old new r → r.reply.number ≡ 0 →
    Good (problem_in file) (bound (problem_in file)) (inverse_bound (problem_in file))
answered_good {file} x z = file_good file (answered_none x z)

pub listed_good : {file old new : List ℕ} {count : ℕ} → ListedAs file old new count → take 8 (take count new) ≡ bytes "(bounds " →
    Good (problem_in file) (bound (problem_in file)) (inverse_bound (problem_in file))
listed_good {file} x b = file_good file (listed_none x b)
