-- Each refusal of a file is said exactly in its stated case (specs/Stated).
--   code_line, code_open, code_checked — what is said where a line is refused, where the file stops before an end, and where it does not
--   code_by       — what is stated for a file is said of it
--   some_stated   — there is a stated case of every file
--   file_exactly  — so what is said is what is stated
--   answered_stated, listed_stated — in numbers by `answer_file`, and as bytes by `listing`
use mathlib.Core.Path.{◌≡◌, refl, sym, ap, subst, ◌∙◌}
use mathlib.Core.Bool.{Bool, true, false}
use mathlib.Core.List.{List, [], ◌∷◌, ◌++◌}
use mathlib.Core.Logic.{◌↔◌}
use Prim.Native.Nat.{ℕ, ◌+◌}
use native.Mathlib.Omega.{arith}
use lib.ListN.{length, take}
use Rattle.check_spec.specs.Order.{answer}
use Rattle.check_spec.proofs.Statements.{stated, code_of_lem}
use Rattle.loader_progress.specs.Progress.{ended}
use Rattle.loader.specs.Answer.{line_answer}
use Rattle.loader_order.proofs.Through.{answer_ended}
use Rattle.loader_runs.specs.Lines.{lines_of}
use Rattle.loader_runs.specs.Read.{Reading, read_from, zeros, reading_of}
use Rattle.loader_runs.specs.Run.{State, from_new}
use Rattle.loader_runs.specs.Accepts.{run, Accepts, Made, new}
use Rattle.loader_runs.proofs.Read.{read_refused}
use Rattle.loader_stated.proofs.Stated.{made_exactly}
use Rattle.loader_spelled.proofs.Runs.{read_run}
use Rattle.listing_refusal.specs.Refused.{printed}
use Rattle.listing_refusal.specs.Reply.{reply_of}
use Rattle.listing_refusal.specs.declared.FileAnswer.{FileAnswer}
use Rattle.file_check.specs.Judged.{reported_of, line_or}
use Rattle.file_check.specs.Shown.{input_at, code_of}
use Rattle.listing.specs.Listing.{problem_in, answer_of, ListedAs, AnsweredAs}
use Rattle.listing.proofs.Entire.{answer_refused, answer_open, listing_from, as_checked}
use Rattle.file_stated.specs.Stated.{FileStated, line_refused, not_ended, checked}
use Rattle.file_stated.proofs.Taken.{Runs, taken_runs, runs_taken, made_run, AllOrFirst, all, refused, all_or_first, read_past}

module _ (file : List ℕ) where
  -- ---- what is said
  code_line : (first : List (List ℕ)) (line : List ℕ) (rest : List (List ℕ)) (u : State) (k : ℕ) (vs : List ℕ) → lines_of file ≡ first ++ (line ∷ rest) →
      Runs (from_new zeros) first u → line_answer u.loader u.lists line ≡ k ∷ vs → answer_of file ≡ printed (length first + 1) (k ∷ vs)
  code_line first line rest u k vs p r e =
      let z : 0 + length first ≡ length first = omega arith in
      let q : reading_of file ≡ record { code = k ∷ vs; line = length first + 1; state = u } =
      ap (read_from 0 (from_new zeros)) p
      ∙ read_past 0 (from_new zeros) first (line ∷ rest) r.0
      ∙ ap (λ (j : ℕ). read_from j (run (from_new zeros) first) (line ∷ rest)) z
      ∙ ap (λ (v : State). read_from (length first) v (line ∷ rest)) r.1
      ∙ read_refused (length first) u line rest e in
      answer_refused file (ap (λ (R : Reading). R.code) q) ∙ ap (λ (R : Reading). printed R.line (k ∷ vs)) q

  module _ {u : State} (r : Runs (from_new zeros) (lines_of file) u) where
    quiet : (reading_of file).code ≡ []
    quiet = (read_run 0 (from_new zeros) (lines_of file) r.0).0

    state_is : (reading_of file).state ≡ u
    state_is = (read_run 0 (from_new zeros) (lines_of file) r.0).1 ∙ r.1

    code_open : ended u.loader.stage ≡ false → answer_of file ≡ 15 ∷ 0 ∷ []
    code_open e = answer_open file quiet (subst (λ (v : State). ended v.loader.stage ≡ false) (sym state_is) e)

    code_checked : ended u.loader.stage ≡ true → answer_of file ≡ printed 0 (answer (input_at u))
    code_checked e = (as_checked file quiet).answer ∙ ap code_of state_is ∙ ap (printed 0) (answer_ended u.loader.stage (input_at u) e)

  code_by : {w : List ℕ} → FileStated file w → answer_of file ≡ w
  code_by (line_refused first line rest u k vs p t s) =
      let r = taken_runs new t in
      code_line first line rest u k vs p r ((made_exactly u.loader u.lists line (subst (λ (v : State). Made v.loader) r.1 (made_run (from_new zeros) first new)) (k ∷ vs)).1 s)
  code_by (not_ended u t e) = code_open (taken_runs new t) e
  code_by (checked u w t e s) = code_checked (taken_runs new t) e ∙ ap (printed 0) (code_of_lem (input_at u) s)

  -- ---- and stated
  at_end : Accepts (from_new zeros) (lines_of file) → (b : Bool) → ended (run (from_new zeros) (lines_of file)).loader.stage ≡ b → (w : List ℕ) × FileStated file w
  at_end a false e = (15 ∷ 0 ∷ [], not_ended (run (from_new zeros) (lines_of file)) (runs_taken (from_new zeros) (lines_of file) new a) e)
  at_end a true e =
      let u = run (from_new zeros) (lines_of file) in
      (printed 0 (answer (input_at u)), checked u (answer (input_at u)) (runs_taken (from_new zeros) (lines_of file) new a) e (stated (input_at u)))

  some_stated : (w : List ℕ) × FileStated file w
  some_stated = go (all_or_first (from_new zeros) (lines_of file))
    where
      go : AllOrFirst (from_new zeros) (lines_of file) → (w : List ℕ) × FileStated file w
      go (all a) = at_end a (ended (run (from_new zeros) (lines_of file)).loader.stage) refl
      go (refused first line rest k vs p a e) =
          let u = run (from_new zeros) first in (
            printed (length first + 1) (k ∷ vs),
            line_refused first line rest u k vs p (runs_taken (from_new zeros) first new a) ((made_exactly u.loader u.lists line (made_run (from_new zeros) first new) (k ∷ vs)).0 e),
          )

  pub file_exactly : (w : List ℕ) → (answer_of file ≡ w) ↔ FileStated file w
  file_exactly w = let s = some_stated in (λ e. subst (FileStated file) (sym (code_by s.1) ∙ e) s.1, code_by)

  -- ---- the calls on a file
  pub answered_stated : {old bytes : List ℕ} {r : FileAnswer} → AnsweredAs file old bytes r → {w : List ℕ} → FileStated file w → r.reply ≡ reply_of w
  answered_stated x s = x.reply ∙ ap reply_of (code_by s)

  pub listed_stated : {old bytes : List ℕ} {count : ℕ} → ListedAs file old bytes count → {w : List ℕ} → FileStated file w → take count bytes ≡ line_or w (reported_of (problem_in file))
  listed_stated x s = x.bytes ∙ listing_from file (code_by s)
