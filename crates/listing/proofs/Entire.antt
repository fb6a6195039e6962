-- The listing of a file, from what its lines and its check give.
--   answer_refused, answer_open, answer_judged — what is said where a line is refused, where the file stops before an end, and where it does not
--   listing_from  — the listing, from what is said
--   as_checked    — of a file whose lines are all accepted what is said, and the listing, are those of its check
--   refusal_answered, check_answered — what was written is the listing
--   as_listed, as_answered — and the other bytes are as before
use mathlib.Core.Path.{◌≡◌, refl, sym, ap, ◌∙◌, subst}
use mathlib.Core.Bool.{Bool, true, false}
use mathlib.Core.List.{List, [], ◌∷◌, ◌++◌}
use Prim.Native.Nat.{ℕ, ◌+◌, ◌≤◌}
use native.Mathlib.Omega.{arith}
use lib.ListN.{length, drop, replicate}
use lib.Seq.{sets-eq, take_at, drop_at}
use Rattle.rules.specs.Refusal.{code, number_of, values_of}
use Rattle.std.specs.Prelude.{Ok, Err}
use Rattle.rules.specs.declared.Refusal.{Refusal}
use Rattle.check_spec.specs.Order.{checked_of}
use Rattle.check_spec.specs.Input.{Input, short}
use Rattle.loader_lists.specs.Lists.{Lists, short_lists}
use Rattle.loader_progress.specs.Progress.{ended}
use Rattle.loader_order.specs.Through.{answer_through}
use Rattle.loader_order.proofs.Through.{answer_ended}
use Rattle.loader_runs.specs.Run.{State, state_with, from_new, forms}
use Rattle.loader_runs.specs.Accepts.{run, Accepts}
use Rattle.loader_runs.specs.Holds.{InRange}
use Rattle.loader_runs.proofs.Check.{run_long, enough}
use Rattle.loader_runs.proofs.End.{FromForms, from_forms, in_range_lem}
use Rattle.listing_text.specs.Wrote.{Wrote}
use Rattle.listing_refusal.specs.Refused.{printed, refused_of}
use Rattle.listing_refusal.specs.Answered.{Answered}
use Rattle.listing_refusal.specs.declared.FileAnswer.{FileAnswer}
use Rattle.listing_refusal.proofs.Refused.{same_answer}
use Rattle.file.specs.declared.LinesTaken.{LinesTaken}
use Rattle.loader_runs.specs.Lines.{lines_of}
use Rattle.loader_runs.specs.Read.{Reading, zeros, reading_of}
use Rattle.file.specs.Read.{LinesTakenAs}
use Rattle.loader_runs.proofs.Whole.{all_accepted, all_run}
use Rattle.file_check.specs.Judged.{reported_of, line_or}
use Rattle.listing.specs.Listing.{problem_in, answer_of, listing_of, ListedAs, AnsweredAs}
use Rattle.file_check.specs.Shown.{input_at, code_of, shown_of}
use Rattle.file_check.proofs.Forms.{reported_forms, answer_forms}

pub zeros_long : short_lists zeros ≡ false
unfolding zeros
zeros_long = refl

module _ (file : List ℕ) where
  abbrev R : Reading
  R = reading_of file

  abbrev lines : List (List ℕ)
  lines = lines_of file

  pub answer_refused : {k : ℕ} {vs : List ℕ} → R.code ≡ k ∷ vs → answer_of file ≡ printed R.line (k ∷ vs)
  unfolding answer_of
  answer_refused e = rw e

  pub listing_from : {l : List ℕ} → answer_of file ≡ l → listing_of file ≡ line_or l (reported_of (problem_in file))
  unfolding listing_of
  listing_from e = rw e

  module _ (quiet : R.code ≡ []) where
    pub answer_open : ended R.state.loader.stage ≡ false → answer_of file ≡ printed 0 (15 ∷ [])
    unfolding answer_of
    answer_open e = rw (quiet, e)

    pub answer_judged : ended R.state.loader.stage ≡ true → answer_of file ≡ printed 0 (checked_of (problem_in file))
    unfolding answer_of
    answer_judged e = rw (quiet, e)

    pub accepts : Accepts (from_new zeros) lines
    accepts = all_accepted 0 (from_new zeros) lines quiet

    state_is : R.state ≡ run (from_new zeros) lines
    state_is = all_run 0 (from_new zeros) lines quiet

    module _ (end : ended R.state.loader.stage ≡ true) where
      pub ended_run : ended (run (from_new zeros) lines).loader.stage ≡ true
      ended_run = rw state_is at end

      pub run_from : FromForms (forms lines) (run (from_new zeros) lines)
      run_from = from_forms zeros lines accepts ended_run

      pub from : FromForms (forms lines) R.state
      from = rw state_is run_from

      pub inside : InRange R.state
      inside = rw state_is (in_range_lem zeros lines accepts ended_run)

    abbrev I : Input
    I = input_at R.state

    -- the program's own lists keep their lengths
    long : short I ≡ false
    long =
        rw state_is
        (enough (run (from_new zeros) lines) (replicate 32 0) (replicate 1024 0) (run_long (from_new zeros) lines accepts zeros_long) (omega arith) (omega arith))

    open_code : ended R.state.loader.stage ≡ false → answer_through R.state.loader.stage I ≡ 15 ∷ []
    unfolding answer_through
    open_code e = rw (long, e)

    check_code : ended R.state.loader.stage ≡ true → answer_through R.state.loader.stage I ≡ checked_of (problem_in file)
    check_code e = answer_ended R.state.loader.stage I e ∙ answer_forms R.state (forms lines) (from e) (inside e) long

    pub record AsChecked : Type 0 where
      pub answer : answer_of file ≡ code_of R.state
      pub listing : listing_of file ≡ shown_of R.state

    pub as_checked : AsChecked
    as_checked = go (ended R.state.loader.stage) refl
      where
        go : (b : Bool) → ended R.state.loader.stage ≡ b → AsChecked
        go false e = record {
          answer = rw (open_code e) (answer_open e);
          listing = rw (open_code e) (listing_from (answer_open e));
        }
        go true e = record {
          answer = rw (check_code e) (answer_judged e);
          listing = rw (check_code e, reported_forms R.state (forms lines) (from e)) (listing_from (answer_judged e));
        }

module _ (file : List ℕ) {old new : Lists} {r : LinesTaken} (lent : LinesTakenAs file old r new) (z : old ≡ zeros) where
  read : LinesTakenAs file zeros r new
  read = rw z at lent

  pub refusal_answered : {o p : List ℕ} {a : FileAnswer} (x : Refusal) → r.outcome ≡ Err x →
      Answered (printed r.line (number_of x ∷ values_of x)) (refused_of (printed r.line (number_of x ∷ values_of x))) o p a → Answered (answer_of file) (listing_of file) o p a
  refusal_answered x e =
      let q : answer_of file ≡ printed r.line (number_of x ∷ values_of x) = rw read.line (answer_refused file (sym read.says ∙ ap code e)) in
      same_answer (sym q) (sym (listing_from file q))

  pub check_answered : {o p : List ℕ} {a : FileAnswer} → r.outcome ≡ Ok tt → Answered (code_of (state_with r.loader new)) (shown_of (state_with r.loader new)) o p a → Answered (answer_of file) (listing_of file) o p a
  check_answered {o} {p} {a} e =
      let quiet = sym read.says ∙ ap code e in
      let c = as_checked file quiet in
      subst (λ (u : State). Answered (code_of u) (shown_of u) o p a → Answered (answer_of file) (listing_of file) o p a) (sym read.state) (same_answer (sym c.answer) (sym c.listing))

-- ---- what was written
as_listed : (file : List ℕ) {o p : List ℕ} {end : ℕ} → 32768 ≤ length o → Wrote 32768 o 0 (listing_of file) p end → ListedAs file o p end
as_listed file {o} {p} {end} h w =
    let text = listing_of file in
    let n : end ≡ length text = omega (arith, w.end_is) in
    let z : 0 + length text ≡ length text = omega arith in
    let q : p ≡ text ++ drop (length text) o = w.stored ∙ sets-eq text o 0 (omega (arith, w.end_max)) ∙ rw z in
    record {
      size = n;
      bytes = rw q (take_at text (drop (length text) o) end (sym n));
      others = rw q (drop_at text (drop (length text) o) end (sym n)) ∙ ap (λ (k : ℕ). drop k o) (sym n);
      fits = omega (arith, w.end_max);
    }

pub as_answered : (file : List ℕ) {o p : List ℕ} {a : FileAnswer} → 32768 ≤ length o → Answered (answer_of file) (listing_of file) o p a → AnsweredAs file o p a
as_answered file h x = record { reply = x.reply; listed = as_listed file h x.wrote }
