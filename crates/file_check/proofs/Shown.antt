-- The check through a loader as lines.
--   shown_refused, shown_accepted — the line of the refusal, and the report with the limits that the check wrote, are what is shown
--   report_ready   — what a report asks holds of an accepted check
use mathlib.Core.Path.{◌≡◌, refl, sym, ap, ◌∙◌, subst}
use mathlib.Core.List.{List, [], ◌∷◌}
use Prim.Native.Nat.{ℕ, ◌+◌, ◌*◌, ◌/◌, ◌%◌}
use native.Mathlib.Omega.{arith}
use lib.ListN.{get_or, length}
use Rattle.rules.specs.Refusal.{code, number_of, values_of, Outcome}
use Rattle.std.specs.Prelude.{Ok, Err}
use Rattle.rules.specs.declared.Refusal.{Refusal}
use Rattle.linear.specs.Slice.{at}
use Rattle.linear.proofs.Places.{square}
use Rattle.linear.proofs.Written.{written_length}
use Rattle.enclosure.specs.Reckoning.{bound, inverse_bound}
use Rattle.check_spec.specs.Checked.{Checked}
use Rattle.check_spec.specs.Input.{Input, problem}
use Rattle.check_spec.proofs.Fit.{Fit}
use Rattle.check_spec.proofs.Written.{solution_written, inverse_written, checked_fit, checked_solution, checked_inverse}
use Rattle.loader_progress.specs.declared.Stage.{Stage}
use Rattle.loader_order.specs.Through.{answer_through, CheckedThrough}
use Rattle.loader_order.proofs.Through.{without_code, through_lists}
use Rattle.listing_text.specs.Wrote.{Wrote}
use Rattle.listing_text.proofs.Wrote.{called}
use Rattle.listing_report.specs.Ready.{Reportable, report_in}
use Rattle.listing_refusal.specs.Refused.{printed, refused_of}
use Rattle.listing_refusal.specs.Reply.{reply_of}
use Rattle.listing_refusal.specs.Answered.{Answered}
use Rattle.listing_refusal.specs.declared.FileAnswer.{FileAnswer}
use Rattle.file_check.specs.Judged.{reported_of, line_or}
use Rattle.file_check.proofs.Agreed.{report_same}

module _ (s : Stage) (I : Input) where
  -- ---- refused
  pub shown_refused : {r : Outcome} {E L o p : List ℕ} {a : FileAnswer} → CheckedThrough s I r E L → (x : Refusal) → r ≡ Err x →
      Answered (printed 0 (number_of x ∷ values_of x)) (refused_of (printed 0 (number_of x ∷ values_of x))) o p a → Answered (printed 0 (answer_through s I)) (line_or (printed 0 (answer_through s I)) (reported_of (problem I))) o p a
  shown_refused {r} {E} {L} {o} {p} {a} c x e = subst (λ (k : List ℕ). Answered (printed 0 k) (line_or (printed 0 k) (reported_of (problem I))) o p a) (sym (ap code e) ∙ c.says)

  -- ---- accepted
  module _ {r : Outcome} {E L : List ℕ} (c : CheckedThrough s I r E L) (e : r ≡ Ok tt) where
    quiet : answer_through s I ≡ []
    quiet = sym c.says ∙ ap code e

    on_lists : Checked I r E L
    on_lists = through_lists s I c (ap code e)

    ready : Fit I
    ready = checked_fit I r E L on_lists (ap code e)

    solution_length : length E ≡ length I.solution_bounds
    solution_length = ap length (on_lists.solution_bounds ∙ solution_written I (without_code s I quiet)) ∙ written_length I.solution_bounds 0 1 (bound (problem I)) I.n

    inverse_length : length L ≡ length I.inverse_bounds
    inverse_length =
        ap length (on_lists.inverse_bounds ∙ inverse_written I (without_code s I quiet))
        ∙ written_length I.inverse_bounds 0 1 (λ (k : ℕ). inverse_bound (problem I) (k / I.n) (k % I.n)) (I.n * I.n)

    pub report_ready : {n t : ℕ} → n ≡ I.n → t ≡ I.s → Reportable n t I.guess E L
    report_ready en et =
        rw (en, et) (record {
          n_max = ready.n_max;
          scale = ready.solution_scale;
          guess_long = ready.guess.long;
          solution_long = omega (arith, ready.n_max, ready.solution_long, solution_length);
          inverse_long = omega (arith, square ready.n_max, ready.inverse_long, inverse_length);
          guess = ready.guess.within.magnitudes;
        })

    pub shown_accepted : {o p : List ℕ} {a : FileAnswer} {n t : ℕ} → n ≡ I.n → t ≡ I.s → a.reply ≡ reply_of [] → Wrote 32768 o 0 (report_in n t I.guess E L) p a.length →
        Answered (printed 0 (answer_through s I)) (line_or (printed 0 (answer_through s I)) (reported_of (problem I))) o p a
    shown_accepted en et q w = record {
      reply = rw quiet q;
      wrote =
          called
          (report_same I.n I.s (at I.guess) (at I.guess) (λ (i : ℕ). get_or E i 0) (bound (problem I)) (λ (i j : ℕ). get_or L (i * I.n + j) 0) (inverse_bound (problem I))
          (λ i l. refl) (checked_solution I r E L on_lists (ap code e)) (checked_inverse I r E L on_lists (ap code e))
          ∙ ap (λ (k : List ℕ). line_or (printed 0 k) (reported_of (problem I))) (sym quiet))
          (rw (en, et) at w);
    }
