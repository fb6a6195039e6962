-- The exported call for the factor.
--   quality_status   — the number and the places are those of the order of tests, 8, 3, 5
--   factor_status    — 0 is said of a factor alone: *numerator over *denominator is one of the problem with any scale, right side, tolerance and guess
--   least_status     — and none of these is smaller
--   accepted_status  — of the lists of an accepted check 0 is said
use mathlib.Core.List.{List, []}
use mathlib.Core.Path.{◌≡◌, sym, ap, ◌∙◌}
use Prim.Native.Nat.{ℕ, ◌*◌, ◌≤◌}
use lib.IntN.{ℤ}
use lib.ListN.{get_or}
use Rattle.rules.proofs.Verdicts.{accepted_new}
use Rattle.enclosure.specs.Problem.{problem_of}
use Rattle.enclosure.specs.Quality.{Factor}
use Rattle.check_spec.specs.Input.{Input}
use Rattle.check_spec.specs.Order.{answer}
use Rattle.quality_spec.specs.Inquiry.{Inquiry, inquiry}
use Rattle.quality_spec.specs.Answer.{quality_code, quality_answer}
use Rattle.quality_spec.proofs.Promises as promises
use Rattle.reply.specs.ReplyIs.{ReplyIs}
use Rattle.calls_spec.specs.Quality.{QualityExported}

module _ {Q : Inquiry} {old_a old_c number : ℕ} {places : List ℕ} {a c : ℕ} (x : QualityExported Q old_a old_c number places a c) where
  pub quality_status : ReplyIs (quality_answer Q) number places
  quality_status = rw x.holds.says at x.status

  code_zero : number ≡ 0 → quality_code x.answer ≡ []
  code_zero e = x.holds.says ∙ promises.zero_given Q (sym quality_status.number_is ∙ e)

  module _ (e : number ≡ 0) (s : ℕ) (right tolerance guess : List ℤ) where
    pub factor_status : Factor (problem_of Q.n s Q.t Q.matrix right tolerance guess Q.inverse Q.weights) a c
    factor_status =
        rw (x.numerator_is ∙ accepted_new _ _ (code_zero e), x.denominator_is ∙ accepted_new _ _ (code_zero e))
        (x.holds.factor (code_zero e) s right tolerance guess)

    pub least_status : (b d : ℕ) → Factor (problem_of Q.n s Q.t Q.matrix right tolerance guess Q.inverse Q.weights) b d → a * d ≤ b * c
    least_status =
        rw (x.numerator_is ∙ accepted_new _ _ (code_zero e), x.denominator_is ∙ accepted_new _ _ (code_zero e))
        (x.holds.least (code_zero e) s right tolerance guess)

pub accepted_status : (I : Input) {old_a old_c number : ℕ} {places : List ℕ} {a c : ℕ} →
    QualityExported (inquiry I.n I.t I.matrix I.inverse I.weights) old_a old_c number places a c → answer I ≡ [] → number ≡ 0
accepted_status I x z = (quality_status x).number_is ∙ ap (λ (l : List ℕ). get_or l 0 0) (promises.accepted_given I z)
