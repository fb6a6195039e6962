-- The line of a refusal, by its cases.
--   answered  — the line is that of the refusal: one number or two of a pair in the inner brackets
--   same_answer — the same answer in other words
use mathlib.Core.Path.{◌≡◌, refl, ap, ◌∙◌}
use mathlib.Core.List.{List, [], ◌∷◌}
use Prim.Native.Nat.{ℕ, ◌+◌}
use native.Mathlib.Omega.{arith}
use lib.ListN.{get_or}
use Rattle.line_form.specs.Form.{bytes}
use Rattle.rules.specs.Refusal.{number_of, values_of}
use Rattle.rules.specs.declared.Refusal.{Refusal}
use Rattle.rules.specs.declared.Refusal.TheVariants.{TooLong, NoForm, OutOfRange, WrongCount, Margin, Residual, InverseResidual, TooShort, TooEarly, Repeated, Missing, AfterEnd, NotEnded}
use Rattle.listing_text.specs.Wrote.{Wrote}
use Rattle.listing_text.proofs.Wrote.{wider, called}
use Rattle.listing_text.specs.Line.{each, list_line}
use Rattle.listing_refusal.specs.declared.Reply.{Reply}
use Rattle.listing_refusal.specs.declared.FileAnswer.{FileAnswer}
use Rattle.listing_refusal.specs.Refused.{printed, refused_of}
use Rattle.listing_refusal.specs.Reply.{reply_of}
use Rattle.listing_refusal.specs.Answered.{Answered}

-- the numbers of its line
abbrev printed_refusal : ℕ → Refusal → List ℕ
printed_refusal line r = printed line (number_of r ∷ values_of r)

abbrev written_reply : Reply → List ℕ
written_reply r = list_line (bytes "(refused ") r.number r.count (λ (j : ℕ). get_or (r.first ∷ r.second ∷ []) (0 + j) 0)

refused_line_lem : (line : ℕ) (r : Refusal) → written_reply (reply_of (printed_refusal line r)) ≡ refused_of (printed_refusal line r)
unfolding each
refused_line_lem line TooLong = refl
refused_line_lem line NoForm = refl
refused_line_lem line OutOfRange = refl
refused_line_lem line WrongCount = refl
refused_line_lem line (Margin row) = refl
refused_line_lem line (Residual row) = refl
refused_line_lem line (InverseResidual column row) = refl
refused_line_lem line TooShort = refl
refused_line_lem line TooEarly = refl
refused_line_lem line Repeated = refl
refused_line_lem line (Missing count) = refl
refused_line_lem line AfterEnd = refl
refused_line_lem line NotEnded = refl

pub answered : (line : ℕ) (r : Refusal) {a : Reply} {o p : List ℕ} {end : ℕ} → a ≡ reply_of (printed_refusal line r) → Wrote 707 o 0 (written_reply a) p end →
    Answered (printed_refusal line r) (refused_of (printed_refusal line r)) o p (record { reply = a; length = end })
answered line r e x = record { reply = e; wrote = wider 32768 (omega arith) (called (refused_line_lem line r) (rw e at x)) }

pub same_answer : {m n t u o p : List ℕ} {a : FileAnswer} → m ≡ n → t ≡ u → Answered m t o p a → Answered n u o p a
same_answer e f x = record { reply = x.reply ∙ ap reply_of e; wrote = called f x.wrote }
