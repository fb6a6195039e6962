-- What is promised beyond the papers: how good the limits are, and more on whole files.
use Rattle.std.specs.Prelude.{List, [], ◌↔◌, ◌≡◌, ℕ, ◌*◌, ◌≤◌, ℤ, take}
use Rattle.integer.specs.Among.{Among}
use Rattle.linear.specs.Matrix.{Vec}
use Rattle.line_form.specs.Form.{Form}
use Rattle.enclosure.specs.Demand.{NoTolerance, ExactSolution}
use Rattle.enclosure.specs.Problem.{Problem, problem_of}
use Rattle.enclosure.specs.Quality.{Factor, NeverFar}
use Rattle.good_limits.specs.Good.{Good}
use Rattle.quality_spec.specs.Answer.{quality_code, numerator_of, denominator_of, QualityAs, Quality}
use Rattle.quality_spec.specs.Inquiry.{Inquiry}
use Rattle.dependent_spec.specs.Nets.{Nets}
use Rattle.dependent_spec.specs.Order.{nets_code, CheckedNets}
use Rattle.dependent_spec.specs.Together.{CheckedTogether}
use Rattle.accepted_limits.specs.TwoNets.{GoodNets}
use Rattle.loader_runs.specs.Holds.{ComputedSays}
use Rattle.loader_runs.specs.Lines.{lines_of}
use Rattle.loader_runs.specs.Run.{forms}
use Rattle.file_shape.specs.Shape.{Shaped}
use Rattle.listing_refusal.specs.Reply.{reply_of}
use Rattle.listing_refusal.specs.declared.FileAnswer.{FileAnswer}
use Rattle.listing.specs.Listing.{ListedAs, AnsweredAs}
use Rattle.listing.specs.Complete.{Complete}
use Rattle.promises.specs.Ways.{Accepted}

-- ---- How good the limits are
-- no limit is far above a true error: `Good` has the factor of the proposal, the right side at the ends of the tolerances where a true error is so large, and what
-- a limit of 0 means
abbrev pub AcceptedGood : Type 0
AcceptedGood = (P : Problem) (E : ℕ → ℕ) (L : ℕ → ℕ → ℕ) → Accepted P E L → Good P E L

abbrev pub BothAcceptedGood : Type 0
BothAcceptedGood = (J : Nets) (r : CheckedNets) (E₁ L₁ E₂ L₂ : List ℕ) → CheckedTogether J r E₁ L₁ E₂ L₂ → nets_code r ≡ [] → GoodNets J E₁ L₁ E₂ L₂

-- the call for the factor: with numerator over denominator no limit of an accepted check of these numbers is far above a true error of b, and no smaller factor is one
abbrev pub FactorServes : Type 0
FactorServes =
    (Q : Inquiry) (r : Quality) → QualityAs Q r → quality_code r ≡ [] → (s : ℕ) (right tolerance guess : List ℤ) →
    let P = problem_of Q.n s Q.t Q.matrix right tolerance guess Q.inverse Q.weights in
    (E : ℕ → ℕ) (L : ℕ → ℕ → ℕ) → Accepted P E L → NoTolerance P → (N : Vec) (q : ℕ) → ExactSolution P N q → NeverFar P (numerator_of r) (denominator_of r) E N q

abbrev pub FactorLeast : Type 0
FactorLeast =
    (Q : Inquiry) (r : Quality) → QualityAs Q r → quality_code r ≡ [] → (s : ℕ) (right tolerance guess : List ℤ) (a c : ℕ) →
    Factor (problem_of Q.n s Q.t Q.matrix right tolerance guess Q.inverse Q.weights) a c → numerator_of r * c ≤ a * denominator_of r

-- ---- Whole files
-- a file of 01's shape is accepted or refused with 5, 6 or 7, and with nothing else: never "missing" or "not ended" for a complete file
abbrev pub ShapedAnswers : Type 0
ShapedAnswers = (file old new : List ℕ) (r : FileAnswer) → AnsweredAs file old new r → Shaped file → (w : List ℕ) × (ComputedSays w × (r.reply ≡ reply_of w))

-- "the rest in any order": complete files with the same forms, in whatever order, have the same listing
abbrev pub AnyOrderSame : Type 0
AnyOrderSame =
    (file file' : List ℕ) → Complete file → Complete file' → ((f : Form) → Among f (forms (lines_of file)) ↔ Among f (forms (lines_of file'))) →
    (old new old' new' : List ℕ) (count count' : ℕ) → ListedAs file old new count → ListedAs file' old' new' count' → take count new ≡ take count' new'
