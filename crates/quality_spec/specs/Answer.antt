-- What a call for the factor says and gives: 8, 3, 5 in this order, 5 with its lowest row as a check gives it, or the factor.
--   Quality       — the answer: the factor, or a refusal
--   quality_code r — what an answer says: nothing where there is a factor, else the number of the refusal and its values
--   numerator_of r, denominator_of r — the factor, where there is one; 0 on a refusal
--   quality_order Q — the tests in their order, 8, 3, 5;  quality_answer Q — what is said of them
--   numerator_after Q, denominator_after Q — the problem's (specs/Peak) where nothing is said; 0 on a refusal
--   QualityAs     — the contract of `quality`: what is said, and the two numbers;
--     and what they are worth where nothing is said: with any scale, right side, tolerance and guess they are a `Factor` of the problem, and none is smaller
use Rattle.std.specs.Prelude.{not, List, [], ◌∷◌, ◌≡◌, ℕ, ◌+◌, ◌*◌, ◌≤◌, ltb, ℤ, Result, Ok, Err}
use Rattle.rules.specs.Order.{Test, number, verdict, if_accepted}
use Rattle.rules.specs.Refusal.{number_of, values_of}
use Rattle.rules.specs.declared.Refusal.{Refusal}
use Rattle.enclosure.specs.Problem.{problem_of}
use Rattle.enclosure.specs.Quality.{Factor}
use Rattle.check_spec.specs.Order.{first_margin}
use Rattle.quality_spec.specs.Peak.{numerator, denominator}
use Rattle.quality_spec.specs.declared.Fraction.{Fraction}
use Rattle.quality_spec.specs.Inquiry.{Inquiry, inquiry_problem, inquiry_short, inquiry_in_ranges}

abbrev pub Quality : Type 0
Quality = Result Fraction Refusal

abbrev pub quality_code : Quality → List ℕ
quality_code (Ok f) = []
quality_code (Err r) = number_of r ∷ values_of r

abbrev pub numerator_of : Quality → ℕ
numerator_of (Ok f) = f.numerator
numerator_of (Err r) = 0

abbrev pub denominator_of : Quality → ℕ
denominator_of (Ok f) = f.denominator
denominator_of (Err r) = 0

abbrev pub quality_order : Inquiry → List Test
quality_order Q =
    let m : ℕ = first_margin (inquiry_problem Q) in
    number 8 (inquiry_short Q)
    ∷ number 3 (not (inquiry_in_ranges Q))
    ∷ record { says = 5 ∷ (m + 1) ∷ []; holds = ltb m Q.n }
    ∷ []

unfoldable pub quality_answer : Inquiry → List ℕ
quality_answer Q = verdict (quality_order Q)

unfoldable pub numerator_after : Inquiry → ℕ
numerator_after Q = if_accepted (quality_answer Q) (numerator (inquiry_problem Q)) 0

unfoldable pub denominator_after : Inquiry → ℕ
denominator_after Q = if_accepted (quality_answer Q) (denominator (inquiry_problem Q)) 0

pub record QualityAs (Q : Inquiry) (r : Quality) : Type 0 where
  pub says : quality_code r ≡ quality_answer Q
  pub numerator_is : numerator_of r ≡ numerator_after Q
  pub denominator_is : denominator_of r ≡ denominator_after Q
  pub factor : quality_code r ≡ [] → (s : ℕ) (right tolerance guess : List ℤ) →
      Factor (problem_of Q.n s Q.t Q.matrix right tolerance guess Q.inverse Q.weights) (numerator_of r) (denominator_of r)
  pub least : quality_code r ≡ [] → (s : ℕ) (right tolerance guess : List ℤ) (a c : ℕ) →
      Factor (problem_of Q.n s Q.t Q.matrix right tolerance guess Q.inverse Q.weights) a c → numerator_of r * c ≤ a * denominator_of r
