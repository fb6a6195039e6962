-- The contract of a call for the factor, case by case.
--   LongInquiry, long_inquiry — lists that are not too short are long enough
--   FitInquiry, fit_inquiry — an inquiry that passes 8 and 3: n and t in their ranges, the numbers used in theirs
--   answer_short, answer_range, answer_low, answer_given — what is said
--   factor_any, any_factor — a factor of the problem without a scale, right side, tolerance and guess is one with any, and the other way
--   quality_short, quality_range, quality_low, quality_given — the contract where 8 is said, where 3 is, where 5 is, and where there is a factor
use mathlib.Core.Path.{◌≡◌, refl, sym, ◌∙◌}
use mathlib.Core.Bool.{true, false}
use mathlib.Core.List.{List, [], ◌∷◌}
use Prim.Native.Nat.{ℕ, ◌+◌, ◌*◌, ◌≤◌, ◌<◌}
use native.Mathlib.Omega.{arith}
use borrow.Author.Tests.{lt-ltb, le-ltb, ltb-false}
use lib.IntN.{ℤ, pos}
use lib.ListN.{length}
use Rattle.integer.proofs.Search.{first_past}
use Rattle.linear.specs.Slice.{at}
use Rattle.linear.specs.Reach.{ColumnList, MatrixList}
use Rattle.linear.proofs.Places.{square}
use Rattle.rules.specs.Range.{in_range, all_in_range, short_matrix}
use Rattle.rules.specs.declared.Kind.TheVariants as kind
use Rattle.rules.specs.declared.Refusal.TheVariants.{TooShort, OutOfRange, Margin}
use Rattle.rules.proofs.AllInRange.{all_at}
use Rattle.rules.proofs.Ranges.{both_left, both_right, neither_left, neither_right, size_range, inverse_scale_range, matrix_range, inverse_range, weight_range}
use Rattle.rules.proofs.Verdicts.{accepted_new, accepted_old, nothing_is_not}
use Rattle.enclosure.specs.Sound.{Margins}
use Rattle.enclosure.specs.Problem.{problem_of}
use Rattle.enclosure.specs.Reckoning.{defect, load, margin, margin_fails}
use Rattle.enclosure.specs.Quality.{Factor}
use Rattle.check_spec.specs.Order.{first_margin}
use Rattle.check_spec.proofs.Fit.{squared}
use Rattle.quality_spec.specs.Answer.{Quality, quality_code, numerator_of, denominator_of, quality_answer, numerator_after, denominator_after, QualityAs}
use Rattle.std.specs.Prelude.{Ok, Err}
use Rattle.quality_spec.specs.Peak.{numerator, denominator}
use Rattle.quality_spec.specs.Inquiry.{Inquiry, inquiry_problem, inquiry_short, inquiry_in_ranges, inquiry_sizes, inquiry_lists}
use Rattle.quality_spec.proofs.Peak.{peak_factor, peak_least}

-- ---- 8 and 3
pub record LongInquiry (Q : Inquiry) : Type 0 where
  pub matrix : 1024 ≤ length Q.matrix
  pub inverse : 1024 ≤ length Q.inverse
  pub weights : 32 ≤ length Q.weights

pub long_inquiry : (Q : Inquiry) → inquiry_short Q ≡ false → LongInquiry Q
long_inquiry Q h =
    let g = neither_right (short_matrix (length Q.matrix)) _ h in
    record {
      matrix = ltb-false _ 1024 (neither_left _ _ h);
      inverse = ltb-false _ 1024 (neither_left _ _ g);
      weights = ltb-false _ 32 (neither_right (short_matrix (length Q.inverse)) _ g);
    }

pub record FitInquiry (Q : Inquiry) : Type 0 where
  pub n_pos : 0 < Q.n
  pub n_max : Q.n ≤ 32
  pub scale : Q.t ≤ 20
  pub matrix : MatrixList Q.matrix Q.n
  pub inverse : MatrixList Q.inverse Q.n
  pub weights : ColumnList Q.weights Q.n 1024

pub fit_inquiry : (Q : Inquiry) → inquiry_short Q ≡ false → inquiry_in_ranges Q ≡ true → FitInquiry Q
fit_inquiry Q e f =
    let long = long_inquiry Q e in
    let sizes : inquiry_sizes Q.n Q.t ≡ true = both_left _ _ f in
    let lists : inquiry_lists Q.n Q.matrix Q.inverse Q.weights ≡ true = both_right (inquiry_sizes Q.n Q.t) _ f in
    let size = size_range Q.n (both_left _ _ sizes) in
    let n_max : Q.n ≤ 32 = size.1 in
    let rest = both_right (all_in_range kind.Matrix (Q.n * Q.n) (at Q.matrix)) _ lists in
    let light : all_in_range kind.Weight Q.n (at Q.weights) ≡ true = both_right (all_in_range kind.Inverse (Q.n * Q.n) (at Q.inverse)) _ rest in
    record {
      n_pos = size.0;
      n_max = n_max;
      scale = inverse_scale_range Q.t (both_right (in_range kind.Size (pos Q.n)) _ sizes);
      matrix = squared kind.Matrix Q.matrix Q.n matrix_range (both_left _ _ lists) (omega (arith, square n_max, long.matrix));
      inverse = squared kind.Inverse Q.inverse Q.n inverse_range (both_left _ _ rest) (omega (arith, square n_max, long.inverse));
      weights = record {
        long = omega (arith, long.weights);
        within = record { magnitudes = λ i l. (weight_range (at Q.weights i) (all_at kind.Weight Q.n (at Q.weights) light i l)).1 };
      };
    }

module _ (Q : Inquiry) where
  -- ---- what is said
  pub answer_short : inquiry_short Q ≡ true → quality_answer Q ≡ 8 ∷ []
  unfolding quality_answer
  answer_short e = rw e

  pub answer_range : inquiry_short Q ≡ false → inquiry_in_ranges Q ≡ false → quality_answer Q ≡ 3 ∷ []
  unfolding quality_answer
  answer_range e f = rw (e, f)

  module _ (e : inquiry_short Q ≡ false) (f : inquiry_in_ranges Q ≡ true) where
    pub answer_low : (m : ℕ) → m ≡ first_margin (inquiry_problem Q) → m < Q.n → quality_answer Q ≡ 5 ∷ (m + 1) ∷ []
    unfolding quality_answer
    answer_low m g l = rw (e, f, ← g) (rw (lt-ltb m Q.n l))

    pub answer_given : Q.n ≤ first_margin (inquiry_problem Q) → quality_answer Q ≡ []
    unfolding quality_answer
    answer_given l = rw (e, f, le-ltb (first_margin (inquiry_problem Q)) Q.n l)

  -- ---- a factor does not depend on scale, right side, tolerance and guess
  module _ (s : ℕ) (right tolerance guess : List ℤ) (a c : ℕ) where
    pub factor_any : Factor (inquiry_problem Q) a c → Factor (problem_of Q.n s Q.t Q.matrix right tolerance guess Q.inverse Q.weights) a c
    unfolding defect load margin
    factor_any f = record { positive = f.positive; rows = f.rows }

    pub any_factor : Factor (problem_of Q.n s Q.t Q.matrix right tolerance guess Q.inverse Q.weights) a c → Factor (inquiry_problem Q) a c
    unfolding defect load margin
    any_factor f = record { positive = f.positive; rows = f.rows }

  -- ---- the contract
  refusal : (r : Quality) (k : ℕ) (ks : List ℕ) → quality_code r ≡ k ∷ ks → quality_answer Q ≡ k ∷ ks → numerator_of r ≡ 0 → denominator_of r ≡ 0 → QualityAs Q r
  unfolding numerator_after denominator_after
  refusal r k ks s a x y = record {
    says = s ∙ sym a;
    numerator_is = x ∙ sym (accepted_old _ _ a);
    denominator_is = y ∙ sym (accepted_old _ _ a);
    factor = λ z. absurd (nothing_is_not (sym s ∙ z));
    least = λ z. absurd (nothing_is_not (sym s ∙ z));
  }

  pub quality_short : inquiry_short Q ≡ true → QualityAs Q (Err TooShort)
  quality_short e = refusal (Err TooShort) 8 [] refl (answer_short e) refl refl

  pub quality_range : inquiry_short Q ≡ false → inquiry_in_ranges Q ≡ false → QualityAs Q (Err OutOfRange)
  quality_range e f = refusal (Err OutOfRange) 3 [] refl (answer_range e f) refl refl

  -- m is the lowest row whose margin is 0 or less
  module _ (e : inquiry_short Q ≡ false) (f : inquiry_in_ranges Q ≡ true) (m : ℕ) (h : m ≡ first_margin (inquiry_problem Q)) where
    pub quality_low : m < Q.n → QualityAs Q (Err (Margin (m + 1)))
    quality_low l = refusal (Err (Margin (m + 1))) 5 ((m + 1) ∷ []) refl (answer_low e f m h l) refl refl

    pub quality_given : {a c : ℕ} → Q.n ≤ m → a ≡ numerator (inquiry_problem Q) → c ≡ denominator (inquiry_problem Q) → QualityAs Q (Ok (record { numerator = a; denominator = c }))
    unfolding numerator_after denominator_after
    quality_given {a} {c} l x y =
        let P = inquiry_problem Q in
        let z : Q.n ≤ first_margin P = omega arith in
        let given = answer_given e f z in
        let n_pos = (fit_inquiry Q e f).n_pos in
        let margins : Margins P = first_past Q.n (margin_fails P) z in
        record {
          says = sym given;
          numerator_is = x ∙ sym (accepted_new _ _ given);
          denominator_is = y ∙ sym (accepted_new _ _ given);
          factor = λ n s right tolerance guess. factor_any s right tolerance guess a c (rw (x, y) (peak_factor P n_pos margins));
          least = λ n s right tolerance guess b d g. rw (x, y) (peak_least P n_pos margins b d (any_factor s right tolerance guess b d g));
        }
