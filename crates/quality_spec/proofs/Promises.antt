-- What the contract of `quality` promises (specs/Stated).
--   quality_stated, code_quality — each of 8, 3 and 5 is said exactly where its stated case holds, and nothing exactly where there is a factor
--   given_usable   — there is a factor of a usable inquiry alone;  given_margins — and where every margin is above 0
--   zero_given     — by the number alone: 0 is said where there is a factor
--   parts_fit      — the numerator is below 2^31 and the denominator at most 2^30, so the product of one row's and another's is below 2^62
--   accepted_given — of every accepted check there is a factor
use mathlib.Core.Path.{◌≡◌, refl, sym, subst}
use mathlib.Core.Bool.{Bool, true, false}
use mathlib.Core.List.{List, []}
use Prim.Native.Nat.{ℕ, ◌*◌, ◌^◌, ◌≤◌, ◌<◌}
use native.Mathlib.Omega.{arith}
use native.Mathlib.Nat.{mul-le-mul, pow-le-pow_right}
use borrow.Author.Tests.{le-ltb}
use lib.IntN.{pos, nat_abs}
use lib.ListN.{get_or}
use Rattle.integer.proofs.Search.{Searched, found, nowhere, searched, first_is, first_never}
use Rattle.linear.specs.Slice.{at}
use Rattle.rules.specs.Range.{in_range, all_in_range}
use Rattle.rules.specs.declared.Kind.TheVariants as kind
use Rattle.rules.proofs.Ranges.{both, both_left, both_right, neither}
use Rattle.rules.proofs.Verdicts.{nothing_is_not}
use Rattle.enclosure.specs.Sound.{Margins}
use Rattle.enclosure.specs.Reckoning.{defect, load, margin, margin_fails}
use Rattle.enclosure.proofs.Margin.{margin_sum, margin_above}
use Rattle.check_spec.specs.Input as check
use Rattle.check_spec.specs.Order as checking
use Rattle.check_spec.specs.Stated.{Usable, Stated, too_short, out_of_range, margin_low, residual_large, inverse_large, accepted}
use Rattle.check_spec.proofs.Lengths.{long_of}
use Rattle.check_spec.proofs.Statements.{stated, accepted_usable}
use Rattle.quality_spec.specs.Peak.{peak_row, numerator, denominator}
use Rattle.quality_spec.specs.Inquiry.{Inquiry, inquiry, inquiry_problem, inquiry_short, inquiry_in_ranges}
use Rattle.quality_spec.specs.Answer.{quality_answer}
use Rattle.quality_spec.specs.Stated.{UsableInquiry, QualityStated, is_8, is_3, is_5, is_0}
use Rattle.quality_spec.proofs.Peak.{largest_ratio_row}
use Rattle.quality_spec.proofs.Contract.{fit_inquiry, answer_short, answer_range, answer_low, answer_given}

-- ---- the answer decides which case it was
module _ (Q : Inquiry) where
  at_margins : UsableInquiry Q → Searched Q.n (margin_fails (inquiry_problem Q)) → QualityStated Q (quality_answer Q)
  at_margins u (found m l e p h) = subst (QualityStated Q) (sym (answer_low Q u.long u.inside m (sym e) l)) (is_5 m u l p h)
  at_margins u (nowhere e h) = subst (QualityStated Q) (sym (answer_given Q u.long u.inside (omega arith))) (is_0 u h)

  pub quality_stated : QualityStated Q (quality_answer Q)
  quality_stated = go (inquiry_short Q) refl (inquiry_in_ranges Q) refl
    where
      go : (x : Bool) → inquiry_short Q ≡ x → (y : Bool) → inquiry_in_ranges Q ≡ y → QualityStated Q (quality_answer Q)
      go true e y f = subst (QualityStated Q) (sym (answer_short Q e)) (is_8 e)
      go false e false f = subst (QualityStated Q) (sym (answer_range Q e f)) (is_3 e f)
      go false e true f = at_margins (record { long = e; inside = f }) (searched Q.n (margin_fails (inquiry_problem Q)))

  pub code_quality : {w : List ℕ} → QualityStated Q w → quality_answer Q ≡ w
  code_quality (is_8 e) = answer_short Q e
  code_quality (is_3 e f) = answer_range Q e f
  code_quality (is_5 m u l p h) =
      answer_low Q u.long u.inside m (sym (first_is Q.n (margin_fails (inquiry_problem Q)) m l p h)) l
  code_quality (is_0 u h) = answer_given Q u.long u.inside (omega (arith, first_never Q.n (margin_fails (inquiry_problem Q)) h))

  given_case : {w : List ℕ} → QualityStated Q w → w ≡ [] → UsableInquiry Q × Margins (inquiry_problem Q)
  given_case (is_8 e) z = absurd (nothing_is_not z)
  given_case (is_3 e f) z = absurd (nothing_is_not z)
  given_case (is_5 m u l p h) z = absurd (nothing_is_not z)
  given_case (is_0 u h) z = (u, h)

  pub given_usable : quality_answer Q ≡ [] → UsableInquiry Q
  given_usable z = (given_case quality_stated z).0

  pub given_margins : quality_answer Q ≡ [] → Margins (inquiry_problem Q)
  given_margins z = (given_case quality_stated z).1

  by_number : {w : List ℕ} → QualityStated Q w → get_or w 0 0 ≡ 0 → w ≡ []
  by_number (is_8 e) z = absurd (omega arith)
  by_number (is_3 e f) z = absurd (omega arith)
  by_number (is_5 m u l p h) z = absurd (omega arith)
  by_number (is_0 u h) z = refl

  pub zero_given : get_or (quality_answer Q) 0 0 ≡ 0 → quality_answer Q ≡ []
  zero_given = by_number quality_stated

  -- ---- magnitudes
  pub parts_fit : quality_answer Q ≡ [] → (numerator (inquiry_problem Q) < 2 ^ 31) × (denominator (inquiry_problem Q) ≤ 2 ^ 30)
  parts_fit z =
      let P = inquiry_problem Q in
      let u = given_usable z in
      let h = given_margins z in
      let f = fit_inquiry Q u.long u.inside in
      let k : ℕ = peak_row P in
      let l = (largest_ratio_row P f.n_pos h).below in
      let full : 2 ^ Q.t * nat_abs (at Q.weights k) ≤ 2 ^ 20 * 1024 =
      mul-le-mul (pow-le-pow_right {n = 2} (omega arith) {i = Q.t} {j = 20} f.scale) (f.weights.within.magnitudes k l) in
      (omega (arith, full, margin_sum P k (h k l), margin_above P k (h k l)), omega (arith, full, margin_sum P k (h k l)))

-- ---- checks
module _ (I : check.Input) where
  abbrev asked : Inquiry
  asked = inquiry I.n I.t I.matrix I.inverse I.weights

  sound_case : {w : List ℕ} → Stated I w → w ≡ [] → Margins (check.problem I)
  sound_case (too_short e) z = absurd (nothing_is_not z)
  sound_case (out_of_range e f) z = absurd (nothing_is_not z)
  sound_case (margin_low m u l p h) z = absurd (nothing_is_not z)
  sound_case (residual_large k u m l p h) z = absurd (nothing_is_not z)
  sound_case (inverse_large j k u m r lj lk p q h) z = absurd (nothing_is_not z)
  sound_case (accepted u x) z = x.margins

  margins_too : Margins (check.problem I) → Margins (inquiry_problem asked)
  unfolding defect load margin
  margins_too h = h

  usable_too : Usable I → UsableInquiry asked
  usable_too u =
      let long = long_of I u.long in
      let sizes : check.sizes_in_range I.n I.s I.t ≡ true = both_left _ _ u.inside in
      let scales = both_right (in_range kind.Size (pos I.n)) _ sizes in
      let l1 : check.lists_in_range I.n I.matrix I.right I.tolerance I.guess I.inverse I.weights ≡ true = both_right (check.sizes_in_range I.n I.s I.t) _ u.inside in
      let l2 = both_right (all_in_range kind.Matrix (I.n * I.n) (at I.matrix)) _ l1 in
      let l3 = both_right (all_in_range kind.Right I.n (at I.right)) _ l2 in
      let l4 = both_right (all_in_range kind.Tolerance I.n (at I.tolerance)) _ l3 in
      record {
        long = neither (le-ltb _ 1024 long.matrix) (neither (le-ltb _ 1024 long.inverse) (le-ltb _ 32 long.weights));
        inside = both (both (both_left (in_range kind.Size (pos I.n)) _ sizes) (both_right (in_range kind.SolutionScale (pos I.s)) _ scales))
            (both (both_left (all_in_range kind.Matrix (I.n * I.n) (at I.matrix)) _ l1) (both_right (all_in_range kind.Guess I.n (at I.guess)) _ l4));
      }

  pub accepted_given : checking.answer I ≡ [] → quality_answer asked ≡ []
  accepted_given z = code_quality asked (is_0 (usable_too (accepted_usable I z)) (margins_too (sound_case (stated I) z)))
