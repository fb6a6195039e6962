-- The contract of the call on two proposals, case by case.
--   answer_short, answer_first, answer_second, answer_different, answer_wide, answer_found — what is said
--   long_low, long_high — the interval lists have room for the ends
--   intervals_kept — past the first n places both lists are as before, whatever is said
--   common_short, common_first, common_second, common_different, common_wide, common_found — the contract where 8 is said, where a refusal of the first or of
--     the second proposal is, where 20 is, where 21 is, and where the intervals are found
use mathlib.Core.Path.{◌≡◌, refl, sym, ap, ◌∙◌}
use mathlib.Core.Bool.{true, false, ◌||◌}
use mathlib.Core.List.{List, [], ◌∷◌}
use Prim.Native.Nat.{ℕ, ◌≤◌}
use native.Mathlib.Omega.{arith}
use borrow.Author.Tests.{ltb-false}
use lib.IntN.{ℤ, pos}
use lib.ListN.{length}
use Rattle.linear.specs.Slice.{at}
use Rattle.linear.specs.Written.{written}
use Rattle.linear.proofs.Written.{front_at}
use Rattle.rules.specs.Range.{short_column}
use Rattle.rules.specs.Refusal.{code}
use Rattle.std.specs.Prelude.{Err, Ok}
use Rattle.rules.specs.declared.Refusal.{Refusal}
use Rattle.rules.proofs.Ranges.{neither_left, neither_right}
use Rattle.rules.proofs.Verdicts.{accepted_new, accepted_old, nothing_is_not}
use Rattle.check_spec.specs.Order.{answer}
use Rattle.check_spec.proofs.Fit.{fit_of}
use Rattle.check_spec.proofs.Statements.{accepted_usable}
use Rattle.check_spec.proofs.Written.{past_kept}
use Rattle.common_spec.specs.Answer.{Common, common_code, common_answer, low_after, high_after, CommonAs}
use Rattle.common_spec.specs.declared.CommonRefusal.TheVariants.{First, Second, TooShort, Different, TooWide}
use Rattle.common_spec.specs.Proposals.{Proposals, short_intervals, same_equations, is_too_wide}
use Rattle.common_spec.specs.Ends.{low_end, high_end}
use Rattle.common_spec.proofs.Contains.{contains, contains_as}
use Rattle.common_spec.proofs.Equations.{same_of}

module _ (Q : Proposals) where
  -- ---- what is said
  pub answer_short : short_intervals Q ≡ true → common_answer Q ≡ 0 ∷ 8 ∷ []
  unfolding common_answer
  answer_short e = rw e

  module _ (e : short_intervals Q ≡ false) where
    pub answer_first : {k : ℕ} {l : List ℕ} → answer Q.first ≡ k ∷ l → common_answer Q ≡ 1 ∷ k ∷ l
    unfolding common_answer
    answer_first a = rw (e, a)

    module _ (a : answer Q.first ≡ []) where
      pub answer_second : {k : ℕ} {l : List ℕ} → answer Q.second ≡ k ∷ l → common_answer Q ≡ 2 ∷ k ∷ l
      unfolding common_answer
      answer_second b = rw (e, a, b)

      module _ (b : answer Q.second ≡ []) where
        pub answer_different : same_equations Q.first Q.second ≡ false → common_answer Q ≡ 0 ∷ 20 ∷ []
        unfolding common_answer
        answer_different s = rw (e, a, b, s)

        module _ (s : same_equations Q.first Q.second ≡ true) where
          pub answer_wide : (is_too_wide Q.first || is_too_wide Q.second) ≡ true → common_answer Q ≡ 0 ∷ 21 ∷ []
          unfolding common_answer
          answer_wide w = rw (e, a, b, s, w)

          pub answer_found : (is_too_wide Q.first || is_too_wide Q.second) ≡ false → common_answer Q ≡ []
          unfolding common_answer
          answer_found w = rw (e, a, b, s, w)

-- ---- room for the ends of n intervals
module _ (Q : Proposals) (e : short_intervals Q ≡ false) (a : answer Q.first ≡ []) where
  n_max : Q.first.n ≤ 32
  n_max = let u = accepted_usable Q.first a in (fit_of Q.first u.long u.inside).n_max

  pub long_low : Q.first.n ≤ length Q.low
  long_low = omega (arith, n_max, ltb-false (length Q.low) 32 (neither_left _ _ e))

  pub long_high : Q.first.n ≤ length Q.high
  long_high = omega (arith, n_max, ltb-false (length Q.high) 32 (neither_right (short_column (length Q.low)) _ e))

-- ---- the contract
module _ (Q : Proposals) where
  refused : (r : Common) {k : ℕ} {l : List ℕ} → common_code r ≡ k ∷ l → common_answer Q ≡ k ∷ l → CommonAs Q r Q.low Q.high
  unfolding low_after high_after
  refused r s a = record {
    says = s ∙ sym a;
    low_is = sym (accepted_old _ _ a);
    high_is = sym (accepted_old _ _ a);
    contains = λ z. absurd (nothing_is_not (sym s ∙ z));
  }

  pub common_short : short_intervals Q ≡ true → CommonAs Q (Err TooShort) Q.low Q.high
  common_short e = refused (Err TooShort) refl (answer_short Q e)

  module _ (e : short_intervals Q ≡ false) where
    pub common_first : (r : Refusal) → code (Err r) ≡ answer Q.first → CommonAs Q (Err (First r)) Q.low Q.high
    common_first r a = refused (Err (First r)) refl (answer_first Q e (sym a))

    module _ (a : answer Q.first ≡ []) where
      pub common_second : (r : Refusal) → code (Err r) ≡ answer Q.second → CommonAs Q (Err (Second r)) Q.low Q.high
      common_second r b = refused (Err (Second r)) refl (answer_second Q e a (sym b))

      module _ (b : answer Q.second ≡ []) where
        pub common_different : same_equations Q.first Q.second ≡ false → CommonAs Q (Err Different) Q.low Q.high
        common_different s = refused (Err Different) refl (answer_different Q e a b s)

        module _ (s : same_equations Q.first Q.second ≡ true) where
          pub common_wide : (is_too_wide Q.first || is_too_wide Q.second) ≡ true → CommonAs Q (Err TooWide) Q.low Q.high
          common_wide w = refused (Err TooWide) refl (answer_wide Q e a b s w)

          abbrev n : ℕ
          n = Q.first.n

          pub common_found : (is_too_wide Q.first || is_too_wide Q.second) ≡ false → {low high : List ℤ} → low ≡ written Q.low 0 1 (low_end Q.first Q.second) n →
              high ≡ written Q.high 0 1 (high_end Q.first Q.second) n → CommonAs Q (Ok tt) low high
          unfolding low_after high_after
          common_found w {low} {high} l h =
              let f : common_answer Q ≡ [] = answer_found Q e a b s w in
              record {
                says = sym f;
                low_is = l ∙ sym (accepted_new _ _ f);
                high_is = h ∙ sym (accepted_new _ _ f);
                contains = λ z. contains_as Q.first Q.second (low_end Q.first Q.second) (at low) (high_end Q.first Q.second) (at high)
                    (λ i li. rw l (front_at Q.low (low_end Q.first Q.second) (pos 0) n i li (long_low Q e a)))
                    (λ i li. rw h (front_at Q.high (high_end Q.first Q.second) (pos 0) n i li (long_high Q e a)))
                    (contains Q.first Q.second a b (same_of Q.first Q.second s));
              }

-- ---- past the first n places
pub intervals_kept : (Q : Proposals) (r : Common) (low high : List ℤ) → CommonAs Q r low high → (k : ℕ) → Q.first.n ≤ k → (at low k ≡ at Q.low k) × (at high k ≡ at Q.high k)
unfolding low_after high_after
intervals_kept Q r low high x k h = (
  ap (λ (xs : List ℤ). at xs k) x.low_is ∙ past_kept (pos 0) (common_answer Q) Q.first.n Q.low (low_end Q.first Q.second) k h,
  ap (λ (xs : List ℤ). at xs k) x.high_is ∙ past_kept (pos 0) (common_answer Q) Q.first.n Q.high (high_end Q.first Q.second) k h,
)
