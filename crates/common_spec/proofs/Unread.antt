-- The rest of each list is not read by a call on two proposals (specs/Agree); that it is not written is `rest_kept` (Contract).
--   chained     — the same equations, from one to a second and on to a third
--   same_common — two calls that agree on the places used say the same, and where nothing is said write the same
use mathlib.Core.Path.{◌≡◌, refl, sym, ap, ap₂, ◌∙◌, subst}
use mathlib.Core.Bool.{Bool, true, false}
use mathlib.Core.List.{List, []}
use Prim.Native.Nat.{ℕ, ◌<◌}
use lib.Dec.{ltb}
use lib.IntN.{ℤ, pos, ◌+ℤ◌, ◌-ℤ◌}
use Rattle.integer.proofs.Search.{largest_ext}
use Rattle.linear.specs.Slice.{at}
use Rattle.linear.proofs.Written.{same_written}
use Rattle.rules.proofs.Verdicts.{accepted_new}
use Rattle.enclosure.specs.Reckoning.{bound}
use Rattle.check_spec.specs.Agree.{Agree}
use Rattle.check_spec.specs.Input.{Input, problem}
use Rattle.check_spec.specs.Order.{answer}
use Rattle.check_spec.proofs.Agreed.{like, like_is, like_bound, same_answer}
use Rattle.common_spec.specs.Answer.{Common, common_code, common_answer, low_after, high_after, CommonAs}
use Rattle.common_spec.specs.Proposals.{Proposals, proposals, same_equations, most_steps, is_too_wide}
use Rattle.common_spec.specs.Ends.{maxℤ, minℤ, finer, in_steps, low_end, high_end}
use Rattle.common_spec.specs.Stated.{SameEquations}
use Rattle.common_spec.specs.Agree.{AgreeingProposals, SameCommon}
use Rattle.common_spec.proofs.Contract.{long_low, long_high}
use Rattle.common_spec.proofs.Equations.{same_of, of_same, exchanged_same}
use Rattle.common_spec.proofs.Statements.{FoundCase, found_case}

-- ---- the equations of one proposal
pub chained : (I J K : Input) → SameEquations I J → SameEquations J K → SameEquations I K
chained I J K x y = record {
  n = x.n ∙ y.n;
  matrix = λ k l. x.matrix k l ∙ y.matrix k (rw (← x.n) l);
  right = λ k l. x.right k l ∙ y.right k (rw (← x.n) l);
  tolerance = λ k l. x.tolerance k l ∙ y.tolerance k (rw (← x.n) l);
}

agree_equations : (I J : Input) → Agree I J → SameEquations I J
agree_equations I J a = record { n = a.n; matrix = a.matrix; right = a.right; tolerance = a.tolerance }

-- two tests that hold alike are one
tests_alike : (x y : Bool) → (x ≡ true → y ≡ true) → (y ≡ true → x ≡ true) → x ≡ y
tests_alike true y h k = sym (h refl)
tests_alike false true h k = k refl
tests_alike false false h k = refl

wide_same : (I J : Input) (a : Agree I J) → is_too_wide I ≡ is_too_wide J
wide_same I J a =
    ap (ltb most_steps) (largest_ext I.n (bound (problem I)) (bound (problem (like I J a))) (like_bound I J a)) ∙ ap is_too_wide (like_is I J a)

module _ (Q R : Proposals) (a : AgreeingProposals Q R) where
  -- R with the n, s and t of Q, which are its own
  abbrev R' : Proposals
  R' = proposals (like Q.first R.first a.first) (like Q.second R.second a.second) R.low R.high

  R'_is : R' ≡ R
  R'_is = rw (like_is Q.first R.first a.first, like_is Q.second R.second a.second)

  equations_alike : same_equations Q.first Q.second ≡ same_equations R.first R.second
  equations_alike =
      let x = agree_equations Q.first R.first a.first in
      let y = agree_equations Q.second R.second a.second in
      tests_alike _ _
      (λ e. of_same R.first R.second (chained _ _ _ (exchanged_same _ _ x) (chained _ _ _ (same_of Q.first Q.second e) y)))
      (λ e. of_same Q.first Q.second (chained _ _ _ x (chained _ _ _ (same_of R.first R.second e) (exchanged_same _ _ y))))

  answer_alike : common_answer Q ≡ common_answer R
  unfolding common_answer
  answer_alike =
      rw (
        a.long,
        a.long',
        same_answer Q.first R.first a.first,
        same_answer Q.second R.second a.second,
        equations_alike,
        wide_same Q.first R.first a.first,
        wide_same Q.second R.second a.second,
      )

  -- ---- the ends
  first_end : (i : ℕ) → i < Q.first.n → (f : ℤ → ℤ → ℤ) →
      f (at Q.first.guess i) (pos (bound (problem Q.first) i)) ≡ f (at R.first.guess i) (pos (bound (problem R'.first) i))
  first_end i l f = ap₂ (λ (x : ℤ) (e : ℕ). f x (pos e)) (a.first.guess i l) (like_bound Q.first R.first a.first i l)

  second_end : (i : ℕ) → i < Q.second.n → (f : ℤ → ℤ → ℤ) →
      f (at Q.second.guess i) (pos (bound (problem Q.second) i)) ≡ f (at R.second.guess i) (pos (bound (problem R'.second) i))
  second_end i l f = ap₂ (λ (x : ℤ) (e : ℕ). f x (pos e)) (a.second.guess i l) (like_bound Q.second R.second a.second i l)

  module _ (found : FoundCase Q) where
    abbrev s : ℕ
    s = finer Q.first Q.second

    low_alike : (i : ℕ) → i < Q.first.n → low_end Q.first Q.second i ≡ low_end R'.first R'.second i
    unfolding low_end
    low_alike i l =
        ap₂ (λ (x y : ℤ). maxℤ (in_steps s Q.first x) (in_steps s Q.second y)) (first_end i l (λ x e. x -ℤ e)) (second_end i (rw (← found.same.n) l) (λ x e. x -ℤ e))

    high_alike : (i : ℕ) → i < Q.first.n → high_end Q.first Q.second i ≡ high_end R'.first R'.second i
    unfolding high_end
    high_alike i l =
        ap₂ (λ (x y : ℤ). minℤ (in_steps s Q.first x) (in_steps s Q.second y)) (first_end i l (λ x e. x +ℤ e)) (second_end i (rw (← found.same.n) l) (λ x e. x +ℤ e))

pub same_common : (Q R : Proposals) → AgreeingProposals Q R → {r r' : Common} {low high low' high' : List ℤ} →
    CommonAs Q r low high → CommonAs R r' low' high' → SameCommon Q r r' low high low' high'
unfolding low_after high_after
same_common Q R a {r} {r'} {low} {high} {low'} {high'} c d = record {
  says = c.says ∙ answer_alike Q R a ∙ sym d.says;
  low_same = λ z.
      let f = found_case Q (none z) in
      same_written (pos 0) Q.first.n Q.low R.low (low_end Q.first Q.second) (low_end (R' Q R a).first (R' Q R a).second)
      (long_low Q a.long f.first) (long_low (R' Q R a) a.long' (first_code z)) (low_alike Q R a f)
      (c.low_is ∙ accepted_new _ _ (none z)) (d'.low_is ∙ accepted_new _ _ (none' z));
  high_same = λ z.
      let f = found_case Q (none z) in
      same_written (pos 0) Q.first.n Q.high R.high (high_end Q.first Q.second) (high_end (R' Q R a).first (R' Q R a).second)
      (long_high Q a.long f.first) (long_high (R' Q R a) a.long' (first_code z)) (high_alike Q R a f)
      (c.high_is ∙ accepted_new _ _ (none z)) (d'.high_is ∙ accepted_new _ _ (none' z));
}
  where
    d' : CommonAs (R' Q R a) r' low' high'
    d' = subst (λ (X : Proposals). CommonAs X r' low' high') (sym (R'_is Q R a)) d

    none : common_code r ≡ [] → common_answer Q ≡ []
    none z = sym c.says ∙ z

    none' : common_code r ≡ [] → common_answer (R' Q R a) ≡ []
    none' z = ap common_answer (R'_is Q R a) ∙ sym (answer_alike Q R a) ∙ none z

    first_code : common_code r ≡ [] → answer (R' Q R a).first ≡ []
    first_code z = (found_case (R' Q R a) (none' z)).first
