-- Each refusal of two nets is said exactly where its stated case holds and nothing earlier does (specs/Stated).
--   answer_short, answer_range, answer_ready — what is said of the dependent net, by the tests 8 and 3
--   stated_dependent, code_of_dependent — of the dependent net: what is said has its stated case, and what has its stated case is said
--   stated_together, code_of_together — of both
--   Passed D, passed_of — what holds where nothing is said of the dependent net
use mathlib.Core.Path.{◌≡◌, refl, sym, ◌∙◌, subst}
use mathlib.Core.Bool.{Bool, true, false}
use mathlib.Core.List.{List, [], ◌∷◌}
use Prim.Native.Nat.{ℕ, ◌+◌, ◌*◌, ◌/◌, ◌%◌, ◌<◌}
use native.Mathlib.Omega.{arith}
use native.Mathlib.Nat.{mod-lt, div-lt_iff_lt-mul, div-add-mod', mul-le-mul_right}
use borrow.Author.Tests.{lt-ltb, le-ltb}
use lib.ListN.{length}
use Rattle.integer.proofs.Search.{Searched, found, nowhere, searched, first_is, first_never}
use Rattle.linear.proofs.Places.{place, place_column, place_row}
use Rattle.rules.specs.Range.{short_matrix}
use Rattle.rules.proofs.Ranges.{both_left, neither_right}
use Rattle.rules.proofs.Verdicts.{nothing_is_not}
use Rattle.enclosure.specs.Sound.{Margins}
use Rattle.enclosure.specs.Problem.{column_of}
use Rattle.enclosure.specs.Reckoning.{margin_fails, exceeds}
use Rattle.check_spec.specs.Order.{first_margin, first_inverse_place, answer}
use Rattle.check_spec.specs.Stated.{Stated}
use Rattle.check_spec.proofs.Fit.{Fit, fit_of}
use Rattle.check_spec.proofs.Places.{first_place, no_place}
use Rattle.check_spec.proofs.Statements as main
use Rattle.dependent_spec.specs.Nets.{Nets, DependentNet, dependent_of}
use Rattle.dependent_spec.specs.Reckoning.{own_problem, dependent_exceeds}
use Rattle.dependent_spec.specs.Order.{dependent_short, dependent_in_ranges, first_dependent_residual, dependent_computed, dependent_answer, joint_answer}
use Rattle.dependent_spec.specs.Stated.{UsableDependent, DependentResiduals, StatedDependent, too_short, out_of_range, margin_low, residual_large, inverse_large, accepted, StatedTogether, of_main, of_dependent, both_accepted}

module _ (D : DependentNet) where
  abbrev n : ℕ
  n = D.own.n

  pub answer_short : dependent_short D ≡ true → dependent_answer D ≡ 8 ∷ []
  unfolding dependent_answer
  answer_short e = rw e

  pub answer_range : dependent_short D ≡ false → dependent_in_ranges D ≡ false → dependent_answer D ≡ 3 ∷ []
  unfolding dependent_answer
  answer_range e f = rw (e, f)

  pub answer_ready : dependent_short D ≡ false → dependent_in_ranges D ≡ true → dependent_answer D ≡ dependent_computed D
  unfolding dependent_answer
  answer_ready e f = rw (e, f)

  -- the dependent net's own lists and numbers, as in a check by itself
  pub own_fit : UsableDependent D → Fit D.own
  own_fit u = fit_of D.own (neither_right (short_matrix (length D.coupling)) _ u.long) (both_left _ _ u.inside)

  -- the test of 7 at a place, column after column
  large : ℕ → Bool
  large i = exceeds (column_of (own_problem D) (i / n)) (i % n)

  -- what is said, by the first row of each kind
  code_5 : (m : ℕ) → first_margin (own_problem D) ≡ m → m < n → dependent_computed D ≡ 5 ∷ (m + 1) ∷ []
  code_5 m e l = rw e (rw (lt-ltb m n l))

  code_6 : (k : ℕ) → first_margin (own_problem D) ≡ n → first_dependent_residual D ≡ k → k < n → dependent_computed D ≡ 6 ∷ (k + 1) ∷ []
  code_6 k e f l = rw (e, f) (rw (le-ltb n n (omega arith), lt-ltb k n l))

  code_7 : (i : ℕ) → first_margin (own_problem D) ≡ n → first_dependent_residual D ≡ n → first_inverse_place (own_problem D) ≡ i → i < n * n →
      dependent_computed D ≡ 7 ∷ (i / n + 1) ∷ (i % n + 1) ∷ []
  code_7 i e f g l = rw (e, f, g) (rw (le-ltb n n (omega arith), lt-ltb i (n * n) l))

  code_0 : first_margin (own_problem D) ≡ n → first_dependent_residual D ≡ n → first_inverse_place (own_problem D) ≡ n * n → dependent_computed D ≡ []
  code_0 e f g = rw (e, f, g) (rw (le-ltb n n (omega arith), le-ltb (n * n) (n * n) (omega arith)))

  module _ (u : UsableDependent D) where
    says : {l : List ℕ} → dependent_computed D ≡ l → dependent_answer D ≡ l
    says e = answer_ready u.long u.inside ∙ e

    n_pos : 0 < n
    n_pos = (own_fit u).n_pos

    -- 7 and acceptance
    at_columns : Margins (own_problem D) → DependentResiduals D → first_margin (own_problem D) ≡ n → first_dependent_residual D ≡ n → Searched (n * n) large →
        StatedDependent D (dependent_answer D)
    unfolding large
    at_columns m r e f (found i l g p h) =
        subst (StatedDependent D) (sym (says (code_7 i e f g l)))
        (inverse_large (i / n) (i % n) u m r ((div-lt_iff_lt-mul n_pos).1 l) (mod-lt i n_pos) p
        (λ c lc x lx. rw (place_column c x n lx, place_row c x n lx) at (h (c * n + x) (below c x lc lx)))
        (λ x lx. rw (place_column (i / n) x n (omega (arith, mod-lt i n_pos)), place_row (i / n) x n (omega (arith, mod-lt i n_pos))) at (h (i / n * n + x) (omega (arith, div-add-mod' i n)))))
      where
        below : (c x : ℕ) → c < i / n → x < n → c * n + x < i
        below c x lc lx = omega (arith, div-add-mod' i n, mul-le-mul_right n lc)
    at_columns m r e f (nowhere g h) =
        subst (StatedDependent D) (sym (says (code_0 e f g)))
        (accepted u m r (λ j lj k lk. rw (place_column j k n lk, place_row j k n lk) at (h (j * n + k) (place lj lk))))

    at_residuals : Margins (own_problem D) → first_margin (own_problem D) ≡ n → Searched n (dependent_exceeds D) → StatedDependent D (dependent_answer D)
    at_residuals m e (found k l f p h) = subst (StatedDependent D) (sym (says (code_6 k e f l))) (residual_large k u m l p h)
    at_residuals m e (nowhere f h) = at_columns m h e f (searched (n * n) large)

    at_margins : Searched n (margin_fails (own_problem D)) → StatedDependent D (dependent_answer D)
    at_margins (found m l e p h) = subst (StatedDependent D) (sym (says (code_5 m e l))) (margin_low m u l p h)
    at_margins (nowhere e h) = at_residuals h e (searched n (dependent_exceeds D))

  pub stated_dependent : StatedDependent D (dependent_answer D)
  stated_dependent = go (dependent_short D) refl (dependent_in_ranges D) refl
    where
      go : (x : Bool) → dependent_short D ≡ x → (y : Bool) → dependent_in_ranges D ≡ y → StatedDependent D (dependent_answer D)
      go true e y f = subst (StatedDependent D) (sym (answer_short e)) (too_short e)
      go false e false f = subst (StatedDependent D) (sym (answer_range e f)) (out_of_range e f)
      go false e true f = at_margins (record { long = e; inside = f }) (searched n (margin_fails (own_problem D)))

  no_margin : Margins (own_problem D) → first_margin (own_problem D) ≡ n
  no_margin m = first_never n (margin_fails (own_problem D)) m

  no_residual : DependentResiduals D → first_dependent_residual D ≡ n
  no_residual r = first_never n (dependent_exceeds D) r

  pub code_of_dependent : {l : List ℕ} → StatedDependent D l → dependent_answer D ≡ l
  code_of_dependent (too_short e) = answer_short e
  code_of_dependent (out_of_range e f) = answer_range e f
  code_of_dependent (margin_low m u l p h) = says u (code_5 m (first_is n (margin_fails (own_problem D)) m l p h) l)
  code_of_dependent (residual_large k u m l p h) = says u (code_6 k (no_margin m) (first_is n (dependent_exceeds D) k l p h) l)
  code_of_dependent (inverse_large j k u m r lj lk p q h) =
      says u (code_7 (j * n + k) (no_margin m) (no_residual r) (first_place (own_problem D) j k lj lk p q h) (place lj lk)
      ∙ rw (place_column j k n lk, place_row j k n lk))
  code_of_dependent (accepted u m r c) = says u (code_0 (no_margin m) (no_residual r) (no_place (own_problem D) (n_pos u) c))

-- ---- nothing is said of the dependent net
pub record Passed (D : DependentNet) : Type 0 where
  pub usable : UsableDependent D
  pub margins : Margins (own_problem D)
  pub residuals : DependentResiduals D

accepted_passed : (D : DependentNet) {l : List ℕ} → StatedDependent D l → l ≡ [] → Passed D
accepted_passed D (too_short e) z = absurd (nothing_is_not z)
accepted_passed D (out_of_range e f) z = absurd (nothing_is_not z)
accepted_passed D (margin_low m u l p h) z = absurd (nothing_is_not z)
accepted_passed D (residual_large k u m l p h) z = absurd (nothing_is_not z)
accepted_passed D (inverse_large j k u m r lj lk p q h) z = absurd (nothing_is_not z)
accepted_passed D (accepted u m r c) z = record { usable = u; margins = m; residuals = r }

pub passed_of : (D : DependentNet) → dependent_answer D ≡ [] → Passed D
passed_of D e = accepted_passed D (stated_dependent D) e

-- ---- both nets
module _ (J : Nets) where
  pub joint_main : {k : ℕ} {ks : List ℕ} → answer J.main ≡ k ∷ ks → joint_answer J ≡ 1 ∷ k ∷ ks
  unfolding joint_answer
  joint_main e = rw e

  pub joint_dependent : {k : ℕ} {ks : List ℕ} → answer J.main ≡ [] → dependent_answer (dependent_of J) ≡ k ∷ ks → joint_answer J ≡ 2 ∷ k ∷ ks
  unfolding joint_answer
  joint_dependent e f = rw (e, f)

  pub joint_accepted : answer J.main ≡ [] → dependent_answer (dependent_of J) ≡ [] → joint_answer J ≡ []
  unfolding joint_answer
  joint_accepted e f = rw (e, f)

  pub stated_together : StatedTogether J (joint_answer J)
  stated_together = go (answer J.main) refl (dependent_answer (dependent_of J)) refl
    where
      go : (x : List ℕ) → answer J.main ≡ x → (y : List ℕ) → dependent_answer (dependent_of J) ≡ y → StatedTogether J (joint_answer J)
      go (k ∷ ks) e y f = subst (StatedTogether J) (sym (joint_main e)) (of_main k ks (subst (Stated J.main) e (main.stated J.main)))
      go [] e (k ∷ ks) f =
          subst (StatedTogether J) (sym (joint_dependent e f))
          (of_dependent k ks (subst (Stated J.main) e (main.stated J.main)) (subst (StatedDependent (dependent_of J)) f (stated_dependent (dependent_of J))))
      go [] e [] f =
          subst (StatedTogether J) (sym (joint_accepted e f))
          (both_accepted (subst (Stated J.main) e (main.stated J.main)) (subst (StatedDependent (dependent_of J)) f (stated_dependent (dependent_of J))))

  pub code_of_together : {l : List ℕ} → StatedTogether J l → joint_answer J ≡ l
  code_of_together (of_main k ks x) = joint_main (main.code_of_lem J.main x)
  code_of_together (of_dependent k ks x y) = joint_dependent (main.code_of_lem J.main x) (code_of_dependent (dependent_of J) y)
  code_of_together (both_accepted x y) = joint_accepted (main.code_of_lem J.main x) (code_of_dependent (dependent_of J) y)
