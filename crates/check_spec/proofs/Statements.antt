-- Each refusal is said exactly where its stated case holds and nothing earlier does (specs/Stated).
--   stated — what is said has its stated case;  code_of_lem — what has its stated case is said;  accepted_usable — what is accepted passes 8 and 3
use mathlib.Core.Path.{◌≡◌, refl, sym, ◌∙◌, subst}
use mathlib.Core.Bool.{Bool, true, false}
use mathlib.Core.List.{List, [], ◌∷◌}
use Prim.Native.Nat.{ℕ, ◌+◌, ◌*◌, ◌/◌, ◌%◌, ◌<◌}
use native.Mathlib.Omega.{arith}
use native.Mathlib.Nat.{mod-lt, div-lt_iff_lt-mul, div-add-mod', mul-le-mul_right}
use borrow.Author.Tests.{lt-ltb, le-ltb}
use Rattle.integer.proofs.Search.{Searched, found, nowhere, searched, first_is, first_never}
use Rattle.linear.proofs.Places.{place, place_column, place_row}
use Rattle.rules.proofs.Verdicts.{nothing_is_not}
use Rattle.enclosure.specs.Sound.{Margins, Residuals}
use Rattle.enclosure.specs.Problem.{column_of}
use Rattle.enclosure.specs.Reckoning.{margin_fails, exceeds}
use Rattle.check_spec.specs.Input.{Input, problem, short, in_ranges}
use Rattle.check_spec.specs.Order.{first_margin, first_residual, first_inverse_place, answer, checked_of}
use Rattle.check_spec.specs.Stated.{Usable, Stated, too_short, out_of_range, margin_low, residual_large, inverse_large, accepted}
use Rattle.check_spec.proofs.Contract.{answer_short, answer_range, answer_ready, sound_code}
use Rattle.check_spec.proofs.Fit.{fit_of}
use Rattle.check_spec.proofs.Places.{first_place}

module _ (I : Input) where
  -- the test of 7 at a place, column after column
  large : ℕ → Bool
  large i = exceeds (column_of (problem I) (i / I.n)) (i % I.n)

  -- what is said, by the first row of each kind
  code_5 : (m : ℕ) → first_margin (problem I) ≡ m → m < I.n → checked_of (problem I) ≡ 5 ∷ (m + 1) ∷ []
  code_5 m e l = rw e (rw (lt-ltb m I.n l))

  code_6 : (k : ℕ) → first_margin (problem I) ≡ I.n → first_residual (problem I) ≡ k → k < I.n → checked_of (problem I) ≡ 6 ∷ (k + 1) ∷ []
  code_6 k e f l = rw (e, f) (rw (le-ltb I.n I.n (omega arith), lt-ltb k I.n l))

  code_7 : (i : ℕ) → first_margin (problem I) ≡ I.n → first_residual (problem I) ≡ I.n → first_inverse_place (problem I) ≡ i → i < I.n * I.n → checked_of (problem I) ≡ 7 ∷ (i / I.n + 1) ∷ (i % I.n + 1) ∷ []
  code_7 i e f g l = rw (e, f, g) (rw (le-ltb I.n I.n (omega arith), lt-ltb i (I.n * I.n) l))

  code_0 : first_margin (problem I) ≡ I.n → first_residual (problem I) ≡ I.n → first_inverse_place (problem I) ≡ I.n * I.n → checked_of (problem I) ≡ []
  code_0 e f g = rw (e, f, g) (rw (le-ltb I.n I.n (omega arith), le-ltb (I.n * I.n) (I.n * I.n) (omega arith)))

  module _ (u : Usable I) where
    says : {l : List ℕ} → checked_of (problem I) ≡ l → answer I ≡ l
    says e = answer_ready I u.long u.inside ∙ e

    n_pos : 0 < I.n
    n_pos = (fit_of I u.long u.inside).n_pos

    -- 7 and acceptance
    at_columns : Margins (problem I) → Residuals (problem I) → first_margin (problem I) ≡ I.n → first_residual (problem I) ≡ I.n → Searched (I.n * I.n) large → Stated I (answer I)
    unfolding large
    at_columns m r e f (found i l g p h) =
        subst (Stated I) (sym (says (code_7 i e f g l)))
        (inverse_large (i / I.n) (i % I.n) u m r ((div-lt_iff_lt-mul n_pos).1 l) (mod-lt i n_pos) p
        (λ c lc x lx. rw (place_column c x I.n lx, place_row c x I.n lx) at (h (c * I.n + x) (below c x lc lx)))
        (λ x lx. rw (place_column (i / I.n) x I.n (omega (arith, mod-lt i n_pos)), place_row (i / I.n) x I.n (omega (arith, mod-lt i n_pos))) at (h (i / I.n * I.n + x) (omega (arith, div-add-mod' i I.n)))))
      where
        below : (c x : ℕ) → c < i / I.n → x < I.n → c * I.n + x < i
        below c x lc lx = omega (arith, div-add-mod' i I.n, mul-le-mul_right I.n lc)
    at_columns m r e f (nowhere g h) =
        subst (Stated I) (sym (says (code_0 e f g)))
        (accepted u (record { margins = m; residuals = r; columns = λ j lj k lk. rw (place_column j k I.n lk, place_row j k I.n lk) at (h (j * I.n + k) (place lj lk)) }))

    at_residuals : Margins (problem I) → first_margin (problem I) ≡ I.n → Searched I.n (exceeds (problem I)) → Stated I (answer I)
    at_residuals m e (found k l f p h) = subst (Stated I) (sym (says (code_6 k e f l))) (residual_large k u m l p h)
    at_residuals m e (nowhere f h) = at_columns m h e f (searched (I.n * I.n) large)

    at_margins : Searched I.n (margin_fails (problem I)) → Stated I (answer I)
    at_margins (found m l e p h) = subst (Stated I) (sym (says (code_5 m e l))) (margin_low m u l p h)
    at_margins (nowhere e h) = at_residuals h e (searched I.n (exceeds (problem I)))

  pub stated : Stated I (answer I)
  stated = go (short I) refl (in_ranges I) refl
    where
      go : (x : Bool) → short I ≡ x → (y : Bool) → in_ranges I ≡ y → Stated I (answer I)
      go true e y f = subst (Stated I) (sym (answer_short I e)) (too_short e)
      go false e false f = subst (Stated I) (sym (answer_range I e f)) (out_of_range e f)
      go false e true f = at_margins (record { long = e; inside = f }) (searched I.n (margin_fails (problem I)))

  no_margin : Margins (problem I) → first_margin (problem I) ≡ I.n
  no_margin m = first_never I.n (margin_fails (problem I)) m

  no_residual : Residuals (problem I) → first_residual (problem I) ≡ I.n
  no_residual r = first_never I.n (exceeds (problem I)) r

  pub code_of_lem : {l : List ℕ} → Stated I l → answer I ≡ l
  code_of_lem (too_short e) = answer_short I e
  code_of_lem (out_of_range e f) = answer_range I e f
  code_of_lem (margin_low m u l p h) = says u (code_5 m (first_is I.n (margin_fails (problem I)) m l p h) l)
  code_of_lem (residual_large k u m l p h) =
      says u (code_6 k (no_margin m) (first_is I.n (exceeds (problem I)) k l p h) l)
  code_of_lem (inverse_large j k u m r lj lk p q h) =
      says u (code_7 (j * I.n + k) (no_margin m) (no_residual r) (first_place (problem I) j k lj lk p q h) (place lj lk)
      ∙ rw (place_column j k I.n lk, place_row j k I.n lk))
  code_of_lem (accepted u x) = says u (sound_code (problem I) (n_pos u) x)

-- what is accepted is usable
usable_of : (I : Input) {l : List ℕ} → Stated I l → l ≡ [] → Usable I
usable_of I (too_short e) n = absurd (nothing_is_not n)
usable_of I (out_of_range e f) n = absurd (nothing_is_not n)
usable_of I (margin_low m u l p h) n = u
usable_of I (residual_large k u m l p h) n = u
usable_of I (inverse_large j k u m r lj lk p q h) n = u
usable_of I (accepted u x) n = u

pub accepted_usable : (I : Input) → answer I ≡ [] → Usable I
accepted_usable I = usable_of I (stated I)
