-- Doubles in: the contract of `guesses_of`, case by case, and that each refusal is said exactly where its case holds.
--   ReadyInward, ready — input that passes 8 and 3 can be read and written
--   in_short, in_range_lem, in_none, in_all — the contract where 8, 3, 19 and nothing is said
--   each_double — each of the first n is a finite double where each has a guess, in a list of doubles
--   code_8, code_3, code_19, code_nothing — 8, 3, 19 and nothing are said exactly where 02 says so
--   zero_accepted — by the number alone: 0 is said where nothing is
--   after_at, after_else — the guess list after the call: its first n places where nothing is said, and every other place as before;  after_length — its length
use mathlib.Core.Path.{◌≡◌, refl, sym, ap, subst, ◌∙◌}
use mathlib.Core.Bool.{Bool, true, false, not}
use mathlib.Core.List.{List, [], ◌∷◌}
use mathlib.Core.Logic.{◌↔◌}
use Prim.Native.Nat.{ℕ, ◌≤◌, ◌<◌}
use native.Mathlib.Omega.{arith}
use borrow.Author.Tests.{ltb-false, not-true, not-false}
use lib.Dec.{T}
use lib.IntN.{ℤ, pos}
use lib.ListN.{get_or, length}
use lib.Ieee.{binary64, fits}
use lib.Ieee.Scale.{finite}
use Rattle.linear.specs.Slice.{at}
use Rattle.linear.specs.Written.{written}
use Rattle.linear.proofs.Written.{written_length, front_at}
use Rattle.rules.specs.Order.{Test, number, verdict, if_accepted}
use Rattle.rules.specs.Range.{in_range, short_column}
use Rattle.rules.specs.declared.Kind.TheVariants as kind
use Rattle.rules.specs.declared.Refusal.TheVariants.{TooShort, OutOfRange}
use Rattle.rules.proofs.Ranges.{both_left, both_right, neither_left, neither_right, size_range, solution_scale_range}
use Rattle.rules.proofs.Tests.{code_exactly, no_code_lem, silent}
use Rattle.rules.proofs.Verdicts.{accepted_new, accepted_old, nothing_is_not}
use Rattle.check_spec.proofs.Written.{past_kept}
use Rattle.doubles_guess.specs.Guess.{guess_for, has_guess, Nearest}
use Rattle.doubles_guess.specs.Units.{Double}
use Rattle.doubles_guess.proofs.Steps.{guess_nearest}
use Rattle.doubles_lists.specs.Lists.{double_at, exchange_sizes}
use Rattle.doubles_lists.specs.Inward.{Incoming, short_incoming, all_have_guess, inward_order, inward_answer, guesses_after, GuessesOf}
use Rattle.doubles_lists.specs.declared.GuessRefusal.TheVariants.{Refused, NoGuess}
use Rattle.std.specs.Prelude.{Ok, Err}
use Rattle.rules.proofs.Every.{every_at, every_in, every_fails, every_not}

pub record ReadyInward (I : Incoming) : Type 0 where
  pub values : I.n ≤ length I.values
  pub guess : I.n ≤ length I.guess
  pub scale : I.s ≤ 20

module _ (I : Incoming) where
  pub ready : short_incoming I ≡ false → exchange_sizes I.n I.s ≡ true → ReadyInward I
  ready e f =
      let n_max = (size_range I.n (both_left (in_range kind.Size (pos I.n)) _ f)).1 in
      record {
        values = omega (arith, n_max, ltb-false (length I.values) 32 (neither_left _ _ e));
        guess = omega (arith, n_max, ltb-false (length I.guess) 32 (neither_right (short_column (length I.values)) _ e));
        scale = solution_scale_range I.s (both_right (in_range kind.Size (pos I.n)) _ f);
      }

  -- ---- what is said
  answer_8 : short_incoming I ≡ true → inward_answer I ≡ 8 ∷ []
  unfolding inward_answer
  answer_8 e = rw e

  answer_3 : short_incoming I ≡ false → exchange_sizes I.n I.s ≡ false → inward_answer I ≡ 3 ∷ []
  unfolding inward_answer
  answer_3 e f = rw (e, f)

  answer_19 : short_incoming I ≡ false → exchange_sizes I.n I.s ≡ true → all_have_guess I ≡ false → inward_answer I ≡ 19 ∷ []
  unfolding inward_answer
  answer_19 e f g = rw (e, f, g)

  answer_0 : short_incoming I ≡ false → exchange_sizes I.n I.s ≡ true → all_have_guess I ≡ true → inward_answer I ≡ []
  unfolding inward_answer
  answer_0 e f g = rw (e, f, g)

  -- ---- the contract
  pub in_short : short_incoming I ≡ true → GuessesOf I (Err (Refused TooShort)) I.guess
  unfolding guesses_after
  in_short e = record { says = sym (answer_8 e); guesses = sym (accepted_old _ _ (answer_8 e)); doubles = λ n. absurd (nothing_is_not n); nearest = λ n. absurd (nothing_is_not n) }

  pub in_range_lem : short_incoming I ≡ false → exchange_sizes I.n I.s ≡ false → GuessesOf I (Err (Refused OutOfRange)) I.guess
  unfolding guesses_after
  in_range_lem e f = record { says = sym (answer_3 e f); guesses = sym (accepted_old _ _ (answer_3 e f)); doubles = λ n. absurd (nothing_is_not n); nearest = λ n. absurd (nothing_is_not n) }

  pub in_none : short_incoming I ≡ false → exchange_sizes I.n I.s ≡ true → all_have_guess I ≡ false → GuessesOf I (Err NoGuess) I.guess
  unfolding guesses_after
  in_none e f g = record { says = sym (answer_19 e f g); guesses = sym (accepted_old _ _ (answer_19 e f g)); doubles = λ n. absurd (nothing_is_not n); nearest = λ n. absurd (nothing_is_not n) }

  pub each_double : ((i : ℕ) → T (fits binary64 (double_at I.values i))) → all_have_guess I ≡ true → (i : ℕ) → i < I.n → Double (double_at I.values i)
  unfolding has_guess
  each_double held g i l =
      let x = double_at I.values i in
      record { held = held i; finite = subst T (sym (both_left (finite x) (in_range kind.Guess (guess_for I.s x)) (every_at I.n _ g i l))) tt }

  pub in_all : {after : List ℤ} → ((i : ℕ) → T (fits binary64 (double_at I.values i))) → short_incoming I ≡ false → exchange_sizes I.n I.s ≡ true → all_have_guess I ≡ true →
      after ≡ written I.guess 0 1 (λ (i : ℕ). guess_for I.s (double_at I.values i)) I.n → GuessesOf I (Ok tt) after
  unfolding guesses_after
  in_all held e f g w = record {
    says = sym (answer_0 e f g);
    guesses = w ∙ sym (accepted_new _ _ (answer_0 e f g));
    doubles = λ n. each_double held g;
    nearest = λ n i l. subst (Nearest I.s (double_at I.values i)) (sym (ap (λ (xs : List ℤ). at xs i) w ∙ front_at I.guess _ (pos 0) I.n i l (ready e f).guess)) (guess_nearest I.s (double_at I.values i));
  }

  -- ---- exactly when
  abbrev t8 : Test
  t8 = number 8 (short_incoming I)

  abbrev t3 : Test
  t3 = number 3 (not (exchange_sizes I.n I.s))

  abbrev t19 : Test
  t19 = number 19 (not (all_have_guess I))

  pub code_8 : (inward_answer I ≡ 8 ∷ []) ↔ (short_incoming I ≡ true)
  unfolding inward_answer
  code_8 = let x = code_exactly [] t8 (t3 ∷ t19 ∷ []) refl refl in (λ e. (x.0 e).1, λ h. x.1 (tt, h))

  pub code_3 : (inward_answer I ≡ 3 ∷ []) ↔ ((short_incoming I ≡ false) × (exchange_sizes I.n I.s ≡ false))
  unfolding inward_answer
  code_3 =
      let x = code_exactly (t8 ∷ []) t3 (t19 ∷ []) refl refl in
      (λ e. ((x.0 e).0.0, not-true _ (x.0 e).1), λ h. x.1 ((h.0, tt), ap not h.1))

  pub code_19 : (inward_answer I ≡ 19 ∷ []) ↔
      ((short_incoming I ≡ false) × (exchange_sizes I.n I.s ≡ true) × ((i : ℕ) × (i < I.n) × (has_guess I.s (double_at I.values i) ≡ false)))
  unfolding inward_answer
  code_19 =
      let x = code_exactly (t8 ∷ t3 ∷ []) t19 [] refl refl in (
        λ e. ((x.0 e).0.0, not-false _ (x.0 e).0.1.0, every_fails I.n _ (not-true _ (x.0 e).1)),
        λ h. x.1 ((h.0, (ap not h.1, tt)), ap not (every_not I.n _ h.2.0 h.2.1 h.2.2)),
      )

  pub code_nothing : (inward_answer I ≡ []) ↔
      ((short_incoming I ≡ false) × (exchange_sizes I.n I.s ≡ true) × ((i : ℕ) → i < I.n → has_guess I.s (double_at I.values i) ≡ true))
  unfolding inward_answer
  code_nothing = (
    λ e. let n = no_code_lem (inward_order I) [] refl e in (n.0, not-false _ n.1.0, every_at I.n _ (not-false _ n.1.1.0)),
    λ h. silent (inward_order I) (h.0, (ap not h.1, (ap not (every_in I.n _ h.2), tt))),
  )

  pub zero_accepted : get_or (inward_answer I) 0 0 ≡ 0 → inward_answer I ≡ []
  unfolding inward_answer
  zero_accepted e = go (short_incoming I) (not (exchange_sizes I.n I.s)) (not (all_have_guess I)) e
    where
      go : (a b c : Bool) → get_or (verdict (number 8 a ∷ number 3 b ∷ number 19 c ∷ [])) 0 0 ≡ 0 → verdict (number 8 a ∷ number 3 b ∷ number 19 c ∷ []) ≡ []
      go true b c e = absurd (omega arith)
      go false true c e = absurd (omega arith)
      go false false true e = absurd (omega arith)
      go false false false e = refl

  -- ---- the list, place by place
  pub after_at : inward_answer I ≡ [] → (i : ℕ) → i < I.n → at (guesses_after I) i ≡ guess_for I.s (double_at I.values i)
  unfolding guesses_after
  after_at e i l =
      let n = code_nothing.0 e in
      ap (λ (xs : List ℤ). at xs i) (accepted_new _ _ e) ∙ front_at I.guess _ (pos 0) I.n i l (ready n.0 n.1).guess

  pub after_else : (i : ℕ) → I.n ≤ i → at (guesses_after I) i ≡ at I.guess i
  unfolding guesses_after
  after_else i h = past_kept (pos 0) (inward_answer I) I.n I.guess _ i h

  pub after_length : length (guesses_after I) ≡ length I.guess
  unfolding guesses_after
  after_length = go (inward_answer I)
    where
      go : (w : List ℕ) → length (if_accepted w (written I.guess 0 1 (λ (j : ℕ). guess_for I.s (double_at I.values j)) I.n) I.guess) ≡ length I.guess
      go [] = written_length I.guess 0 1 _ I.n
      go (k ∷ ks) = refl
