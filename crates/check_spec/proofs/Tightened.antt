-- What 02's Paper 9 changes (specs/Tightened), and what it leaves.
--   FirstOfTwo, first_of_two — the first place where one of two tests holds is the first of the one test, or a place before it where the other holds first
--   tightened — what was said before and what is said now
--   accepted_05, same_solution_05, same_inverse_05 — whatever is accepted now was accepted before, with the same limits
--   still_true — whatever was accepted before is enclosed by the limits it got (Paper 9: "Limits already in the register remain true")
use mathlib.Core.Path.{◌≡◌, refl, sym, subst, ◌∙◌}
use mathlib.Core.Bool.{Bool, true, false, ◌||◌}
use mathlib.Core.List.{List, [], ◌∷◌}
use Prim.Native.Nat.{ℕ, ◌+◌, ◌*◌, ◌/◌, ◌%◌, ◌≤◌, ◌<◌}
use native.Mathlib.Omega.{arith}
use native.Mathlib.Decide.{dec_le}
use borrow.Author.Tests.{lt-ltb, le-ltb}
use lib.ListN.{get_or}
use Rattle.integer.specs.Finite.{first}
use Rattle.integer.proofs.Search.{Searched, found, nowhere, searched, first_is, first_never, first_past, first_most}
use Rattle.rules.specs.Order.{verdict}
use Rattle.rules.proofs.Ranges.{neither, or_left, or_right}
use Rattle.rules.proofs.Verdicts.{accepted_new, nothing_is_not}
use Rattle.enclosure.specs.Before.{exceeds05}
use Rattle.enclosure.specs.Demand.{Encloses}
use Rattle.enclosure.specs.Problem.{column_of}
use Rattle.enclosure.specs.Reckoning.{margin_fails, exceeds_row, exceeds}
use Rattle.check_spec.specs.Before.{first_residual05, first_inverse_place05, checked_of05, answer05, solution_after05, inverse_after05}
use Rattle.check_spec.specs.Checked.{solution_bounds_after, inverse_bounds_after}
use Rattle.check_spec.specs.Input.{Input, problem, short, in_ranges}
use Rattle.check_spec.specs.Order.{first_margin, first_residual, first_inverse_place, computed, checked_of, answer}
use Rattle.check_spec.specs.Tightened.{exceeds_row_at, RowsKept, PlacesKept, FirstRow, FirstPlace, at_row, at_place, Tightened}
use Rattle.check_spec.specs.Tightened as change
use Rattle.check_spec.proofs.Contract.{answer_short, answer_range, answer_ready, accepted_places, written_encloses}

-- ---- two tests
pub data FirstOfTwo (n : ℕ) (a b : ℕ → Bool) : Type 0 where
  stays : first n (λ (k : ℕ). a k || b k) ≡ first n a → ((k : ℕ) → k < first n a → b k ≡ false) → FirstOfTwo n a b
  lower : (i : ℕ) → i < first n a → first n (λ (k : ℕ). a k || b k) ≡ i → b i ≡ true → ((k : ℕ) → k < i → b k ≡ false) → FirstOfTwo n a b

before_first : (n : ℕ) (a : ℕ → Bool) (k : ℕ) → k < first n a → a k ≡ false
before_first n a k l = go (searched n a)
  where
    go : Searched n a → a k ≡ false
    go (found i m e p h) = h k (omega (arith, e))
    go (nowhere e h) = h k (omega (arith, e))

pub first_of_two : (n : ℕ) (a b : ℕ → Bool) → FirstOfTwo n a b
first_of_two n a b = go (searched (first n a) b) (searched n a)
  where
    go : Searched (first n a) b → Searched n a → FirstOfTwo n a b
    go (found i l e p h) s =
        lower i l (first_is n (λ (k : ℕ). a k || b k) i (omega (arith, first_most n a refl)) (or_right (a i) p) (λ k m. neither (before_first n a k (omega arith)) (h k m))) p h
    go (nowhere e h) (found i l f p r) =
        stays (first_is n (λ (k : ℕ). a k || b k) i l (or_left (b i) p) (λ k m. neither (r k m) (h k (omega (arith, f)))) ∙ sym f) h
    go (nowhere e h) (nowhere f r) = stays (first_never n (λ (k : ℕ). a k || b k) (λ k m. neither (r k m) (h k (omega (arith, f)))) ∙ sym f) h

-- ---- what is said of the first places
module _ (n : ℕ) where
  says_5 : (m k i : ℕ) → m < n → verdict (computed n m k i) ≡ 5 ∷ (m + 1) ∷ []
  says_5 m k i l = rw (lt-ltb m n l)

  says_6 : (m k i : ℕ) → n ≤ m → k < n → verdict (computed n m k i) ≡ at_row k
  says_6 m k i a l = rw (le-ltb m n a, lt-ltb k n l)

  says_7 : (m k i : ℕ) → n ≤ m → n ≤ k → i < n * n → verdict (computed n m k i) ≡ at_place n i
  says_7 m k i a b l = rw (le-ltb m n a, le-ltb k n b, lt-ltb i (n * n) l)

  says_0 : (m k i : ℕ) → n ≤ m → n ≤ k → n * n ≤ i → verdict (computed n m k i) ≡ []
  says_0 m k i a b c = rw (le-ltb m n a, le-ltb k n b, le-ltb i (n * n) c)

module _ (I : Input) where
  -- the tests of 7 before, place by place
  large : ℕ → Bool
  large i = exceeds05 (column_of (problem I) (i / I.n)) (i % I.n)

  -- both answers, at the places of before and of now
  pair : {a b x y : List ℕ} → a ≡ x → b ≡ y → Tightened I x y → Tightened I a b
  pair {a} {b} {x} {y} e f t = subst (λ (l : List ℕ). Tightened I l b) (sym e) (subst (Tightened I x) (sym f) t)

  module _ (m k k' i i' : ℕ) where
    abbrev was : List ℕ
    was = verdict (computed I.n m k i)

    abbrev is : List ℕ
    is = verdict (computed I.n m k' i')

    -- a row of the guess is above its sum, before the old row
    to_row : I.n ≤ m → k ≤ I.n → k' < k → FirstRow (problem I) k' → Tightened I was is
    to_row a n_max l f = go (dec_le I.n k) (dec_le (I.n * I.n) i)
      where
        go : Dec (I.n ≤ k) → Dec (I.n * I.n ≤ i) → Tightened I was is
        go (no b) c = pair (says_6 I.n m k i a (omega arith)) (says_6 I.n m k' i' a (omega arith)) (change.row_lower k k' l f)
        go (yes b) (no c) = pair (says_7 I.n m k i a b (omega arith)) (says_6 I.n m k' i' a (omega arith)) (change.place_to_row i k' (omega arith) f)
        go (yes b) (yes c) = pair (says_0 I.n m k i a b c) (says_6 I.n m k' i' a (omega arith)) (change.accepted_to_row k' (omega arith) f)

    -- no row is, and a place of the inverse is, before the old place
    to_place : I.n ≤ m → I.n ≤ k → I.n ≤ k' → i ≤ I.n * I.n → i' < i → RowsKept (problem I) I.n → FirstPlace (problem I) i' → Tightened I was is
    to_place a b c n_max l h f = go (dec_le (I.n * I.n) i)
      where
        go : Dec (I.n * I.n ≤ i) → Tightened I was is
        go (no d) = pair (says_7 I.n m k i a b (omega arith)) (says_7 I.n m k' i' a c (omega arith)) (change.place_lower i i' l h f)
        go (yes d) = pair (says_0 I.n m k i a b d) (says_7 I.n m k' i' a c (omega arith)) (change.accepted_to_place i' (omega arith) h f)

  -- the same places
  stays_here : (m k i : ℕ) → I.n ≤ m → i ≤ I.n * I.n → RowsKept (problem I) k → (I.n ≤ k → PlacesKept (problem I) i) →
      Tightened I (verdict (computed I.n m k i)) (verdict (computed I.n m k i))
  stays_here m k i a n_max h p = go (dec_le I.n k) (dec_le (I.n * I.n) i)
    where
      go : Dec (I.n ≤ k) → Dec (I.n * I.n ≤ i) → Tightened I (verdict (computed I.n m k i)) (verdict (computed I.n m k i))
      go (no b) c = pair (says_6 I.n m k i a (omega arith)) (says_6 I.n m k i a (omega arith)) (change.row_stays k h)
      go (yes b) (no c) = pair (says_7 I.n m k i a b (omega arith)) (says_7 I.n m k i a b (omega arith)) (change.place_stays i (λ x l. h x (omega arith)) (p b))
      go (yes b) (yes c) =
          pair (says_0 I.n m k i a b c) (says_0 I.n m k i a b c) (change.accepted_stays (λ x l. h x (omega arith)) (λ x l. p b x (omega arith)))

  at_columns : (m : ℕ) → I.n ≤ m → I.n ≤ first_residual05 (problem I) → first_residual (problem I) ≡ first_residual05 (problem I) → RowsKept (problem I) I.n →
      FirstOfTwo (I.n * I.n) large (exceeds_row_at (problem I)) →
      Tightened I (verdict (computed I.n m (first_residual05 (problem I)) (first_inverse_place05 (problem I)))) (verdict (computed I.n m (first_residual (problem I)) (first_inverse_place (problem I))))
  unfolding large exceeds
  at_columns m a b e h (stays f p) =
      rw (e, f) (stays_here m (first_residual05 (problem I)) (first_inverse_place05 (problem I)) a (first_most (I.n * I.n) large refl) (λ x l. h x (omega (arith, first_most I.n (exceeds05 (problem I)) refl))) (λ _. p))
  at_columns m a b e h (lower i l f p r) =
      rw (e, f)
      (to_place m (first_residual05 (problem I)) (first_residual05 (problem I)) (first_inverse_place05 (problem I)) i a b b (first_most (I.n * I.n) large refl) l h (record { fails = p; before = r }))

  at_rows : (m : ℕ) → I.n ≤ m → FirstOfTwo I.n (exceeds05 (problem I)) (exceeds_row (problem I)) →
      Tightened I (verdict (computed I.n m (first_residual05 (problem I)) (first_inverse_place05 (problem I)))) (verdict (computed I.n m (first_residual (problem I)) (first_inverse_place (problem I))))
  unfolding exceeds
  at_rows m a (lower k l e p r) =
      rw e (to_row m (first_residual05 (problem I)) k (first_inverse_place05 (problem I)) (first_inverse_place (problem I)) a (first_most I.n (exceeds05 (problem I)) refl) l (record { fails = p; before = r }))
  at_rows m a (stays e h) = go (dec_le I.n (first_residual05 (problem I)))
    where
      go : Dec (I.n ≤ first_residual05 (problem I)) →
          Tightened I (verdict (computed I.n m (first_residual05 (problem I)) (first_inverse_place05 (problem I)))) (verdict (computed I.n m (first_residual (problem I)) (first_inverse_place (problem I))))
      go (yes b) = at_columns m a b e (λ x l. h x (omega arith)) (first_of_two (I.n * I.n) large (exceeds_row_at (problem I)))
      go (no b) =
          pair (says_6 I.n m (first_residual05 (problem I)) (first_inverse_place05 (problem I)) a (omega arith))
          (rw e (says_6 I.n m (first_residual05 (problem I)) (first_inverse_place (problem I)) a (omega arith))) (change.row_stays (first_residual05 (problem I)) h)

  computed_here : Tightened I (checked_of05 (problem I)) (checked_of (problem I))
  computed_here = go (dec_le I.n (first_margin (problem I)))
    where
      go : Dec (I.n ≤ first_margin (problem I)) → Tightened I (checked_of05 (problem I)) (checked_of (problem I))
      go (yes a) = at_rows (first_margin (problem I)) a (first_of_two I.n (exceeds05 (problem I)) (exceeds_row (problem I)))
      go (no a) =
          pair (says_5 I.n (first_margin (problem I)) (first_residual05 (problem I)) (first_inverse_place05 (problem I)) (omega arith))
          (says_5 I.n (first_margin (problem I)) (first_residual (problem I)) (first_inverse_place (problem I)) (omega arith)) (change.margin_low (first_margin (problem I)))

  pub tightened : Tightened I (answer05 I) (answer I)
  unfolding answer05
  tightened = go (short I) refl (in_ranges I) refl
    where
      go : (x : Bool) → short I ≡ x → (y : Bool) → in_ranges I ≡ y → Tightened I (answer05 I) (answer I)
      go true e y f = pair (rw e) (answer_short I e) change.too_short
      go false e false f = pair (rw (e, f)) (answer_range I e f) change.out_of_range
      go false e true f = pair (rw (e, f)) (answer_ready I e f) computed_here

-- ---- what stays
accepted_of : (I : Input) {was is : List ℕ} → Tightened I was is → is ≡ [] → was ≡ []
accepted_of I change.too_short e = e
accepted_of I change.out_of_range e = e
accepted_of I (change.margin_low m) e = e
accepted_of I (change.row_stays k h) e = e
accepted_of I (change.row_lower k i l f) e = absurd (nothing_is_not e)
accepted_of I (change.place_stays i h p) e = e
accepted_of I (change.place_lower i k l h f) e = absurd (nothing_is_not e)
accepted_of I (change.place_to_row i k l f) e = absurd (nothing_is_not e)
accepted_of I (change.accepted_stays h p) e = refl
accepted_of I (change.accepted_to_row k l f) e = refl
accepted_of I (change.accepted_to_place i l h f) e = refl

module _ (I : Input) (e : answer I ≡ []) where
  pub accepted_05 : answer05 I ≡ []
  accepted_05 = accepted_of I (tightened I) e

  pub same_solution_05 : solution_bounds_after I ≡ solution_after05 I
  unfolding solution_bounds_after solution_after05
  same_solution_05 = rw (e, accepted_05)

  pub same_inverse_05 : inverse_bounds_after I ≡ inverse_after05 I
  unfolding inverse_bounds_after inverse_after05
  same_inverse_05 = rw (e, accepted_05)

pub still_true : (I : Input) → answer05 I ≡ [] → Encloses (problem I) (λ (i : ℕ). get_or (solution_after05 I) i 0) (λ (i j : ℕ). get_or (inverse_after05 I) (i * I.n + j) 0)
unfolding answer05 solution_after05 inverse_after05
still_true I e = go (short I) refl (in_ranges I) refl
  where
    go : (x : Bool) → short I ≡ x → (y : Bool) → in_ranges I ≡ y → Encloses (problem I) (λ (i : ℕ). get_or (solution_after05 I) i 0) (λ (i j : ℕ). get_or (inverse_after05 I) (i * I.n + j) 0)
    go true p y q = absurd (nothing_is_not (rw p at e))
    go false p false q = absurd (nothing_is_not (rw (p, q) at e))
    go false p true q =
        let s : checked_of05 (problem I) ≡ [] = rw (p, q) at e in
        let none = accepted_places I.n (first_margin (problem I)) (first_residual05 (problem I)) (first_inverse_place05 (problem I)) s in
        written_encloses I p q (accepted_new _ _ e) (accepted_new _ _ e) (first_past I.n (margin_fails (problem I)) none.margin)
