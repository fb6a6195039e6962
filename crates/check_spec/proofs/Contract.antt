-- The contract of the check on lists, case by case.
--   answer_short, answer_range, answer_ready — what is said, by the tests 8 and 3
--   accepted_places — nothing is said of 5, 6 and 7 only where none has a place
--   sound_code, code_sound — the reckoning says nothing exactly where the problem is sound
--   written_encloses — the limits of a reckoning whose margins are above 0, once written, enclose
--   checked_short, checked_range, checked_ready — the contract where 8 is said, where 3 is, and where the reckoning decides
use mathlib.Core.Path.{◌≡◌, refl, sym, ◌∙◌}
use mathlib.Core.Bool.{Bool, true, false}
use mathlib.Core.List.{List, [], ◌∷◌}
use Prim.Native.Nat.{ℕ, ◌+◌, ◌*◌, ◌/◌, ◌%◌, ◌≤◌, ◌<◌}
use native.Mathlib.Omega.{arith}
use borrow.Author.Tests.{le-ltb, ltb-false}
use lib.Dec.{ltb}
use lib.ListN.{get_or}
use Rattle.linear.specs.Written.{written}
use Rattle.integer.proofs.Search.{first_past, first_never, clash}
use Rattle.linear.proofs.Places.{place, square, place_column, place_row}
use Rattle.linear.proofs.Written.{front_at}
use Rattle.rules.specs.Order.{verdict}
use Rattle.rules.specs.Refusal.{code, Outcome}
use Rattle.std.specs.Prelude.{Err}
use Rattle.rules.specs.declared.Refusal.TheVariants.{TooShort, OutOfRange}
use Rattle.rules.proofs.Verdicts.{accepted_new, accepted_old, nothing_is_not}
use Rattle.enclosure.specs.Problem.{Problem}
use Rattle.enclosure.specs.Reckoning.{margin_fails, exceeds, bound, inverse_bound}
use Rattle.enclosure.specs.Demand.{Encloses}
use Rattle.enclosure.specs.Sound.{Margins, Sound}
use Rattle.enclosure.proofs.Acceptance.{rounded_sound}
use Rattle.enclosure.proofs.Demands.{encloses, encloses_as}
use Rattle.check_spec.specs.Input.{Input, problem, short, in_ranges}
use Rattle.check_spec.specs.Order.{first_margin, first_residual, first_inverse_place, computed, answer, checked_of}
use Rattle.check_spec.specs.Checked.{solution_after, inverse_after, solution_bounds_after, inverse_bounds_after, Checked}
use Rattle.check_spec.proofs.Fit.{fit_of}
use Rattle.check_spec.proofs.Places.{no_place, none_placed}

module _ (I : Input) where
  pub answer_short : short I ≡ true → answer I ≡ 8 ∷ []
  unfolding answer
  answer_short e = rw e

  pub answer_range : short I ≡ false → in_ranges I ≡ false → answer I ≡ 3 ∷ []
  unfolding answer
  answer_range e f = rw (e, f)

  pub answer_ready : short I ≡ false → in_ranges I ≡ true → answer I ≡ checked_of (problem I)
  unfolding answer
  answer_ready e f = rw (e, f)

-- ---- sound input
pub record NoPlace (n m k i : ℕ) : Type 0 where
  pub margin : n ≤ m
  pub residual : n ≤ k
  pub column : n * n ≤ i

pub accepted_places : (n m k i : ℕ) → verdict (computed n m k i) ≡ [] → NoPlace n m k i
accepted_places n m k i e = go (ltb m n) refl (ltb k n) refl (ltb i (n * n)) refl
  where
    go : (x : Bool) → ltb m n ≡ x → (y : Bool) → ltb k n ≡ y → (z : Bool) → ltb i (n * n) ≡ z → NoPlace n m k i
    go true p y q z r = absurd (nothing_is_not (rw p at e))
    go false p true q z r = absurd (nothing_is_not (rw (p, q) at e))
    go false p false q true r = absurd (nothing_is_not (rw (p, q, r) at e))
    go false p false q false r = record { margin = ltb-false m n p; residual = ltb-false k n q; column = ltb-false i (n * n) r }

pub sound_code : (P : Problem) → 0 < P.n → Sound P → checked_of P ≡ []
sound_code P n_pos x =
    let m : first_margin P ≡ P.n = first_never P.n (margin_fails P) x.margins in
    let k : first_residual P ≡ P.n = first_never P.n (exceeds P) x.residuals in
    rw (m, k, no_place P n_pos x.columns) (rw (le-ltb P.n P.n (omega arith), le-ltb (P.n * P.n) (P.n * P.n) (omega arith)))

pub code_sound : (P : Problem) → checked_of P ≡ [] → Sound P
code_sound P e =
    let none = accepted_places P.n (first_margin P) (first_residual P) (first_inverse_place P) e in
    record {
      margins = first_past P.n (margin_fails P) none.margin;
      residuals = first_past P.n (exceeds P) none.residual;
      columns = none_placed P none.column;
    }

-- ---- the three cases
pub checked_short : (I : Input) → short I ≡ true → Checked I (Err TooShort) I.solution_bounds I.inverse_bounds
unfolding solution_bounds_after inverse_bounds_after
checked_short I e = record {
  says = sym (answer_short I e);
  solution_bounds = sym (accepted_old _ _ (answer_short I e));
  inverse_bounds = sym (accepted_old _ _ (answer_short I e));
  encloses = λ n. absurd (nothing_is_not n);
  accepts = λ N q H q' s r x. clash (short I) e s;
}

pub checked_range : (I : Input) → short I ≡ false → in_ranges I ≡ false → Checked I (Err OutOfRange) I.solution_bounds I.inverse_bounds
unfolding solution_bounds_after inverse_bounds_after
checked_range I e f = record {
  says = sym (answer_range I e f);
  solution_bounds = sym (accepted_old _ _ (answer_range I e f));
  inverse_bounds = sym (accepted_old _ _ (answer_range I e f));
  encloses = λ n. absurd (nothing_is_not n);
  accepts = λ N q H q' s r x. clash (in_ranges I) r f;
}

-- where the reckoning decides
module _ (I : Input) (e : short I ≡ false) (f : in_ranges I ≡ true) where
  -- limits that were written where every margin is above 0 enclose
  pub written_encloses : {E L : List ℕ} → E ≡ written I.solution_bounds 0 1 (bound (problem I)) I.n →
      L ≡ written I.inverse_bounds 0 1 (λ (k : ℕ). inverse_bound (problem I) (k / I.n) (k % I.n)) (I.n * I.n) → Margins (problem I) →
      Encloses (problem I) (λ (i : ℕ). get_or E i 0) (λ (i j : ℕ). get_or L (i * I.n + j) 0)
  written_encloses {E} {L} e_e e_l margins =
      let fit = fit_of I e f in
      let P : Problem = problem I in
      encloses_as P (bound P) (λ (i : ℕ). get_or E i 0) (inverse_bound P) (λ (i j : ℕ). get_or L (i * I.n + j) 0)
      (λ i l. rw e_e (front_at I.solution_bounds (bound P) 0 I.n i l (omega (arith, fit.n_max, fit.solution_long))))
      (λ i j li lj. rw e_l (front_at I.inverse_bounds (λ (k : ℕ). inverse_bound P (k / I.n) (k % I.n)) 0 (I.n * I.n) (i * I.n + j) (place li lj) (omega (arith, square fit.n_max, fit.inverse_long))
      ∙ rw (place_column i j I.n lj, place_row i j I.n lj)))
      (encloses P fit.heavy margins)

  pub checked_ready : {r : Outcome} {E L : List ℕ} → code r ≡ checked_of (problem I) → E ≡ solution_after (checked_of (problem I)) I → L ≡ inverse_after (checked_of (problem I)) I → Checked I r E L
  unfolding solution_bounds_after inverse_bounds_after
  checked_ready {r} {E} {L} says h_e h_l =
      let fit = fit_of I e f in
      let a : answer I ≡ checked_of (problem I) = answer_ready I e f in
      record {
        says = says ∙ sym a;
        solution_bounds = rw a h_e;
        inverse_bounds = rw a h_l;
        encloses = λ n.
            let s : checked_of (problem I) ≡ [] = sym says ∙ n in
            written_encloses (h_e ∙ accepted_new _ _ s) (h_l ∙ accepted_new _ _ s) (code_sound (problem I) s).margins;
        accepts = λ N q H q' s r x. says ∙ sound_code (problem I) fit.n_pos (rounded_sound (problem I) N q H q' fit.inverse_scale x);
      }
