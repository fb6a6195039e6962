-- Doubles out: the contract of `intervals_of`, case by case, and that each refusal is said exactly where its case holds.
--   ReadyOutward, ready, small_intervals — input that passes 8 and 3 can be read, written and computed with
--   out_short, out_range, out_all — the contract where 8, 3 and nothing is said
--   code_8, code_3, code_nothing  — 8, 3 and nothing are said exactly where 02 says so
--   low_after_lem, high_after_lem, ends_else — the lists after the call: their first n places where nothing is said, and every other place as before
use mathlib.Core.Path.{◌≡◌, refl, sym, ap, ap₂, subst, ◌∙◌}
use mathlib.Core.Bool.{true, false, not}
use mathlib.Core.List.{List, [], ◌∷◌}
use mathlib.Core.Logic.{◌↔◌}
use Prim.Native.Nat.{ℕ, ◌≤◌, ◌<◌}
use native.Mathlib.Omega.{arith}
use borrow.Author.Tests.{ltb-false, leb-true, not-true, not-false}
use lib.IntN.{pos}
use lib.ListN.{get_or, length}
use lib.Ieee.{Float, nan}
use Rattle.linear.specs.Slice.{at}
use Rattle.linear.specs.Written.{written}
use Rattle.linear.proofs.Written.{front_at}
use Rattle.rules.specs.Order.{Test, number}
use Rattle.rules.specs.Range.{in_range, all_in_range, short_column}
use Rattle.rules.specs.declared.Kind.TheVariants as kind
use Rattle.std.specs.Prelude.{Ok, Err}
use Rattle.rules.specs.declared.Refusal.TheVariants.{TooShort, OutOfRange}
use Rattle.rules.proofs.AllInRange.{all_at}
use Rattle.rules.proofs.Ranges.{both_left, both_right, neither_left, neither_right, size_range, solution_scale_range, guess_range}
use Rattle.rules.proofs.Tests.{code_exactly, no_code_lem, silent}
use Rattle.rules.proofs.Verdicts.{accepted_new, accepted_old, nothing_is_not}
use Rattle.check_spec.proofs.Written.{past_kept}
use Rattle.doubles_interval.specs.Interval.{Outward}
use Rattle.doubles_interval.proofs.Heights.{outward}
use Rattle.doubles_lists.specs.Lists.{double_at, exchange_sizes}
use Rattle.doubles_lists.specs.Outward.{Outgoing, short_outgoing, bounds_in_range, outgoing_in_ranges, outward_order, outward_answer, ends_at, lows_after, highs_after, IntervalsOf, SmallIntervals}
use Rattle.rules.proofs.Every.{every_at}

pub record ReadyOutward (I : Outgoing) : Type 0 where
  pub guess : I.n ≤ length I.guess
  pub bounds : I.n ≤ length I.bounds
  pub low : I.n ≤ length I.low
  pub high : I.n ≤ length I.high

module _ (I : Outgoing) where
  pub ready : short_outgoing I ≡ false → exchange_sizes I.n I.s ≡ true → ReadyOutward I
  ready e1 f =
      let n_max = (size_range I.n (both_left (in_range kind.Size (pos I.n)) _ f)).1 in
      let e2 = neither_right (short_column (length I.guess)) _ e1 in
      let e3 = neither_right (short_column (length I.bounds)) _ e2 in
      record {
        guess = omega (arith, n_max, ltb-false (length I.guess) 32 (neither_left _ _ e1));
        bounds = omega (arith, n_max, ltb-false (length I.bounds) 32 (neither_left _ _ e2));
        low = omega (arith, n_max, ltb-false (length I.low) 32 (neither_left _ _ e3));
        high = omega (arith, n_max, ltb-false (length I.high) 32 (neither_right (short_column (length I.low)) _ e3));
      }

  pub small_intervals : outgoing_in_ranges I ≡ true → SmallIntervals I.n I.s I.guess I.bounds
  small_intervals f =
      let sizes = both_left (exchange_sizes I.n I.s) _ f in
      let lists = both_right (exchange_sizes I.n I.s) _ f in
      record {
        scale = solution_scale_range I.s (both_right (in_range kind.Size (pos I.n)) _ sizes);
        guesses = λ i l. guess_range (at I.guess i) (all_at kind.Guess I.n (at I.guess) (both_left (all_in_range kind.Guess I.n (at I.guess)) _ lists) i l);
        limits = λ i l. leb-true _ _ (every_at I.n _ (both_right (all_in_range kind.Guess I.n (at I.guess)) (bounds_in_range I.n I.bounds) lists) i l);
      }

  -- ---- what is said
  answer_8 : short_outgoing I ≡ true → outward_answer I ≡ 8 ∷ []
  unfolding outward_answer
  answer_8 e = rw e

  answer_3 : short_outgoing I ≡ false → outgoing_in_ranges I ≡ false → outward_answer I ≡ 3 ∷ []
  unfolding outward_answer
  answer_3 e f = rw (e, f)

  answer_0 : short_outgoing I ≡ false → outgoing_in_ranges I ≡ true → outward_answer I ≡ []
  unfolding outward_answer
  answer_0 e f = rw (e, f)

  -- ---- the contract
  pub out_short : short_outgoing I ≡ true → IntervalsOf I (Err TooShort) I.low I.high
  unfolding lows_after highs_after
  out_short e = record {
    says = sym (answer_8 e);
    lows = sym (accepted_old _ _ (answer_8 e));
    highs = sym (accepted_old _ _ (answer_8 e));
    outward = λ n. absurd (nothing_is_not n);
  }

  pub out_range : short_outgoing I ≡ false → outgoing_in_ranges I ≡ false → IntervalsOf I (Err OutOfRange) I.low I.high
  unfolding lows_after highs_after
  out_range e f = record {
    says = sym (answer_3 e f);
    lows = sym (accepted_old _ _ (answer_3 e f));
    highs = sym (accepted_old _ _ (answer_3 e f));
    outward = λ n. absurd (nothing_is_not n);
  }

  pub out_all : {low high : List Float} → short_outgoing I ≡ false → outgoing_in_ranges I ≡ true → low ≡ written I.low 0 1 (λ (i : ℕ). (ends_at I i).low) I.n →
      high ≡ written I.high 0 1 (λ (i : ℕ). (ends_at I i).high) I.n → IntervalsOf I (Ok tt) low high
  unfolding lows_after highs_after
  out_all {low} {high} e f l h =
      let r = ready e (both_left (exchange_sizes I.n I.s) _ f) in
      let k = small_intervals f in
      record {
        says = sym (answer_0 e f);
        lows = l ∙ sym (accepted_new _ _ (answer_0 e f));
        highs = h ∙ sym (accepted_new _ _ (answer_0 e f));
        outward = λ n i b.
            let a : double_at low i ≡ (ends_at I i).low = ap (λ (xs : List Float). double_at xs i) l ∙ front_at I.low _ nan I.n i b r.low in
            let c : double_at high i ≡ (ends_at I i).high = ap (λ (xs : List Float). double_at xs i) h ∙ front_at I.high _ nan I.n i b r.high in
            subst (Outward I.s (at I.guess i) (get_or I.bounds i 0)) (ap₂ (λ (x y : Float). record { low = x; high = y }) (sym a) (sym c))
            (outward I.s (at I.guess i) (get_or I.bounds i 0) (k.guesses i b) (k.limits i b));
      }

  -- ---- exactly when
  abbrev t8 : Test
  t8 = number 8 (short_outgoing I)

  abbrev t3 : Test
  t3 = number 3 (not (outgoing_in_ranges I))

  pub code_8 : (outward_answer I ≡ 8 ∷ []) ↔ (short_outgoing I ≡ true)
  unfolding outward_answer
  code_8 = let x = code_exactly [] t8 (t3 ∷ []) refl refl in (λ e. (x.0 e).1, λ h. x.1 (tt, h))

  pub code_3 : (outward_answer I ≡ 3 ∷ []) ↔ ((short_outgoing I ≡ false) × (outgoing_in_ranges I ≡ false))
  unfolding outward_answer
  code_3 =
      let x = code_exactly (t8 ∷ []) t3 [] refl refl in (λ e. ((x.0 e).0.0, not-true _ (x.0 e).1), λ h. x.1 ((h.0, tt), ap not h.1))

  pub code_nothing : (outward_answer I ≡ []) ↔ ((short_outgoing I ≡ false) × (outgoing_in_ranges I ≡ true))
  unfolding outward_answer
  code_nothing = (
    λ e. let n = no_code_lem (outward_order I) [] refl e in (n.0, not-false _ n.1.0),
    λ h. silent (outward_order I) (h.0, (ap not h.1, tt)),
  )

  -- ---- the lists, place by place
  pub low_after_lem : outward_answer I ≡ [] → (i : ℕ) → i < I.n → double_at (lows_after I) i ≡ (ends_at I i).low
  unfolding lows_after
  low_after_lem e i l =
      let n = code_nothing.0 e in
      ap (λ (xs : List Float). double_at xs i) (accepted_new _ _ e) ∙ front_at I.low _ nan I.n i l (ready n.0 (both_left (exchange_sizes I.n I.s) _ n.1)).low

  pub high_after_lem : outward_answer I ≡ [] → (i : ℕ) → i < I.n → double_at (highs_after I) i ≡ (ends_at I i).high
  unfolding highs_after
  high_after_lem e i l =
      let n = code_nothing.0 e in
      ap (λ (xs : List Float). double_at xs i) (accepted_new _ _ e) ∙ front_at I.high _ nan I.n i l (ready n.0 (both_left (exchange_sizes I.n I.s) _ n.1)).high

  pub ends_else : (i : ℕ) → I.n ≤ i → (double_at (lows_after I) i ≡ double_at I.low i) × (double_at (highs_after I) i ≡ double_at I.high i)
  unfolding lows_after highs_after
  ends_else i h = (past_kept nan (outward_answer I) I.n I.low _ i h, past_kept nan (outward_answer I) I.n I.high _ i h)
