-- None of Paper 11's theorems is empty.
--   inward_accepts, outward_accepts — what passes the tests has an accepted call
--   zero_doubles — a list of doubles that are 0
--   file_ends, file_between — 01's whole file: its exact heights 16/11 and 9/11 lie between the ends of its guesses and limits
--   loose_ends, loose_between — a problem with a tolerance of 3 and the right side 9/3: its exact height, 3, lies between the ends
--   going_in, coming_out, goes_and_comes — 2.5, with two steps to one, goes in as 5 and comes back as itself
--   code_inward, code_outward — each number is said of some call, 8 before 3 and 3 before 19; the limit 2^60 is taken, and one more is 3
use mathlib.Core.Path.{◌≡◌, refl, sym, ap, ap₂, ◌∙◌, subst}
use mathlib.Core.List.{List, [], ◌∷◌}
use Prim.Native.Nat.{ℕ, zero, suc, ◌+◌, ◌^◌}
use lib.Dec.{T, lit<, lit≤}
use lib.IntN.{ℤ, pos, negsuc}
use lib.ListN.{get_or, replicate}
use lib.Ieee.{Float, nan, binary64, fits, of_bits}
use lib.Ieee.Bits.{of_bits-fits}
use Rattle.integer.specs.Finite.{every}
use Rattle.linear.specs.Slice.{at}
use Rattle.integer.specs.Quotient.{round_div}
use Rattle.integer.proofs.Below.{only}
use Rattle.rules.specs.Range.{ranges, range_of, in_range, all_in_range}
use Rattle.std.specs.Prelude.{Ok}
use Rattle.enclosure.specs.Example.{exact, loose, far_right, far_height}
use Rattle.enclosure.specs.Reckoning.{bound}
use Rattle.enclosure.proofs.Instance.{loose_right, loose_exact, loose_encloses, loose_bound}
use Rattle.check_spec.specs.Input.{Input}
use Rattle.check_spec.specs.Order.{answer}
use Rattle.check_spec.specs.Stated.{Usable}
use Rattle.check_spec.specs.Checked.{Checked, solution_after, inverse_after, solution_bounds_after, inverse_bounds_after}
use Rattle.check_spec.proofs.Contract.{checked_ready, answer_ready}
use Rattle.check_spec.proofs.Table.{file_input, file_usable, file_rounded_here, file_accepted}
use Rattle.rules.proofs.Every.{every_in}
use Rattle.doubles_guess.specs.Guess.{guess_for, has_guess, Nearest}
use Rattle.doubles_guess.specs.Units.{whole, plus_zero}
use Rattle.doubles_guess.proofs.Steps.{guess_nearest}
use Rattle.doubles_interval.specs.Interval.{Outward, Returned}
use Rattle.doubles_interval.proofs.Heights.{outward}
use Rattle.doubles_lists.specs.Lists.{double_at}
use Rattle.doubles_lists.specs.Inward.{Incoming, incoming, inward_answer, guesses_after, GuessesOf}
use Rattle.doubles_lists.specs.Outward.{Outgoing, outgoing, outward_answer, ends_in, lows_after, highs_after, IntervalsOf}
use Rattle.doubles_lists.specs.Hands.{Hands, AllBetween}
use Rattle.doubles_lists.proofs.Enclosed.{encloses_between, checked_between_at_b}
use Rattle.doubles_lists.proofs.Inward.{after_at, each_double}
use Rattle.doubles_lists.proofs.Inward as inward
use Rattle.doubles_lists.proofs.Outward.{low_after_lem, high_after_lem, code_nothing, small_intervals}
use Rattle.doubles_lists.proofs.Promises.{comes_back}
use Rattle.doubles_lists.proofs.Taken.{numbers_taken, checked_taken, guesses_taken}

inward_accepts : (I : Incoming) → ((i : ℕ) → T (fits binary64 (double_at I.values i))) → inward_answer I ≡ [] → GuessesOf I (Ok tt) (guesses_after I)
inward_accepts I held e = record {
  says = sym e;
  guesses = refl;
  doubles = λ n. each_double I held (every_in I.n _ ((inward.code_nothing I).0 e).2);
  nearest = λ n i l. subst (Nearest I.s (double_at I.values i)) (sym (after_at I e i l)) (guess_nearest I.s (double_at I.values i));
}

pub outward_accepts : (I : Outgoing) → outward_answer I ≡ [] → IntervalsOf I (Ok tt) (lows_after I) (highs_after I)
outward_accepts I e = record {
  says = sym e;
  lows = refl;
  highs = refl;
  outward = λ n i l.
      let k = small_intervals I ((code_nothing I).0 e).1 in
      subst (Outward I.s (at I.guess i) (get_or I.bounds i 0)) (ap₂ (λ (x y : Float). record { low = x; high = y }) (sym (low_after_lem I e i l)) (sym (high_after_lem I e i l)))
      (outward I.s (at I.guess i) (get_or I.bounds i 0) (k.guesses i l) (k.limits i l));
}

abbrev pub zero_doubles : List Float
zero_doubles = replicate 32 plus_zero

-- ---- 01's whole file
accepts_checked : (J : Input) → Usable J → answer J ≡ [] → Checked J (Ok tt) (solution_bounds_after J) (inverse_bounds_after J)
unfolding solution_bounds_after inverse_bounds_after
accepts_checked J u e =
    let a = answer_ready J u.long u.inside in
    checked_ready J u.long u.inside (sym e ∙ a) (ap (λ (w : List ℕ). solution_after w J) a) (ap (λ (w : List ℕ). inverse_after w J) a)

file_checked : Checked file_input (Ok tt) (solution_bounds_after file_input) (inverse_bounds_after file_input)
file_checked = accepts_checked file_input file_usable file_accepted

abbrev pub file_ends : Outgoing
file_ends = outgoing 2 4 file_input.guess (solution_bounds_after file_input) zero_doubles zero_doubles

pub file_between : AllBetween 2 (lows_after file_ends) (highs_after file_ends) exact 11
file_between =
    checked_between_at_b file_input file_checked refl (outward_accepts file_ends (checked_taken file_input file_checked refl zero_doubles zero_doubles (lit≤ tt) (lit≤ tt))) refl exact 11 file_rounded_here.solution

-- ---- a problem with a tolerance
abbrev pub loose_ends : Outgoing
loose_ends = outgoing 1 4 (replicate 32 (pos 0)) (replicate 32 48) zero_doubles zero_doubles

loose_handed : Hands loose (bound loose) loose_ends
loose_handed = record { n = refl; s = refl; guess = only _ refl; bounds = only _ (sym loose_bound) }

pub loose_between : AllBetween 1 (lows_after loose_ends) (highs_after loose_ends) far_height 1
loose_between =
    encloses_between loose (bound loose) loose_ends loose_handed
    (outward_accepts loose_ends (numbers_taken 1 4 _ _ zero_doubles zero_doubles (lit< tt) (lit≤ tt) (lit≤ tt) (lit≤ tt) (lit≤ tt) (lit≤ tt) (lit≤ tt) (only _ (lit≤ tt)) (only _ (lit≤ tt)))) refl
    loose_encloses far_right 3 loose_right far_height 1 loose_exact

-- ---- there and back
abbrev two_and_a_half : Float
two_and_a_half = of_bits binary64 4612811918334230528

abbrev pub going_in : Incoming
going_in = incoming 1 1 (replicate 32 two_and_a_half) (replicate 32 (pos 0))

given_accepted : inward_answer going_in ≡ []
unfolding inward_answer every has_guess guess_for whole of_bits round_div in_range range_of ranges
given_accepted = refl

given_held : (i : ℕ) → T (fits binary64 (double_at going_in.values i))
unfolding fits
given_held = go 32
  where
    go : (n i : ℕ) → T (fits binary64 (double_at (replicate n two_and_a_half) i))
    go zero i = tt
    go (suc n) zero = of_bits-fits binary64 4612811918334230528
    go (suc n) (suc i) = go n i

abbrev pub coming_out : Outgoing
coming_out = outgoing 1 1 (guesses_after going_in) (replicate 32 0) zero_doubles zero_doubles

pub goes_and_comes : (at (guesses_after going_in) 0 ≡ pos 5) × Returned 1 (pos 5) two_and_a_half (ends_in (lows_after coming_out) (highs_after coming_out) 0)
unfolding whole of_bits
goes_and_comes =
    let g = inward_accepts going_in given_held given_accepted in
    comes_back going_in g refl (outward_accepts coming_out (guesses_taken going_in g refl (replicate 32 0) zero_doubles zero_doubles (lit≤ tt) (lit≤ tt) (lit≤ tt) (only _ (lit≤ tt)))) refl 0 (lit< tt) refl (pos 5) refl

-- ---- each refusal, and the ends of the ranges
abbrev zero_guesses : List ℤ
zero_guesses = replicate 32 (pos 0)

pub code_inward :
    (inward_answer (incoming 33 0 (replicate 31 nan) zero_guesses) ≡ 8 ∷ [])
    × (inward_answer (incoming 1 21 (replicate 32 nan) zero_guesses) ≡ 3 ∷ [])
    × (inward_answer (incoming 1 20 (replicate 32 nan) zero_guesses) ≡ 19 ∷ [])
unfolding inward_answer every has_guess in_range range_of ranges
code_inward = (refl, refl, refl)

abbrev limits : ℕ → Outgoing
limits e = outgoing 1 20 (replicate 32 (negsuc 68719476735)) (replicate 32 e) zero_doubles zero_doubles

pub code_outward :
    (outward_answer (outgoing 33 0 zero_guesses (replicate 31 0) zero_doubles zero_doubles) ≡ 8 ∷ [])
    × (outward_answer (limits (2 ^ 60)) ≡ [])
    × (outward_answer (limits (2 ^ 60 + 1)) ≡ 3 ∷ [])
    × (outward_answer (outgoing 1 0 (replicate 32 (negsuc 68719476736)) (replicate 32 0) zero_doubles zero_doubles) ≡ 3 ∷ [])
unfolding outward_answer every all_in_range in_range range_of ranges
code_outward = (refl, refl, refl, refl)
