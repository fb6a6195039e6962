-- What the other calls hand back is never refused outward.
--   numbers_taken — numbers in their ranges, in lists long enough, pass 8 and 3
--   written_taken — so do the guesses of a usable input with limits of at most 2^60 that were written for it
--   checked_taken — so those of an accepted check
--   guesses_taken — and the guesses of an accepted call inward, with limits of at most 2^60
--   steps_taken   — inward: a double that is a whole number of steps in the range of a guess gives one
use mathlib.Core.Path.{◌≡◌, refl, sym, ap, ◌∙◌}
use mathlib.Core.Bool.{true}
use mathlib.Core.List.{List, []}
use Prim.Native.Nat.{ℕ, ◌≤◌, ◌<◌, ◌^◌}
use native.Mathlib.Omega.{arith}
use borrow.Author.Tests.{le-ltb, le-leb, ltb-false}
use lib.IntN.{ℤ, pos, negsuc, nat_abs}
use lib.ListN.{length, get_or}
use lib.Ieee.{Float}
use lib.Ieee.Bits.{is_true}
use lib.Ieee.Scale.{finite}
use Rattle.linear.specs.Slice.{at}
use Rattle.linear.specs.Written.{written}
use Rattle.linear.proofs.Written.{written_length, front_at}
use Rattle.rules.specs.Range.{in_range, range_of, ranges, short_column}
use Rattle.rules.specs.Refusal.{code, Outcome}
use Rattle.rules.specs.declared.Kind.TheVariants as kind
use Rattle.rules.proofs.AllInRange.{all_in}
use Rattle.rules.proofs.Ranges.{both, both_left, both_right, neither_right, size_range, in_size_range, guess_range}
use Rattle.enclosure.specs.Reckoning.{bound}
use Rattle.check_spec.specs.Input.{Input, problem}
use Rattle.check_spec.specs.Order.{answer}
use Rattle.check_spec.specs.Checked.{Checked}
use Rattle.check_spec.specs.Stated.{Usable}
use Rattle.check_spec.proofs.Contract.{answer_ready}
use Rattle.check_spec.proofs.Fit.{fit_of}
use Rattle.check_spec.proofs.Largest.{solution_magnitude}
use Rattle.check_spec.proofs.Lengths.{long_of}
use Rattle.check_spec.proofs.Statements.{accepted_usable}
use Rattle.check_spec.proofs.Written as limits
use Rattle.doubles_guess.specs.Guess.{has_guess, guess_for}
use Rattle.doubles_guess.specs.Units.{Double}
use Rattle.doubles_guess.proofs.Steps.{guess_whole}
use Rattle.doubles_interval.specs.Interval.{Steps}
use Rattle.doubles_lists.specs.Lists.{double_at}
use Rattle.doubles_lists.specs.Inward.{Incoming, guesses_code, inward_answer, GuessesOf, Guessed}
use Rattle.doubles_lists.specs.Outward.{outgoing, outward_answer}
use Rattle.doubles_lists.proofs.Inward as inward
use Rattle.rules.proofs.Every.{every_in}
use Rattle.doubles_lists.proofs.Outward as outward
use Rattle.doubles_lists.proofs.Promises.{guess_at}

in_scale : (s : ℕ) → s ≤ 20 → in_range kind.SolutionScale (pos s) ≡ true
unfolding in_range range_of ranges
in_scale s h = both (le-leb 0 s (omega arith)) (le-leb s 20 h)

in_guess : (x : ℤ) → nat_abs x ≤ 2 ^ 36 → in_range kind.Guess x ≡ true
unfolding in_range range_of ranges
in_guess (pos x) h = le-leb x 68719476736 h
in_guess (negsuc x) h = both (le-leb x 68719476735 (omega arith)) refl

pub steps_taken : (s : ℕ) (x : ℤ) (y : Float) → Double y → Steps s x y → nat_abs x ≤ 2 ^ 36 → has_guess s y ≡ true
unfolding has_guess
steps_taken s x y d w h = both (is_true (finite y) d.finite) (ap (in_range kind.Guess) (guess_whole s y x w) ∙ in_guess x h)

module _ (n s : ℕ) (guess : List ℤ) (bounds : List ℕ) (low high : List Float) where
  pub numbers_taken : 0 < n → n ≤ 32 → s ≤ 20 → 32 ≤ length guess → 32 ≤ length bounds → 32 ≤ length low → 32 ≤ length high →
      ((i : ℕ) → i < n → nat_abs (at guess i) ≤ 2 ^ 36) → ((i : ℕ) → i < n → get_or bounds i 0 ≤ 2 ^ 60) → outward_answer (outgoing n s guess bounds low high) ≡ []
  numbers_taken n_pos n_max scale hx he hl hh x e =
      (outward.code_nothing (outgoing n s guess bounds low high)).1 (
        rw (le-ltb (length guess) 32 hx, le-ltb (length bounds) 32 he, le-ltb (length low) 32 hl, le-ltb (length high) 32 hh),
        both (both (in_size_range n n_pos n_max) (in_scale s scale))
            (both (all_in kind.Guess n (at guess) (λ i l. in_guess (at guess i) (x i l))) (every_in n _ (λ i l. le-leb (get_or bounds i 0) (2 ^ 60) (e i l)))),
      )

pub written_taken : (J : Input) → Usable J → (f : ℕ → ℕ) {E : List ℕ} → E ≡ written J.solution_bounds 0 1 f J.n → ((i : ℕ) → i < J.n → f i ≤ 2 ^ 60) →
    (low high : List Float) → 32 ≤ length low → 32 ≤ length high → outward_answer (outgoing J.n J.s J.guess E low high) ≡ []
written_taken J u f {E} e small low high hl hh =
    let fit = fit_of J u.long u.inside in
    let long : length E ≡ length J.solution_bounds = ap length e ∙ written_length J.solution_bounds 0 1 f J.n in
    let at_place : (i : ℕ) → i < J.n → get_or E i 0 ≡ f i = λ i l. rw e (front_at J.solution_bounds f 0 J.n i l (omega (arith, fit.n_max, fit.solution_long))) in
    numbers_taken J.n J.s J.guess E low high fit.n_pos fit.n_max fit.solution_scale (long_of J u.long).guess (omega (arith, long, fit.solution_long)) hl hh fit.guess.within.magnitudes
    (λ i l. rw (at_place i l) (small i l))

pub checked_taken : (J : Input) {a : Outcome} {E L : List ℕ} → Checked J a E L → code a ≡ [] → (low high : List Float) → 32 ≤ length low → 32 ≤ length high →
    outward_answer (outgoing J.n J.s J.guess E low high) ≡ []
checked_taken J {a} {E} {L} c ok =
    let none : answer J ≡ [] = sym c.says ∙ ok in
    let u = accepted_usable J none in
    let fit = fit_of J u.long u.inside in
    written_taken J u (bound (problem J)) (c.solution_bounds ∙ limits.solution_written J none) (solution_magnitude J fit (sym (answer_ready J u.long u.inside) ∙ none))

pub guesses_taken : (I : Incoming) {a : Guessed} {guess : List ℤ} → GuessesOf I a guess → guesses_code a ≡ [] →
    (bounds : List ℕ) (low high : List Float) → 32 ≤ length bounds → 32 ≤ length low → 32 ≤ length high → ((i : ℕ) → i < I.n → get_or bounds i 0 ≤ 2 ^ 60) →
    outward_answer (outgoing I.n I.s guess bounds low high) ≡ []
guesses_taken I {a} {guess} c ok bounds low high hb hl hh e =
    let none : inward_answer I ≡ [] = sym c.says ∙ ok in
    let n = (inward.code_nothing I).0 none in
    let size = size_range I.n (both_left (in_range kind.Size (pos I.n)) _ n.1) in
    let long : length guess ≡ length I.guess = ap length c.guesses ∙ inward.after_length I in
    numbers_taken I.n I.s guess bounds low high size.0 size.1 (inward.ready I n.0 n.1).scale
    (omega (arith, long, ltb-false (length I.guess) 32 (neither_right (short_column (length I.values)) _ n.0))) hb hl hh
    (λ i l. rw (guess_at I c ok i l) (guess_range (guess_for I.s (double_at I.values i)) (has_range I.s (double_at I.values i) (n.2 i l)))) e
  where
    has_range : (s : ℕ) (x : Float) → has_guess s x ≡ true → in_range kind.Guess (guess_for s x) ≡ true
    has_range s x h = unfold has_guess in both_right (finite x) (in_range kind.Guess (guess_for s x)) h
