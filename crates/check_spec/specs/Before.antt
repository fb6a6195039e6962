-- The check on lists before 02's Paper 9, and before Paper 5, by the residual tests of enclosure/specs/Before. What Paper 9 changes is in specs/Tightened.
-- The check as Paper 5 has it:
--   first_residual05, first_inverse_place05, computed_of05 P, checked_of05 P, answer05 I — the places of 6 and 7, the tests, and what is said
--   solution_after05 I, inverse_after05 I — the two limit lists after a check
-- The check as document 01 has it, without tolerances and without slack. proofs/Before says that Paper 5's is the same where all tolerances are 0 and their
-- list is long enough.
--   short01, in_ranges01 — 8 and 3 of five lists of numbers
--   first_residual01, first_inverse_place01 — the lowest row, the lowest column and its lowest row, of a residual above 2^25 in absolute value
--   computed_of01 P, checked_of01 P, answer01 I — the tests, and what is said
--   written01 n f l — l with f 0, .., f (n − 1) at its first n places, the rest as before;  solution_after01 I, inverse_after01 I — the two limit lists after a check
--   Unmoved I — what Paper 5 says of an input and the two lists afterwards are 01's
use Rattle.std.specs.Prelude.{Bool, not, ◌&&◌, ◌||◌, List, ◌∷◌, ◌≡◌, ℕ, zero, suc, ◌*◌, ◌/◌, ◌%◌, length, set}
use Rattle.integer.specs.Finite.{first}
use Rattle.linear.specs.Slice.{at}
use Rattle.rules.specs.Order.{Test, number, verdict, if_accepted}
use Rattle.rules.specs.Range.{all_in_range, short_matrix, short_column}
use Rattle.rules.specs.declared.Kind.TheVariants as kind
use Rattle.enclosure.specs.Before.{exceeds05, exceeds01, bound01, inverse_bound01}
use Rattle.enclosure.specs.Problem.{Problem, column_of}
use Rattle.enclosure.specs.Reckoning.{residual}
use Rattle.check_spec.specs.Input.{Input, problem, short, in_ranges, sizes_in_range}
use Rattle.check_spec.specs.Order.{first_margin, computed}
use Rattle.check_spec.specs.Checked.{solution_after, inverse_after}

abbrev pub first_residual05 : Problem → ℕ
first_residual05 P = first P.n (exceeds05 P)

abbrev pub first_inverse_place05 : Problem → ℕ
first_inverse_place05 P = first (P.n * P.n) (λ (i : ℕ). exceeds05 (column_of P (i / P.n)) (i % P.n))

abbrev pub computed_of05 : Problem → List Test
computed_of05 P = computed P.n (first_margin P) (first_residual05 P) (first_inverse_place05 P)

abbrev pub checked_of05 : Problem → List ℕ
checked_of05 P = verdict (computed_of05 P)

unfoldable pub answer05 : Input → List ℕ
answer05 I = verdict (number 8 (short I) ∷ number 3 (not (in_ranges I)) ∷ computed_of05 (problem I))

unfoldable pub solution_after05 : Input → List ℕ
solution_after05 I = solution_after (answer05 I) I

unfoldable pub inverse_after05 : Input → List ℕ
inverse_after05 I = inverse_after (answer05 I) I

abbrev pub short01 : Input → Bool
short01 I =
    short_matrix (length I.matrix)
    || (short_column (length I.right)
    || (short_column (length I.guess)
    || (short_matrix (length I.inverse)
    || (short_column (length I.weights) || (short_column (length I.solution_bounds) || short_matrix (length I.inverse_bounds))))))

abbrev pub in_ranges01 : Input → Bool
in_ranges01 I =
    sizes_in_range I.n I.s I.t
    && (all_in_range kind.Matrix (I.n * I.n) (at I.matrix)
    && (all_in_range kind.Right I.n (at I.right)
    && (all_in_range kind.Guess I.n (at I.guess)
    && (all_in_range kind.Inverse (I.n * I.n) (at I.inverse) && all_in_range kind.Weight I.n (at I.weights)))))

abbrev pub first_residual01 : Problem → ℕ
first_residual01 P = first P.n (λ (k : ℕ). exceeds01 (residual P k))

abbrev pub first_inverse_place01 : Problem → ℕ
first_inverse_place01 P = first (P.n * P.n) (λ (i : ℕ). exceeds01 (residual (column_of P (i / P.n)) (i % P.n)))

abbrev pub computed_of01 : Problem → List Test
computed_of01 P = computed P.n (first_margin P) (first_residual01 P) (first_inverse_place01 P)

abbrev pub checked_of01 : Problem → List ℕ
checked_of01 P = verdict (computed_of01 P)

unfoldable pub answer01 : Input → List ℕ
answer01 I = verdict (number 8 (short01 I) ∷ number 3 (not (in_ranges01 I)) ∷ computed_of01 (problem I))

unfoldable pub written01 : ℕ → (ℕ → ℕ) → List ℕ → List ℕ
written01 zero f l = l
written01 (suc n) f l = set (written01 n f l) n (f n)

unfoldable pub solution_after01 : Input → List ℕ
solution_after01 I = if_accepted (answer01 I) (written01 I.n (bound01 (problem I)) I.solution_bounds) I.solution_bounds

unfoldable pub inverse_after01 : Input → List ℕ
inverse_after01 I =
    if_accepted (answer01 I) (written01 (I.n * I.n) (λ (k : ℕ). inverse_bound01 (problem I) (k / I.n) (k % I.n)) I.inverse_bounds)
    I.inverse_bounds

pub record Unmoved (I : Input) : Type 0 where
  pub says : answer05 I ≡ answer01 I
  pub solution : solution_after05 I ≡ solution_after01 I
  pub inverse : inverse_after05 I ≡ inverse_after01 I
