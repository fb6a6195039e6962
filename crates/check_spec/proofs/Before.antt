-- Paper 5 moves nothing where all tolerances are 0 and their list is long enough: what is said, and both limit lists, are document 01's (specs/Before).
--   checked_before — what is said of a problem
--   written_before — a list that numbers were written into
--   no_tolerance   — of a check on lists
use mathlib.Core.Path.{◌≡◌, refl}
use mathlib.Core.Bool.{true}
use mathlib.Core.List.{List}
use Prim.Native.Nat.{ℕ, zero, suc, ◌+◌, ◌*◌, ◌/◌, ◌%◌, ◌≤◌}
use native.Mathlib.Omega.{arith}
use borrow.Author.Tests.{le-ltb}
use lib.ListN.{length}
use Rattle.integer.proofs.Absolute.{abs_zero}
use Rattle.integer.proofs.Search.{first_ext}
use Rattle.linear.specs.Slice.{at}
use Rattle.linear.specs.Written.{written}
use Rattle.linear.proofs.Written.{written_ext}
use Rattle.rules.specs.Range.{all_in_range}
use Rattle.rules.specs.declared.Kind.TheVariants as kind
use Rattle.rules.proofs.AllInRange.{all_in}
use Rattle.rules.proofs.Ranges.{zero_tolerance}
use Rattle.enclosure.specs.Before.{exceeds05, exceeds01, bound01, inverse_bound01}
use Rattle.enclosure.specs.Demand.{NoTolerance}
use Rattle.enclosure.specs.Problem.{Problem, column_of}
use Rattle.enclosure.specs.Reckoning.{residual, bound, inverse_bound}
use Rattle.enclosure.proofs.Before.{exceeds_before, column_exceeds_before, bound_before, inverse_bound_before}
use Rattle.check_spec.specs.Before.{first_residual05, first_inverse_place05, checked_of05, answer05, solution_after05, inverse_after05, short01, in_ranges01, first_residual01, first_inverse_place01, checked_of01, answer01, written01, solution_after01, inverse_after01, Unmoved}
use Rattle.check_spec.specs.Input.{Input, problem, short, in_ranges}

module _ (P : Problem) where
  place_before : first_inverse_place05 P ≡ first_inverse_place01 P
  place_before =
      first_ext (P.n * P.n) (λ (i : ℕ). exceeds05 (column_of P (i / P.n)) (i % P.n))
      (λ (i : ℕ). exceeds01 (residual (column_of P (i / P.n)) (i % P.n))) (λ i l. column_exceeds_before P (i / P.n) (i % P.n))

  module _ (none : NoTolerance P) where
    residual_before : first_residual05 P ≡ first_residual01 P
    residual_before = first_ext P.n (exceeds05 P) (λ (k : ℕ). exceeds01 (residual P k)) (λ k l. exceeds_before P k (none k l))

    pub checked_before : checked_of05 P ≡ checked_of01 P
    checked_before = rw (residual_before, place_before)

pub written_before : (n : ℕ) (f : ℕ → ℕ) (l : List ℕ) → written l 0 1 f n ≡ written01 n f l
unfolding written written01
written_before zero f l = refl
written_before (suc n) f l = let e : 0 + n * 1 ≡ n = omega arith in rw (e, written_before n f l)

module _ (I : Input) (long : 32 ≤ length I.tolerance) (none : NoTolerance (problem I)) where
  short_before : short I ≡ short01 I
  short_before = rw (le-ltb (length I.tolerance) 32 long)

  within : all_in_range kind.Tolerance I.n (at I.tolerance) ≡ true
  within = all_in kind.Tolerance I.n (at I.tolerance) (λ k l. rw (abs_zero (at I.tolerance k) (omega (arith, none k l))) zero_tolerance)

  ranges_before : in_ranges I ≡ in_ranges01 I
  ranges_before = rw within

  answer_before_lem : answer05 I ≡ answer01 I
  unfolding answer05 answer01
  answer_before_lem = rw (short_before, ranges_before, residual_before (problem I) none, place_before (problem I))

  pub no_tolerance : Unmoved I
  unfolding solution_after05 solution_after01 inverse_after05 inverse_after01
  no_tolerance = record {
    says = answer_before_lem;
    solution = rw (
      answer_before_lem,
      written_ext I.solution_bounds 0 1 (bound (problem I)) (bound01 (problem I)) I.n (λ k l. bound_before (problem I) none k),
      written_before I.n (bound01 (problem I)) I.solution_bounds,
    );
    inverse = rw (
      answer_before_lem,
      written_ext I.inverse_bounds 0 1 (λ (k : ℕ). inverse_bound (problem I) (k / I.n) (k % I.n)) (λ (k : ℕ). inverse_bound01 (problem I) (k / I.n) (k % I.n)) (I.n * I.n)
          (λ k l. inverse_bound_before (problem I) (k / I.n) (k % I.n)),
      written_before (I.n * I.n) (λ (k : ℕ). inverse_bound01 (problem I) (k / I.n) (k % I.n)) I.inverse_bounds,
    );
  }
