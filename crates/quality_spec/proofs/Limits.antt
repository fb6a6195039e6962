-- The factor that a call gives, of the limits of an accepted check (good_limits/specs/Good): no limit is above it times a true error.
--   factor_far, factor_far_at_b — for some right side at the ends of the tolerances, and without tolerances for b, there are exact heights, and of them a row such
--     that every solution limit is at most numerator over denominator times its true error, by the ratio of the weights, rounded up
--   factor_far_column — the same of each column of the inverse
use mathlib.Core.List.{List, []}
use mathlib.Core.Path.{◌≡◌}
use Prim.Native.Nat.{ℕ, ◌<◌}
use lib.IntN.{ℤ}
use Rattle.linear.specs.Matrix.{Vec}
use Rattle.enclosure.specs.Problem.{Problem, column_of, problem_of}
use Rattle.enclosure.specs.Demand.{ExactSolution, ExactSolutionOf, NoTolerance}
use Rattle.enclosure.specs.Quality.{NeverFar}
use Rattle.good_limits.specs.Good.{Good}
use Rattle.quality_spec.specs.Answer.{Quality, quality_code, numerator_of, denominator_of, QualityAs}
use Rattle.quality_spec.specs.Inquiry.{Inquiry}

module _ (Q : Inquiry) (r : Quality) (x : QualityAs Q r) (z : quality_code r ≡ []) (s : ℕ) (right tolerance guess : List ℤ) where
  abbrev P : Problem
  P = problem_of Q.n s Q.t Q.matrix right tolerance guess Q.inverse Q.weights

  module _ (E : ℕ → ℕ) (L : ℕ → ℕ → ℕ) (g : Good P E L) where
    pub factor_far : (N : Vec) (q : ℕ) → ExactSolutionOf P g.solution.β 1 N q → NeverFar P (numerator_of r) (denominator_of r) E N q
    factor_far N q e = g.solution.at_corner.far N q e (numerator_of r) (denominator_of r) (x.factor z s right tolerance guess)

    pub factor_far_at_b : NoTolerance P → (N : Vec) (q : ℕ) → ExactSolution P N q → NeverFar P (numerator_of r) (denominator_of r) E N q
    factor_far_at_b h N q e = (g.solution.at_b h).far N q e (numerator_of r) (denominator_of r) (x.factor z s right tolerance guess)

    pub factor_far_column : (j : ℕ) (l : j < Q.n) (N : Vec) (q : ℕ) → ExactSolutionOf (column_of P j) (g.columns j l).β 1 N q →
        NeverFar (column_of P j) (numerator_of r) (denominator_of r) (λ (i : ℕ). L i j) N q
    factor_far_column j l N q e =
        (g.columns j l).at_corner.far N q e (numerator_of r) (denominator_of r)
        (g.column_factors j (numerator_of r) (denominator_of r) (x.factor z s right tolerance guess))
