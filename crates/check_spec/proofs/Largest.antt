-- Every limit of an accepted check is at most 2^60.
--   solution_magnitude, inverse_magnitude — the limits of an accepted check
use mathlib.Core.Path.{◌≡◌}
use mathlib.Core.List.{[]}
use Prim.Native.Nat.{ℕ, ◌+◌, ◌*◌, ◌≤◌, ◌<◌}
use borrow.Author.Tests.{ltb-false}
use lib.IntN.{nat_abs}
use Rattle.linear.proofs.Places.{place}
use Rattle.enclosure.specs.Largest.{largest_bound}
use Rattle.enclosure.specs.Problem.{column_of}
use Rattle.enclosure.specs.Reckoning.{margin, load, defect, residual, slack, allowed_residual, bound, inverse_bound}
use Rattle.enclosure.proofs.Largest.{bound_magnitude}
use Rattle.enclosure.proofs.Margin.{margin_above}
use Rattle.enclosure.proofs.Before.{exceeds_05}
use Rattle.check_spec.specs.Order.{checked_of}
use Rattle.check_spec.specs.Input.{Input, problem}
use Rattle.check_spec.proofs.Contract.{code_sound}
use Rattle.check_spec.proofs.Fit.{Fit}

module _ (I : Input) (fit : Fit I) (e : checked_of (problem I) ≡ []) where
  pub solution_magnitude : (i : ℕ) → i < I.n → bound (problem I) i ≤ largest_bound
  unfolding bound
  solution_magnitude = bound_magnitude (problem I) (residual (problem I)) (slack (problem I)) (record {
    n_max = fit.n_max;
    inverse = λ i j li lj. fit.inverse.within.magnitudes (i * I.n + j) (place li lj);
    weights = fit.weights.within.magnitudes;
    residuals = λ k l. ltb-false allowed_residual (nat_abs (residual (problem I) k) + slack (problem I) k) (exceeds_05 (problem I) k ((code_sound (problem I) e).residuals k l));
    margins = λ m l. margin_above (problem I) m ((code_sound (problem I) e).margins m l);
  })

  pub inverse_magnitude : (i j : ℕ) → i < I.n → j < I.n → inverse_bound (problem I) i j ≤ largest_bound
  unfolding bound margin load defect
  inverse_magnitude i j li lj = bound_magnitude (column_of (problem I) j) (residual (column_of (problem I) j)) (slack (column_of (problem I) j)) (record {
    n_max = fit.n_max;
    inverse = λ i j li lj. fit.inverse.within.magnitudes (i * I.n + j) (place li lj);
    weights = fit.weights.within.magnitudes;
    residuals = λ k l. ltb-false allowed_residual (nat_abs (residual (column_of (problem I) j) k) + slack (column_of (problem I) j) k) (exceeds_05 (column_of (problem I) j) k ((code_sound (problem I) e).columns j lj k l));
    margins = λ m l. margin_above (problem I) m ((code_sound (problem I) e).margins m l);
  }) i li
