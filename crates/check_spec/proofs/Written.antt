-- The limit lists of an accepted check.
--   past_kept — past the first n places a list is as before, whatever is said
--   solution_written, inverse_written — they, written from their first places on
--   accepted_fit — the numbers of an accepted check are in their ranges
--   solution_at, inverse_place, inverse_at — the limits in lists that were so written, place by place: of a height, and of the inverse by its place or by its
--     row and column
--   checked_fit, checked_solution, checked_inverse — the same of whatever meets the contract of `check`
use mathlib.Core.Path.{◌≡◌, refl, sym, ◌∙◌}
use mathlib.Core.List.{List, [], ◌∷◌}
use Prim.Native.Nat.{ℕ, ◌+◌, ◌*◌, ◌/◌, ◌%◌, ◌≤◌, ◌<◌}
use native.Mathlib.Omega.{arith}
use lib.ListN.{get_or}
use Rattle.linear.specs.Written.{written}
use Rattle.linear.proofs.Places.{place, square, place_column, place_row}
use Rattle.linear.proofs.Written.{front_at, front_else}
use Rattle.rules.specs.Order.{if_accepted}
use Rattle.rules.specs.Refusal.{code, Outcome}
use Rattle.rules.proofs.Verdicts.{accepted_new}
use Rattle.enclosure.specs.Reckoning.{bound, inverse_bound}
use Rattle.check_spec.specs.Checked.{Checked, solution_after, inverse_after, solution_bounds_after, inverse_bounds_after}
use Rattle.check_spec.specs.Input.{Input, problem}
use Rattle.check_spec.specs.Order.{answer}
use Rattle.check_spec.proofs.Fit.{Fit, fit_of}
use Rattle.check_spec.proofs.Statements.{accepted_usable}

pub past_kept : {A : Type 0} (d : A) (w : List ℕ) (n : ℕ) (xs : List A) (f : ℕ → A) (i : ℕ) → n ≤ i → get_or (if_accepted w (written xs 0 1 f n) xs) i d ≡ get_or xs i d
past_kept d [] n xs f i l = front_else xs f d n i l
past_kept d (k ∷ ks) n xs f i l = refl

module _ (I : Input) (e : answer I ≡ []) where
  pub solution_written : solution_bounds_after I ≡ written I.solution_bounds 0 1 (bound (problem I)) I.n
  unfolding solution_bounds_after
  solution_written = accepted_new _ _ e

  pub inverse_written : inverse_bounds_after I ≡ written I.inverse_bounds 0 1 (λ (k : ℕ). inverse_bound (problem I) (k / I.n) (k % I.n)) (I.n * I.n)
  unfolding inverse_bounds_after
  inverse_written = accepted_new _ _ e

  pub accepted_fit : Fit I
  accepted_fit = let u = accepted_usable I e in fit_of I u.long u.inside

module _ (I : Input) (fit : Fit I) where
  pub solution_at : (i : ℕ) → i < I.n → get_or (solution_after [] I) i 0 ≡ bound (problem I) i
  solution_at i l = front_at I.solution_bounds (bound (problem I)) 0 I.n i l (omega (arith, fit.n_max, fit.solution_long))

  pub inverse_place : (k : ℕ) → k < I.n * I.n → get_or (inverse_after [] I) k 0 ≡ inverse_bound (problem I) (k / I.n) (k % I.n)
  inverse_place k l =
      front_at I.inverse_bounds (λ (k : ℕ). inverse_bound (problem I) (k / I.n) (k % I.n)) 0 (I.n * I.n) k l (omega (arith, square fit.n_max, fit.inverse_long))

  pub inverse_at : (i j : ℕ) → i < I.n → j < I.n → get_or (inverse_after [] I) (i * I.n + j) 0 ≡ inverse_bound (problem I) i j
  inverse_at i j li lj = inverse_place (i * I.n + j) (place li lj) ∙ rw (place_column i j I.n lj, place_row i j I.n lj)

module _ (I : Input) (r : Outcome) (E L : List ℕ) (x : Checked I r E L) (e : code r ≡ []) where
  pub checked_fit : Fit I
  checked_fit = accepted_fit I (sym x.says ∙ e)

  pub checked_solution : (i : ℕ) → i < I.n → get_or E i 0 ≡ bound (problem I) i
  checked_solution i l = rw (x.solution_bounds, solution_written I (sym x.says ∙ e)) (solution_at I checked_fit i l)

  pub checked_inverse : (i j : ℕ) → i < I.n → j < I.n → get_or L (i * I.n + j) 0 ≡ inverse_bound (problem I) i j
  checked_inverse i j li lj = rw (x.inverse_bounds, inverse_written I (sym x.says ∙ e)) (inverse_at I checked_fit i j li lj)
