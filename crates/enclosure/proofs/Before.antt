-- Where all tolerances are 0, the definitions with slack are document 01's (specs/Before), but for Paper 9's test; those of the inverse's columns always are.
--   exceeds_05 — whatever passes both tests of Paper 9 passes the one before;  sound_05 — whatever is sound was
--   no_slack — no tolerance is no slack
--   exceeds_before, column_exceeds_before, magnitudes_before, bound_before, inverse_bound_before — the same numbers
--   sound_before, before_sound — the same problems are sound
use mathlib.Core.Path.{◌≡◌, refl, sym, ap, ◌∙◌}
use mathlib.Core.Bool.{false}
use Prim.Native.Nat.{ℕ, ◌+◌, ◌*◌}
use native.Mathlib.Omega.{arith}
use lib.Dec.{ltb}
use lib.IntN.{nat_abs}
use Rattle.integer.specs.Finite.{sumℕ}
use Rattle.integer.proofs.Sum.{sumℕ-*, sumℕ_ext}
use Rattle.rules.proofs.Ranges.{neither_left}
use Rattle.enclosure.specs.Problem.{Problem, column_of}
use Rattle.enclosure.specs.Reckoning.{margin, residual, slack, allowed_residual, exceeds_row, exceeds, magnitudes_with, magnitudes, bound_with, bound, inverse_bound}
use Rattle.enclosure.specs.Demand.{NoTolerance}
use Rattle.enclosure.specs.Sound.{Sound}
use Rattle.enclosure.specs.Schroeder.{image}
use Rattle.enclosure.specs.Before.{exceeds05, Sound05, exceeds01, sizes01, bound01, inverse_bound01, Sound01}
use Rattle.enclosure.proofs.Bounds.{bound_ext}
use Rattle.enclosure.proofs.Tolerance.{column_exact}

-- ---- before Paper 9
pub exceeds_05 : (P : Problem) (k : ℕ) → exceeds P k ≡ false → exceeds05 P k ≡ false
unfolding exceeds
exceeds_05 P k e = neither_left (exceeds05 P k) (exceeds_row P k) e

pub sound_05 : (P : Problem) → Sound P → Sound05 P
sound_05 P x = record {
  margins = x.margins;
  residuals = λ k l. exceeds_05 P k (x.residuals k l);
  columns = λ j lj k l. exceeds_05 (column_of P j) k (x.columns j lj k l);
}

-- ---- before Paper 5
-- no tolerance is no slack
pub no_slack : (P : Problem) (k : ℕ) → P.d k ≡ 0 → slack P k ≡ 0
no_slack P k e = rw e (omega arith)

pub exceeds_before : (P : Problem) (k : ℕ) → P.d k ≡ 0 → exceeds05 P k ≡ exceeds01 (residual P k)
exceeds_before P k e =
    let f : nat_abs (residual P k) + slack P k ≡ nat_abs (residual P k) = omega (arith, no_slack P k e) in ap (ltb allowed_residual) f

pub column_exceeds_before : (P : Problem) (j k : ℕ) → exceeds05 (column_of P j) k ≡ exceeds01 (residual (column_of P j) k)
column_exceeds_before P j k = exceeds_before (column_of P j) k (column_exact P j k)

pub magnitudes_before : (P : Problem) → NoTolerance P → (m : ℕ) → magnitudes P m ≡ sizes01 P m
unfolding magnitudes magnitudes_with image
magnitudes_before P h m =
    omega (arith, none, sumℕ-* P.n 0 (λ (j : ℕ). nat_abs (P.G m j)))
  where
    none : sumℕ P.n (λ (j : ℕ). nat_abs (P.G m j) * slack P j) ≡ sumℕ P.n (λ (j : ℕ). nat_abs (P.G m j) * 0)
    none = sumℕ_ext P.n (λ (j : ℕ). nat_abs (P.G m j) * slack P j) (λ (j : ℕ). nat_abs (P.G m j) * 0) (λ j l. ap (λ (x : ℕ). nat_abs (P.G m j) * x) (no_slack P j (h j l)))

pub bound_before : (P : Problem) → NoTolerance P → (i : ℕ) → bound P i ≡ bound01 P i
unfolding bound bound_with
bound_before P h i =
    bound_ext P.n (magnitudes_with P (residual P) (slack P)) (λ (m : ℕ). nat_abs (margin P m)) (sizes01 P) (λ (m : ℕ). nat_abs (margin P m)) P.w i
    (λ m l. unfold magnitudes in magnitudes_before P h m) (λ m l. refl)

pub inverse_bound_before : (P : Problem) (i j : ℕ) → inverse_bound P i j ≡ inverse_bound01 P i j
inverse_bound_before P i j = bound_before (column_of P j) (λ k l. column_exact P j k) i

pub sound_before : (P : Problem) → NoTolerance P → Sound05 P → Sound01 P
sound_before P h x = record {
  margins = x.margins;
  residuals = λ k l. sym (exceeds_before P k (h k l)) ∙ x.residuals k l;
  columns = λ j lj k l. sym (column_exceeds_before P j k) ∙ x.columns j lj k l;
}

pub before_sound : (P : Problem) → NoTolerance P → Sound01 P → Sound05 P
before_sound P h x = record {
  margins = x.margins;
  residuals = λ k l. exceeds_before P k (h k l) ∙ x.residuals k l;
  columns = λ j lj k l. column_exceeds_before P j k ∙ x.columns j lj k l;
}
