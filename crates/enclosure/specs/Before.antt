-- The residual tests before 02's Paper 9, and before Paper 5. proofs/Tighter says what Paper 9 leaves as it was, and proofs/Before that the definitions with
-- slack, but for Paper 9's test, are equal to 01's where all tolerances are 0.
--   exceeds05 P k    — the magnitude of the residual of row k, and its slack, are above 2^25 together: the test of Paper 5 alone
--   Sound05 P        — every margin is above 0, no residual of the guess or of a column of the inverse fails that test
-- The definitions without slack, in document 01's own text:
--   exceeds01 z      — the residual z is above 2^25 in absolute value
--   sizes01 P m      — |p_m|
--   bound01 P i      — limit i: the largest over all rows m of w_i·|p_m| / g_m, each rounded up;  inverse_bound01 P i j — of the inverse
--   Sound01 P        — every margin is above 0, no residual of the guess or of a column of the inverse above 2^25 in absolute value
use Rattle.std.specs.Prelude.{Bool, false, ◌≡◌, ℕ, ◌<◌, ◌^◌, ltb, ℤ, nat_abs}
use Rattle.enclosure.specs.Problem.{Problem, column_of}
use Rattle.enclosure.specs.Reckoning.{margin, residual, slack, exceeds_with, bound_from}
use Rattle.enclosure.specs.Sound.{Margins}
use Rattle.enclosure.specs.Schroeder.{image}

abbrev pub exceeds05 : Problem → ℕ → Bool
exceeds05 P = exceeds_with (residual P) (slack P)

pub record Sound05 (P : Problem) : Type 0 where
  pub margins : Margins P
  pub residuals : (k : ℕ) → k < P.n → exceeds05 P k ≡ false
  pub columns : (j : ℕ) → j < P.n → (k : ℕ) → k < P.n → exceeds05 (column_of P j) k ≡ false

abbrev pub exceeds01 : ℤ → Bool
exceeds01 z = ltb (2 ^ 25) (nat_abs z)

abbrev pub sizes01 : Problem → ℕ → ℕ
sizes01 P m = nat_abs (image P m)

abbrev pub bound01 : Problem → ℕ → ℕ
bound01 P = bound_from P.n (sizes01 P) (λ (m : ℕ). nat_abs (margin P m)) P.w

abbrev pub inverse_bound01 : Problem → ℕ → ℕ → ℕ
inverse_bound01 P i j = bound01 (column_of P j) i

pub record Sound01 (P : Problem) : Type 0 where
  pub margins : Margins P
  pub residuals : (k : ℕ) → k < P.n → exceeds01 (residual P k) ≡ false
  pub columns : (j : ℕ) → j < P.n → (k : ℕ) → k < P.n → exceeds01 (residual (column_of P j) k) ≡ false
