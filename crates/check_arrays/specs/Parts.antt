-- The parts of a problem that a step of the reckoning works on, and what it makes of them; cited by contracts inside.
--   rows_part      — the problem whose inverse stands in biased rows, as far as its residuals and p need it; b, d, X and w are left out
--   cut_margin     — the margin in ℕ: 0 where it is 0 or less
--   residual_from  — a base less A·X;  column_residual — the residual of row k of the inverse's column j
--   above_allowed a z — the magnitude of the residual z is above a; of any residual where a is below 0
use Rattle.std.specs.Prelude.{Bool, List, [], ℕ, ◌*◌, ◌-◌, ℤ, pos, nat_abs, ◌-ℤ◌}
use Rattle.std.specs.Int.Signed.{lt_z}
use Rattle.linear.specs.Matrix.{apply}
use Rattle.linear.specs.Slice.{at, vector_of, matrix_of}
use Rattle.check_biased_rows.specs.Biased.{unbiased_rows}
use Rattle.enclosure.specs.Problem.{Problem, T, column_of, problem_of}
use Rattle.enclosure.specs.Reckoning.{load, residual}

abbrev pub rows_part : ℕ → ℕ → List ℤ → List ℕ → Problem
rows_part n t matrix rows = record {
  n = n;
  s = 0;
  t = t;
  A = matrix_of matrix n;
  b = λ (i : ℕ). pos 0;
  d = λ (i : ℕ). 0;
  X = λ (i : ℕ). pos 0;
  G = unbiased_rows rows n;
  w = λ (i : ℕ). 0;
}

abbrev pub cut_margin : Problem → ℕ → ℕ
cut_margin P m = T P * P.w m - load P m

abbrev pub residual_from : ℕ → List ℤ → List ℤ → List ℤ → ℕ → ℤ
residual_from n base matrix guess k = at base k -ℤ apply n (matrix_of matrix n) (vector_of guess) k

abbrev pub column_residual : ℕ → ℕ → List ℤ → List ℤ → ℕ → ℕ → ℤ
column_residual n t matrix inverse j = residual (column_of (problem_of n 0 t matrix [] [] [] inverse []) j)

abbrev pub above_allowed : ℤ → ℤ → Bool
above_allowed a z = lt_z a (pos (nat_abs z))
