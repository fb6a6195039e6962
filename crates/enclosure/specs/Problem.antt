-- The system and its steps (document 01), as index functions of which only the first n numbers count.
--   Problem — n equations A·x = b, a tolerance d of each right side in whole units, as b is (02, Paper 5: "a tolerance d of 0 to 2^20"), the guess X (the
--     approximate solution) in steps of 1/S, the inverse G (the approximate inverse) in steps of 1/T, and a weight w for each row
--   S, T    — the steps in one unit, 2^s and 2^t
--   column_of P j — the problem of column j of the inverse: column j of G as guess, T for S, unit column j as right side, which has no tolerance (02, Paper 5:
--     "Inverse columns have no slack")
--   problem_of    — the problem that lists hold, row after row
use Rattle.std.specs.Prelude.{List, ℕ, ◌^◌, ℤ, nat_abs}
use Rattle.linear.specs.Matrix.{Vec, Mat, column, identity}
use Rattle.linear.specs.Slice.{at, vector_of, matrix_of}

pub record Problem : Type 0 where
  pub n : ℕ
  pub s : ℕ
  pub t : ℕ
  pub A : Mat
  pub b : Vec
  pub d : ℕ → ℕ
  pub X : Vec
  pub G : Mat
  pub w : ℕ → ℕ

abbrev pub S : Problem → ℕ
S P = 2 ^ P.s

abbrev pub T : Problem → ℕ
T P = 2 ^ P.t

abbrev pub column_of : Problem → ℕ → Problem
column_of P j = record {
  n = P.n;
  s = P.t;
  t = P.t;
  A = P.A;
  b = column identity j;
  d = λ (k : ℕ). 0;
  X = column P.G j;
  G = P.G;
  w = P.w;
}

-- a tolerance and a weight in their ranges are natural numbers, so their magnitudes are they themselves
abbrev pub problem_of : ℕ → ℕ → ℕ → List ℤ → List ℤ → List ℤ → List ℤ → List ℤ → List ℤ → Problem
problem_of n s t matrix right tolerance guess inverse weights = record {
  n = n;
  s = s;
  t = t;
  A = matrix_of matrix n;
  b = vector_of right;
  d = λ (i : ℕ). nat_abs (at tolerance i);
  X = vector_of guess;
  G = matrix_of inverse n;
  w = λ (i : ℕ). nat_abs (at weights i);
}
