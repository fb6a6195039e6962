-- What is handed to the reckoning once 8 and 3 are passed, and what it makes of it; cited by the contract of `compute_bounds` alone.
--   Work     — n, t and the lists of a problem; `base`, from which A·X is taken to give the residuals of the guess; `allowed`, how large
--     they may be, row by row; `allowed_in_columns`, the same of the inverse's columns; `slacks`, what may be missing in the absolute values of the guess's; and the two
--     limit lists as they come in
--   work     — from its parts;  work_problem W — its problem, in which s, b and d don't count
--   work_residual W, work_slack W — the residuals and the slacks that it is handed
--   work_answer W — 5, 6 or 7, or nothing
--   Workable W — what the reckoning asks: n and t in their ranges, the lists long enough, every number used in its range, room for the slack wherever a
--     residual is allowed, and of the columns just what 02's Paper 9 allows
--   solution_of W, inverse_of W — the two limit lists afterwards
--   ComputedAs W r E L — what is said, and the two limit lists
use Rattle.std.specs.Prelude.{false, List, [], ◌≡◌, ℕ, ◌+◌, ◌*◌, ◌/◌, ◌%◌, ◌≤◌, ◌<◌, ◌^◌, ℤ, nat_abs, get_or, length}
use Rattle.integer.specs.Finite.{first}
use Rattle.linear.specs.Matrix.{Vec}
use Rattle.linear.specs.Slice.{at}
use Rattle.linear.specs.Reach.{ColumnList, MatrixList}
use Rattle.linear.specs.Written.{written}
use Rattle.rules.specs.Order.{verdict, if_accepted}
use Rattle.rules.specs.Refusal.{code, Outcome}
use Rattle.enclosure.specs.Problem.{Problem, problem_of}
use Rattle.enclosure.specs.Reckoning.{allowed_residual, row_sum, bound_with, inverse_bound}
use Rattle.check_arrays.specs.Parts.{residual_from, above_allowed}
use Rattle.check_allowances.specs.Allowed.{allowed_beside}
use Rattle.check_spec.specs.Order.{first_margin, first_inverse_place, computed}

pub record Work : Type 0 where
  pub n : ℕ
  pub t : ℕ
  pub matrix : List ℤ
  pub base : List ℤ
  pub allowed : List ℤ
  pub allowed_in_columns : List ℤ
  pub slacks : List ℕ
  pub guess : List ℤ
  pub inverse : List ℤ
  pub weights : List ℤ
  pub solution_bounds : List ℕ
  pub inverse_bounds : List ℕ

abbrev pub work : ℕ → ℕ → List ℤ → List ℤ → List ℤ → List ℤ → List ℕ → List ℤ → List ℤ → List ℤ → List ℕ → List ℕ → Work
work n t matrix base allowed allowed_in_columns slacks guess inverse weights solution inverse_bounds = record {
  n = n;
  t = t;
  matrix = matrix;
  base = base;
  allowed = allowed;
  allowed_in_columns = allowed_in_columns;
  slacks = slacks;
  guess = guess;
  inverse = inverse;
  weights = weights;
  solution_bounds = solution;
  inverse_bounds = inverse_bounds;
}

abbrev pub work_problem : Work → Problem
work_problem W = problem_of W.n 0 W.t W.matrix [] [] W.guess W.inverse W.weights

abbrev pub work_residual : Work → Vec
work_residual W = residual_from W.n W.base W.matrix W.guess

abbrev pub work_slack : Work → ℕ → ℕ
work_slack W k = get_or W.slacks k 0

abbrev pub work_answer : Work → List ℕ
work_answer W =
    verdict (computed W.n (first_margin (work_problem W)) (first W.n (λ (k : ℕ). above_allowed (at W.allowed k) (work_residual W k)))
    (first_inverse_place (work_problem W)))

pub record Workable (W : Work) : Type 0 where
  pub n_pos : 0 < W.n
  pub n_max : W.n ≤ 32
  pub inverse_scale : W.t ≤ 20
  pub matrix : MatrixList W.matrix W.n
  pub base : ColumnList W.base W.n (2 ^ 62)
  pub allowed : ColumnList W.allowed W.n allowed_residual
  pub room : (k : ℕ) → k < W.n → (z : ℤ) → above_allowed (at W.allowed k) z ≡ false → nat_abs z + work_slack W k ≤ allowed_residual
  pub in_columns : ColumnList W.allowed_in_columns W.n allowed_residual
  pub column_rule : (k : ℕ) → k < W.n → at W.allowed_in_columns k ≡ allowed_beside 0 (row_sum (work_problem W) k)
  pub guess : ColumnList W.guess W.n (2 ^ 36)
  pub inverse : MatrixList W.inverse W.n
  pub weights : ColumnList W.weights W.n 1024
  pub solution_long : 32 ≤ length W.solution_bounds
  pub inverse_long : 1024 ≤ length W.inverse_bounds

abbrev pub solution_of : Work → List ℕ
solution_of W =
    if_accepted (work_answer W) (written W.solution_bounds 0 1 (bound_with (work_problem W) (work_residual W) (work_slack W)) W.n)
    W.solution_bounds

abbrev pub inverse_of : Work → List ℕ
inverse_of W =
    if_accepted (work_answer W)
    (written W.inverse_bounds 0 1 (λ (k : ℕ). inverse_bound (work_problem W) (k / W.n) (k % W.n)) (W.n * W.n)) W.inverse_bounds

pub record ComputedAs (W : Work) (r : Outcome) (E L : List ℕ) : Type 0 where
  pub says : code r ≡ work_answer W
  pub solution_bounds : E ≡ solution_of W
  pub inverse_bounds : L ≡ inverse_of W
