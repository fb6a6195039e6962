-- How good the limits of an accepted check are. Demand 3 (`Encloses`) says that no true error is above its limit; here, the other way, that no limit is far above
-- a true error. E are the solution limits that a call wrote, L those of the inverse. `Factor` and `NeverFar` are those of enclosure/specs/Quality.
--   OwnFactor P a c — the proposal's own factor: a / c is at least (T·w_m + load_m) / margin_m in every row m, and it is that of one row
--   Attained P E exact — there are exact heights; and of all exact heights, and for every factor a / c, there is a row, one for all limits, such that every E_i is
--     at most a / c times the true error of that row, times w_i over that row's weight, rounded up (`NeverFar`)
--   ExactGuess P    — the guess solves the equations exactly, A·X = S·b, and no right side has a tolerance
--   GoodFor P E     — of the limits E of one problem:
--     there is a right side, each number of it at an end of its tolerance, for which this holds; without tolerances it holds for b;
--     a limit of 0 says that the guess is exact; and where the guess is exact, every limit is 0
--   FineRounded P N q H q' — a rounded exact proposal (01: exact N and H, guess and inverse rounded to nearest steps; no tolerance, weights 1) whose T is fine
--     enough: 3·Σ|A_ij| ≤ 2·T
--   OneStep n E L   — every limit is 0 or 1
--   Good P E L      — the proposal has its own factor; all this holds of the solution's limits, and of those of each column of the inverse as its own problem
--     (`column_of`), which has the same factors; and where the proposal is so rounded, every limit is 0 or 1
use Rattle.std.specs.Prelude.{◌≡◌, ℕ, ◌+◌, ◌*◌, ◌≤◌, ◌<◌, nat_abs, ◌-ℤ◌}
use Rattle.linear.specs.Matrix.{Vec, Mat}
use Rattle.enclosure.specs.Problem.{Problem, S, T, column_of}
use Rattle.enclosure.specs.Reckoning.{load, margin}
use Rattle.enclosure.specs.Demand.{RightSide, ExactSolution, ExactSolutionOf, NoTolerance, RoundedExact, sum_of_magnitudes}
use Rattle.enclosure.specs.Quality.{Factor, NeverFar}

pub record OwnFactor (P : Problem) (a c : ℕ) : Type 0 where
  pub row : ℕ
  pub below : row < P.n
  pub above_is : a ≡ T P * P.w row + load P row
  pub under_is : c ≡ nat_abs (margin P row)
  pub every_row : Factor P a c

pub record Attained (P : Problem) (E : ℕ → ℕ) (exact : Vec → ℕ → Type 0) : Type 0 where
  pub N : Vec
  pub q : ℕ
  pub holds : exact N q
  pub far : (N : Vec) (q : ℕ) → exact N q → (a c : ℕ) → Factor P a c → NeverFar P a c E N q

pub record ExactGuess (P : Problem) : Type 0 where
  pub solves : ExactSolution P P.X (S P)
  pub no_tolerance : NoTolerance P

pub record GoodFor (P : Problem) (E : ℕ → ℕ) : Type 0 where
  pub β : Vec
  pub at_end : (k : ℕ) → k < P.n → nat_abs (β k -ℤ P.b k) ≡ P.d k
  pub right : RightSide P β 1
  pub at_corner : Attained P E (ExactSolutionOf P β 1)
  pub at_b : NoTolerance P → Attained P E (ExactSolution P)
  pub zero_exact : (i : ℕ) → i < P.n → E i ≡ 0 → ExactGuess P
  pub exact_zero : ExactGuess P → (i : ℕ) → i < P.n → E i ≡ 0

pub record FineRounded (P : Problem) (N : Vec) (q : ℕ) (H : Mat) (q' : ℕ) : Type 0 where
  pub rounded : RoundedExact P N q H q'
  pub fine : 3 * sum_of_magnitudes P ≤ 2 * T P

pub record OneStep (n : ℕ) (E : ℕ → ℕ) (L : ℕ → ℕ → ℕ) : Type 0 where
  pub solution : (i : ℕ) → i < n → E i ≤ 1
  pub inverse : (i j : ℕ) → i < n → j < n → L i j ≤ 1

pub record Good (P : Problem) (E : ℕ → ℕ) (L : ℕ → ℕ → ℕ) : Type 0 where
  pub a : ℕ
  pub c : ℕ
  pub factor : OwnFactor P a c
  pub solution : GoodFor P E
  pub columns : (j : ℕ) → j < P.n → GoodFor (column_of P j) (λ (i : ℕ). L i j)
  pub column_factors : (j a c : ℕ) → Factor P a c → Factor (column_of P j) a c
  pub one_step : (N : Vec) (q : ℕ) (H : Mat) (q' : ℕ) → FineRounded P N q H q' → OneStep P.n E L
