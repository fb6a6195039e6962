-- Demand 3 in the words of document 01, widened by 02's Paper 5 to right sides within a tolerance. q, N, ρ, β and H are whole numbers of any size, and H has
-- its own q.
--   ExactSolution P N q — q ≥ 1 and A·N = q·b
--   RightSide P β ρ     — the right side β_k / ρ, in fractions, "differs from b by at most d in each place" (Paper 5): ρ ≥ 1 and |β_k − ρ·b_k| ≤ ρ·d_k.
--     b itself is one, with ρ = 1
--   ExactSolutionOf P β ρ N q — q ≥ 1 and ρ·(A·N) = q·β: the fractions N_i / q solve the equations with that right side
--   ExactInverse P H q  — q ≥ 1 and A·H = q·I;  TwoSided — H·A = q·I as well
--   InLimits P E N q    — every N_i / q lies within its limit of the guess;  InEntryLimits P E N q — and within its entry limit of the entry
--   Encloses P E L      — the first half, for the limits E of the heights and L of the inverse, with what 02's Papers 2, 5 and 12 add
--   NoTolerance P       — all d are 0
--   sum_of_magnitudes P   — the sum of |A_ij| over all i and j
--   RoundedExact P N q H q' — the second half's hypotheses: no tolerance (02, Paper 5: "The second half of demand 3 now presumes that all d are 0"), exact N
--     and two-sided H, guess and inverse rounded to nearest steps, weights 1, that sum below 2T
use Rattle.std.specs.Prelude.{◌≡◌, ℕ, ◌*◌, ◌≤◌, ◌<◌, pos, nat_abs, ◌-ℤ◌, ◌*ℤ◌}
use Rattle.integer.specs.Finite.{sumℕ}
use Rattle.linear.specs.Matrix.{Vec, Mat}
use Rattle.exact_solution.specs.Determined.{ZeroKernel, Solves, SolvesOver, RightInverse, Inverse, Determined}
use Rattle.entry.specs.Entry.{entry_value, entry_bound}
use Rattle.enclosure.specs.Problem.{Problem, S, T}
use Rattle.enclosure.specs.Reckoning.{row_sum}

abbrev pub ExactSolution : Problem → Vec → ℕ → Type 0
ExactSolution P N q = Solves P.n P.A P.b N q

pub record RightSide (P : Problem) (β : Vec) (ρ : ℕ) : Type 0 where
  pub positive : 1 ≤ ρ
  pub near : (k : ℕ) → k < P.n → nat_abs (β k -ℤ pos ρ *ℤ P.b k) ≤ ρ * P.d k

abbrev pub ExactSolutionOf : Problem → Vec → ℕ → Vec → ℕ → Type 0
ExactSolutionOf P β ρ N q = SolvesOver P.n P.A β ρ N q

abbrev pub ExactInverse : Problem → Mat → ℕ → Type 0
ExactInverse P H q = RightInverse P.n P.A H q

abbrev pub TwoSided : Problem → Mat → ℕ → Type 0
TwoSided P H q = Inverse P.n P.A H q

abbrev pub InLimits : Problem → (ℕ → ℕ) → Vec → ℕ → Type 0
InLimits P E N q = (i : ℕ) → i < P.n → nat_abs (pos (S P) *ℤ N i -ℤ pos q *ℤ P.X i) ≤ q * E i

abbrev pub InEntryLimits : Problem → (ℕ → ℕ) → Vec → ℕ → Type 0
InEntryLimits P E N q = (i : ℕ) → i < P.n → nat_abs (N i -ℤ pos q *ℤ entry_value P.s (P.X i)) ≤ q * entry_bound P.s (P.X i) (E i)

pub record Encloses (P : Problem) (E : ℕ → ℕ) (L : ℕ → ℕ → ℕ) : Type 0 where
  -- 02, Paper 5: "An accepted limit then holds for the exact solution of every right side, in fractions, that differs from b by at most d in each place"
  pub solution : (β : Vec) (ρ : ℕ) → RightSide P β ρ → (N : Vec) (q : ℕ) → ExactSolutionOf P β ρ N q → InLimits P E N q
  -- of b itself (01: "whole numbers N and q, q at least 1, with A·N = q·b")
  pub solution_at_b : (N : Vec) (q : ℕ) → ExactSolution P N q → InLimits P E N q
  -- 02, Paper 2: "The exact height is to be shown within the entry limit of the entry, as it is of the guess"
  pub entry : (β : Vec) (ρ : ℕ) → RightSide P β ρ → (N : Vec) (q : ℕ) → ExactSolutionOf P β ρ N q → InEntryLimits P E N q
  pub entry_at_b : (N : Vec) (q : ℕ) → ExactSolution P N q → InEntryLimits P E N q
  pub inverse : (H : Mat) (q : ℕ) → ExactInverse P H q →
      (i j : ℕ) → i < P.n → j < P.n → nat_abs (pos (T P) *ℤ H i j -ℤ pos q *ℤ P.G i j) ≤ q * L i j
  pub kernel : ZeroKernel P.n P.A
  pub determined : Determined P.n P.A

abbrev pub NoTolerance : Problem → Type 0
NoTolerance P = (i : ℕ) → i < P.n → P.d i ≡ 0

unfoldable pub sum_of_magnitudes : Problem → ℕ
sum_of_magnitudes P = sumℕ P.n (row_sum P)

pub record RoundedExact (P : Problem) (N : Vec) (q : ℕ) (H : Mat) (q' : ℕ) : Type 0 where
  pub exact_right : NoTolerance P
  pub solution : ExactSolution P N q
  pub inverse : TwoSided P H q'
  pub near_solution : (i : ℕ) → i < P.n → 2 * nat_abs (pos (S P) *ℤ N i -ℤ pos q *ℤ P.X i) ≤ q
  pub near_inverse : (i j : ℕ) → i < P.n → j < P.n → 2 * nat_abs (pos (T P) *ℤ H i j -ℤ pos q' *ℤ P.G i j) ≤ q'
  pub weights : (i : ℕ) → i < P.n → P.w i ≡ 1
  pub small : sum_of_magnitudes P < 2 * T P
