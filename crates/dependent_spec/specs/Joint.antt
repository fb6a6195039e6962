-- What acceptance of both nets shows (02, Paper 8: "Acceptance of both must show that every exact solution of the two nets together lies within both lists of
-- limits, tolerances included"). q, N₁, N₂, ρ and β are whole numbers of any size.
--   C₂₁ J — C as a matrix, n2 rows of n1 numbers;  main_problem J, dependent_problem J — the numbers and lists of each net as a problem
--   JointSolution J β₁ ρ₁ β₂ ρ₂ N₁ N₂ q — the fractions N₁ / q and N₂ / q solve both nets with the right sides β₁ / ρ₁ and β₂ / ρ₂: q ≥ 1,
--     ρ₁·(A1·N₁) = q·β₁ and ρ₂·(A2·N₂ + C·N₁) = q·β₂
--   JointHeights — there is a joint solution
--   JointKernel J — A1·N₁ = 0 and A2·N₂ + C·N₁ = 0 give N₁ = 0 and N₂ = 0 (`Zero`)
--   SameHeights — of both nets the same fractions;  WithinBoth — N₁ / q within E₁ of X1 and N₂ / q within E₂ of X2, and both within the entry limits of
--     their entries
--   EnclosesBoth J E₁ L₁ E₂ L₂ — the main net's limits enclose, as after its own check; every joint solution of right sides within both tolerances lies
--     within E₁ of X1 and within E₂ of X2, and within the entry limits; every exact inverse of A2 lies within L₂; the kernels of A2 and of both nets together
--     are zero; and (Paper 12) every two right sides in whole numbers, and in fractions, have a joint solution, any two of them are the same fractions, and A2 has an
--     inverse on both sides (`determined`)
use Rattle.std.specs.Prelude.{◌≡◌, ℕ, ◌*◌, ◌≤◌, ◌<◌, pos, nat_abs, ◌+ℤ◌, ◌-ℤ◌, ◌*ℤ◌}
use Rattle.linear.specs.Matrix.{Vec, Mat, apply}
use Rattle.linear.specs.Slice.{matrix_of}
use Rattle.exact_solution.specs.Determined.{ZeroKernel, Same, Determined}
use Rattle.enclosure.specs.Demand.{RightSide, ExactInverse, InLimits, InEntryLimits, Encloses}
use Rattle.enclosure.specs.Problem.{Problem, T}
use Rattle.check_spec.specs.Input.{problem}
use Rattle.dependent_spec.specs.Nets.{Nets}

abbrev pub C₂₁ : Nets → Mat
C₂₁ J = matrix_of J.coupling J.main.n

abbrev pub main_problem : Nets → Problem
main_problem J = problem J.main

abbrev pub dependent_problem : Nets → Problem
dependent_problem J = problem J.dependent

pub record JointSolution (J : Nets) (β₁ : Vec) (ρ₁ : ℕ) (β₂ : Vec) (ρ₂ : ℕ) (N₁ N₂ : Vec) (q : ℕ) : Type 0 where
  pub positive : 1 ≤ q
  pub main : (k : ℕ) → k < J.main.n → pos ρ₁ *ℤ apply J.main.n (main_problem J).A N₁ k ≡ pos q *ℤ β₁ k
  pub dependent : (k : ℕ) → k < J.dependent.n →
      pos ρ₂ *ℤ (apply J.dependent.n (dependent_problem J).A N₂ k +ℤ apply J.main.n (C₂₁ J) N₁ k) ≡ pos q *ℤ β₂ k

pub record JointHeights (J : Nets) (β₁ : Vec) (ρ₁ : ℕ) (β₂ : Vec) (ρ₂ : ℕ) : Type 0 where
  pub N₁ : Vec
  pub N₂ : Vec
  pub q : ℕ
  pub holds : JointSolution J β₁ ρ₁ β₂ ρ₂ N₁ N₂ q

pub record Zero (J : Nets) (N₁ N₂ : Vec) : Type 0 where
  pub main : (i : ℕ) → i < J.main.n → N₁ i ≡ pos 0
  pub dependent : (i : ℕ) → i < J.dependent.n → N₂ i ≡ pos 0

abbrev pub JointKernel : Nets → Type 0
JointKernel J =
    (N₁ N₂ : Vec) → ((k : ℕ) → k < J.main.n → apply J.main.n (main_problem J).A N₁ k ≡ pos 0) →
    ((k : ℕ) → k < J.dependent.n → apply J.dependent.n (dependent_problem J).A N₂ k +ℤ apply J.main.n (C₂₁ J) N₁ k ≡ pos 0) →
    Zero J N₁ N₂

pub record SameHeights (J : Nets) (N₁ N₂ : Vec) (q : ℕ) (N₁' N₂' : Vec) (q' : ℕ) : Type 0 where
  pub main : Same J.main.n N₁ q N₁' q'
  pub dependent : Same J.dependent.n N₂ q N₂' q'

pub record WithinBoth (J : Nets) (E₁ E₂ : ℕ → ℕ) (N₁ N₂ : Vec) (q : ℕ) : Type 0 where
  pub main : InLimits (main_problem J) E₁ N₁ q
  pub dependent : InLimits (dependent_problem J) E₂ N₂ q
  -- 02, Paper 2: "The exact height is to be shown within the entry limit of the entry, as it is of the guess"
  pub main_entry : InEntryLimits (main_problem J) E₁ N₁ q
  pub dependent_entry : InEntryLimits (dependent_problem J) E₂ N₂ q

pub record EnclosesBoth (J : Nets) (E₁ : ℕ → ℕ) (L₁ : ℕ → ℕ → ℕ) (E₂ : ℕ → ℕ) (L₂ : ℕ → ℕ → ℕ) : Type 0 where
  pub main : Encloses (main_problem J) E₁ L₁
  pub joint : (β₁ : Vec) (ρ₁ : ℕ) (β₂ : Vec) (ρ₂ : ℕ) → RightSide (main_problem J) β₁ ρ₁ → RightSide (dependent_problem J) β₂ ρ₂ →
      (N₁ N₂ : Vec) (q : ℕ) → JointSolution J β₁ ρ₁ β₂ ρ₂ N₁ N₂ q → WithinBoth J E₁ E₂ N₁ N₂ q
  pub inverse : (H : Mat) (q : ℕ) → ExactInverse (dependent_problem J) H q → (i j : ℕ) → i < J.dependent.n → j < J.dependent.n →
      nat_abs (pos (T (dependent_problem J)) *ℤ H i j -ℤ pos q *ℤ (dependent_problem J).G i j) ≤ q * L₂ i j
  pub kernel : ZeroKernel J.dependent.n (dependent_problem J).A
  pub joint_kernel : JointKernel J
  pub determined : Determined J.dependent.n (dependent_problem J).A
  pub exists : (β₁ : Vec) (ρ₁ : ℕ) (β₂ : Vec) (ρ₂ : ℕ) → 1 ≤ ρ₁ → 1 ≤ ρ₂ → JointHeights J β₁ ρ₁ β₂ ρ₂
  pub unique : (β₁ : Vec) (ρ₁ : ℕ) (β₂ : Vec) (ρ₂ : ℕ) → 1 ≤ ρ₁ → 1 ≤ ρ₂ → (N₁ N₂ : Vec) (q : ℕ) (N₁' N₂' : Vec) (q' : ℕ) →
      JointSolution J β₁ ρ₁ β₂ ρ₂ N₁ N₂ q → JointSolution J β₁ ρ₁ β₂ ρ₂ N₁' N₂' q' → SameHeights J N₁ N₂ q N₁' N₂' q'
