-- How good the limits of two nets are, the second dependent on the first (document 02, Paper 8). Of the dependent net's limits it is said of A2·u = β for the right
-- sides β within its slack, |C|·E1 plus the tolerance slack, and not of joint solutions: docs/DECISIONS.md has two nets where every joint error is at most E1 and the
-- limits are 3·E1 (specs/Example).
--   dependent_in_steps D — the dependent net as a problem by itself whose heights and right sides are in solution steps: S·b2 − C·X1 for the right side, its slack for the
--     tolerance, the step 1; A2, X2, G2 and the weights as they are. Its residual and slack, and so its limits, are those of Paper 8
--   GoodBoth J E₁ L₁ E₂ L₂ — the limits of the main net are good, and those of the dependent net as such a problem;  GoodNets — of the four lists that a call leaves
use Rattle.std.specs.Prelude.{List, ℕ, ◌+◌, ◌*◌, pos, ◌-ℤ◌, ◌*ℤ◌, get_or}
use Rattle.linear.specs.Matrix.{apply}
use Rattle.enclosure.specs.Problem.{Problem, S}
use Rattle.dependent_spec.specs.Nets.{Nets, DependentNet, coupling_of, dependent_of}
use Rattle.dependent_spec.specs.Reckoning.{own_problem, dependent_slack}
use Rattle.dependent_spec.specs.Joint.{main_problem}
use Rattle.good_limits.specs.Good.{Good}

abbrev pub dependent_in_steps : DependentNet → Problem
dependent_in_steps D = record {
  n = (own_problem D).n;
  s = 0;
  t = (own_problem D).t;
  A = (own_problem D).A;
  b = λ (k : ℕ). pos (S (own_problem D)) *ℤ (own_problem D).b k -ℤ apply D.n₁ (coupling_of D) D.X₁ k;
  d = dependent_slack D;
  X = (own_problem D).X;
  G = (own_problem D).G;
  w = (own_problem D).w;
}

pub record GoodBoth (J : Nets) (E₁ : ℕ → ℕ) (L₁ : ℕ → ℕ → ℕ) (E₂ : ℕ → ℕ) (L₂ : ℕ → ℕ → ℕ) : Type 0 where
  pub main : Good (main_problem J) E₁ L₁
  pub dependent : Good (dependent_in_steps (dependent_of J)) E₂ L₂

abbrev pub GoodNets : Nets → List ℕ → List ℕ → List ℕ → List ℕ → Type 0
GoodNets J E₁ L₁ E₂ L₂ =
    GoodBoth J (λ (i : ℕ). get_or E₁ i 0) (λ (i j : ℕ). get_or L₁ (i * J.main.n + j) 0) (λ (i : ℕ). get_or E₂ i 0) (λ (i j : ℕ). get_or L₂ (i * J.dependent.n + j) 0)
