-- What is handed to the check of two nets (document 02, Paper 8: "With E1 the limits this call finds for the main net, a hung net has equations
-- A2·u2 = b2 − C·u1, with C in the matrix range, one row for each hung mark and one column for each main mark, row after row without gaps, and both nets at
-- the same s"). The main net is net 1 and the dependent one net 2.
--   Nets     — what a check on lists is handed, of each net, and C
--   DependentNet — what the check of the dependent net works on: of the main net its n, its s, its guess X1 and limits E1; C; and what it is handed of its own
--   coupling_of D — C as a matrix, which has as many columns as the main net has marks
--   dependent_by — from its parts;  dependent_of J — with the limits that the reckoning gives the main net
use Rattle.std.specs.Prelude.{List, ℕ, ℤ}
use Rattle.linear.specs.Matrix.{Vec, Mat}
use Rattle.linear.specs.Slice.{vector_of, matrix_of}
use Rattle.enclosure.specs.Reckoning.{bound}
use Rattle.check_spec.specs.Input.{Input, problem}

pub record Nets : Type 0 where
  pub main : Input
  pub dependent : Input
  pub coupling : List ℤ

abbrev pub nets : Input → Input → List ℤ → Nets
nets main dependent coupling = record { main = main; dependent = dependent; coupling = coupling }

pub record DependentNet : Type 0 where
  pub n₁ : ℕ
  pub s₁ : ℕ
  pub X₁ : Vec
  pub E₁ : ℕ → ℕ
  pub coupling : List ℤ
  pub own : Input

abbrev pub coupling_of : DependentNet → Mat
coupling_of D = matrix_of D.coupling D.n₁

abbrev pub dependent_by : ℕ → ℕ → Vec → (ℕ → ℕ) → List ℤ → Input → DependentNet
dependent_by n₁ s₁ X₁ E₁ coupling own = record { n₁ = n₁; s₁ = s₁; X₁ = X₁; E₁ = E₁; coupling = coupling; own = own }

abbrev pub dependent_of : Nets → DependentNet
dependent_of J = dependent_by J.main.n J.main.s (vector_of J.main.guess) (bound (problem J.main)) J.coupling J.dependent
