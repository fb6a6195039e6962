-- That there is one height and that it lies within its limits (02, Paper 12: "The height exists").
--   HeightOf P E exact — there are heights N_i / q that are exact, they are the only ones, and each lies within its limit of the guess and within its entry
--     limit of the entry
--   OneHeight P E      — for the clerk: there are such heights for every right side within tolerance; and for b itself
use Rattle.std.specs.Prelude.{ℕ}
use Rattle.linear.specs.Matrix.{Vec}
use Rattle.exact_solution.specs.Determined.{Same}
use Rattle.enclosure.specs.Problem.{Problem}
use Rattle.enclosure.specs.Demand.{ExactSolution, RightSide, ExactSolutionOf, InLimits, InEntryLimits}

pub record HeightOf (P : Problem) (E : ℕ → ℕ) (exact : Vec → ℕ → Type 0) : Type 0 where
  pub N : Vec
  pub q : ℕ
  pub holds : exact N q
  pub only : (N' : Vec) (q' : ℕ) → exact N' q' → Same P.n N q N' q'
  pub within : InLimits P E N q
  pub entered : InEntryLimits P E N q

pub record OneHeight (P : Problem) (E : ℕ → ℕ) : Type 0 where
  pub each : (β : Vec) (ρ : ℕ) → RightSide P β ρ → HeightOf P E (ExactSolutionOf P β ρ)
  pub at_b : HeightOf P E (ExactSolution P)
