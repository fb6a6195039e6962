-- 02, Paper 12. The height exists.
use Rattle.std.specs.Prelude.{ℕ}
use Rattle.linear.specs.Matrix.{Vec, Mat}
use Rattle.exact_solution.specs.Determined.{Solves, Inverse, Same}
use Rattle.enclosure.specs.Height.{OneHeight}
use Rattle.enclosure.specs.Problem.{Problem}
use Rattle.promises.specs.Ways.{Accepted}

-- "Show that for every accepted problem, and every whole-number right side, an exact solution in fractions exists"
abbrev pub SolutionExists : Type 0
SolutionExists = (P : Problem) (E : ℕ → ℕ) (L : ℕ → ℕ → ℕ) → Accepted P E L → (β : Vec) → (N : Vec) × (q : ℕ) × Solves P.n P.A β N q

-- "that any two are the same fractions"
abbrev pub SolutionUnique : Type 0
SolutionUnique =
    (P : Problem) (E : ℕ → ℕ) (L : ℕ → ℕ → ℕ) → Accepted P E L → (β N N' : Vec) (q q' : ℕ) → Solves P.n P.A β N q → Solves P.n P.A β N' q' → Same P.n N q N' q'

-- "and that the matrix has an inverse on both sides"
abbrev pub InverseExists : Type 0
InverseExists = (P : Problem) (E : ℕ → ℕ) (L : ℕ → ℕ → ℕ) → Accepted P E L → (H : Mat) × (q : ℕ) × Inverse P.n P.A H q

-- "Readers take a limit to mean that there is a height to be limited": for each right side within the tolerances there is one height, and it lies within its limits
abbrev pub OneHeightWithin : Type 0
OneHeightWithin = (P : Problem) (E : ℕ → ℕ) (L : ℕ → ℕ → ℕ) → Accepted P E L → OneHeight P E
