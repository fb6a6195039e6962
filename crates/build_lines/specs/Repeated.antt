-- 02, Paper 3: "in a list that builds, repeating any line anywhere changes nothing while the list stays at most 256 long".
--   SameBuilt n ls ms short — the lines ms build, and give the matrix and the right side of the lines ls; short: a lent list is too short
use Rattle.std.specs.Prelude.{Bool, List, [], ◌≡◌, ℕ}
use Rattle.build_lines.specs.declared.Observation.{Observation}
use Rattle.build_lines.specs.Distinct.{built_matrix, built_right}
use Rattle.build_lines.specs.Order.{build_answer}

pub record SameBuilt (n : ℕ) (ls ms : List Observation) (short : Bool) : Type 0 where
  pub builds : build_answer n ms short ≡ []
  pub matrix : (i j : ℕ) → built_matrix ms i j ≡ built_matrix ls i j
  pub right : (i : ℕ) → built_right ms i ≡ built_right ls i
