-- The loads of the rows of D from a list; cited by contracts inside.
--   load_from n defects weights m — the sum over j of |D_mj|·w_j, D row after row
use Rattle.std.specs.Prelude.{List, ℕ, ◌+◌, ◌*◌, ℤ, nat_abs}
use Rattle.integer.specs.Finite.{sumℕ}
use Rattle.linear.specs.Slice.{at}

abbrev pub load_from : ℕ → List ℤ → List ℤ → ℕ → ℕ
load_from n defects weights m = sumℕ n (λ (j : ℕ). nat_abs (at defects (m * n + j)) * nat_abs (at weights j))
