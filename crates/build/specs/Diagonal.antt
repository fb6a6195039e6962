-- The diagonal of the matrix list that `build` wrote (document 02, Paper 3: "the diagonal summed, plus the weights of distinct lines at the fixed mark, is twice
-- the weight of all distinct keys").
--   diagonal_place layout n i — where row i and column i stand: at i·n + i of a square matrix, at the end of row i of a lower half
--   diagonal_of layout n a — the diagonal of the matrix list a, summed
--   TwiceTheWeight layout n ls a — 02's sentence, of the matrix list a
use Rattle.std.specs.Prelude.{◌≡◌, List, ℕ, ◌+◌, ◌*◌, ℤ, pos, ◌+ℤ◌, ◌*ℤ◌}
use Rattle.integer.specs.Finite.{sum}
use Rattle.linear.specs.Slice.{at}
use Rattle.half_fill.specs.Half.{lower_place}
use Rattle.build_lines.specs.declared.Observation.{Observation}
use Rattle.build_lines.specs.Heights.{fixed_weight, all_weight}
use Rattle.build_equations.specs.declared.Layout.{Layout}
use Rattle.build_equations.specs.declared.Layout.TheVariants.{Square, Lower}

abbrev pub diagonal_place : Layout → ℕ → ℕ → ℕ
diagonal_place Square n i = i * n + i
diagonal_place Lower n i = lower_place i i

abbrev pub diagonal_of : Layout → ℕ → List ℤ → ℤ
diagonal_of layout n a = sum n (λ (i : ℕ). at a (diagonal_place layout n i))

abbrev pub TwiceTheWeight : Layout → ℕ → List Observation → List ℤ → Type 0
TwiceTheWeight layout n ls a = diagonal_of layout n a +ℤ fixed_weight ls ≡ pos 2 *ℤ all_weight ls
