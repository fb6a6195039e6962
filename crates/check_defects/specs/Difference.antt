-- T·I less a product of a matrix in a list and one in biased rows; cited by contracts inside.
--   combination xs start stride rows n j — the sum over k below n of number k from a start on, some places apart, times number j of the k-th of the rows
--   number_less t xs start stride rows n m j — number m, j of 2^t·I less it
--   difference n t xs step stride rows j m — number m, j of 2^t·I less the product of the matrix whose row m starts m steps on, its numbers a stride apart,
--     and of the matrix that the rows stand for
use Rattle.std.specs.Prelude.{List, ℕ, ◌+◌, ◌*◌, ◌^◌, ℤ, pos, ◌-ℤ◌, ◌*ℤ◌}
use Rattle.integer.specs.Finite.{sum}
use Rattle.linear.specs.Matrix.{identity}
use Rattle.linear.specs.Slice.{at}
use Rattle.check_biased_rows.specs.Biased.{unbiased_rows}

abbrev pub combination : List ℤ → ℕ → ℕ → List ℕ → ℕ → ℕ → ℤ
combination xs start stride rows n j = sum n (λ (k : ℕ). at xs (start + k * stride) *ℤ unbiased_rows rows n k j)

abbrev pub number_less : ℕ → List ℤ → ℕ → ℕ → List ℕ → ℕ → ℕ → ℕ → ℤ
number_less t xs start stride rows n m j = pos (2 ^ t) *ℤ identity m j -ℤ combination xs start stride rows n j

abbrev pub difference : ℕ → ℕ → List ℤ → ℕ → ℕ → List ℕ → ℕ → ℕ → ℤ
difference n t xs step stride rows j m = number_less t xs (m * step) stride rows n m j
