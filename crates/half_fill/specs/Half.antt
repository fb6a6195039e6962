-- A symmetric matrix by its lower half (document 02, Paper 10): rows of 1, 2, .. n numbers, one after the other. Rows, columns and places count from 0 here.
--   lower_place i j — the place in the half of row i and column j, for j up to i: i·(i + 1)/2 + j
--   half_place i j  — the same for any row and column: that of the larger as row and the smaller as column
--   half_count n    — how many numbers of the half are used: n·(n + 1)/2
--   short_half k    — 8: a half of k numbers is too short
--   filled_rows n half i — the first i rows of the filled-out matrix, row after row, so that place k has row k / n and column k mod n; 0 past them, in all 1,024
--   filled_out n half — the filled-out matrix: its n rows; where n is out of range, all are 0
use Rattle.std.specs.Prelude.{Bool, cond, List, ℕ, ◌+◌, ◌*◌, ◌/◌, ◌%◌, max, min, ltb, ℤ, pos, replicate}
use Rattle.linear.specs.Slice.{at}
use Rattle.linear.specs.Written.{written}
use Rattle.rules.specs.Range.{in_range}
use Rattle.rules.specs.declared.Kind.TheVariants as kind

-- 02: "row i and column j (j up to i) at place i(i − 1)/2 + j from 1"
abbrev pub lower_place : ℕ → ℕ → ℕ
lower_place i j = i * (i + 1) / 2 + j

unfoldable pub half_place : ℕ → ℕ → ℕ
half_place i j = lower_place (max i j) (min i j)

-- 02: "as rows of 1, 2, .. n numbers"
abbrev pub half_count : ℕ → ℕ
half_count n = n * (n + 1) / 2

-- 02: "in a list of at least 528", "8 for a list under 528"
abbrev pub short_half : ℕ → Bool
short_half k = ltb k 528

abbrev pub filled_rows : ℕ → List ℤ → ℕ → List ℤ
filled_rows n half i = written (replicate 1024 (pos 0)) 0 1 (λ (k : ℕ). at half (half_place (k / n) (k % n))) (i * n)

unfoldable pub filled_out : ℕ → List ℤ → List ℤ
filled_out n half = cond (in_range kind.Size (pos n)) (filled_rows n half n) (replicate 1024 (pos 0))
