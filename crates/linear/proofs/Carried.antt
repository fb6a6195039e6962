-- Places that are carried along are the places that row and column give.
--   matrix_place  — `matrix_of` reads the place of row i and column j
--   row_place     — along row i: start i·n, stride 1;  column_place — down column j: start j, stride n
--   start_place   — the start of row i, carried from row to row;  unit_place — with stride 1
--   carried       — the place of term j;  carried_first, carried_next — at the start, and one stride on, for loops
use mathlib.Core.Path.{◌≡◌, refl}
use mathlib.Core.List.{List}
use Prim.Native.Nat.{ℕ, ◌+◌, ◌*◌}
use native.Mathlib.Omega.{arith}
use lib.IntN.{ℤ}
use Rattle.linear.specs.Slice.{at, matrix_of}
use Rattle.linear.specs.Place.{place_of, Carried}

pub matrix_place : (xs : List ℤ) (n i j : ℕ) → matrix_of xs n i j ≡ at xs (place_of n i j)
matrix_place xs n i j = refl

pub row_place : (n i : ℕ) {j place : ℕ} → Carried (i * n) 1 j place → place ≡ place_of n i j
row_place n i h = omega arith

pub column_place : {n i j place : ℕ} → Carried j n i place → place ≡ place_of n i j
column_place h = omega arith

pub start_place : {stride i place : ℕ} → Carried 0 stride i place → place ≡ i * stride
start_place h = omega arith

pub unit_place : {start k place : ℕ} → Carried start 1 k place → place ≡ start + k
unit_place h = omega arith

pub carried : (start stride j : ℕ) → Carried start stride j (start + j * stride)
carried start stride j = record { is = refl }

pub carried_first : (start stride : ℕ) → Carried start stride 0 start
carried_first start stride = record { is = omega arith }

pub carried_next : {start stride j place : ℕ} → Carried start stride j place → Carried start stride (j + 1) (place + stride)
carried_next h = record { is = omega arith }
