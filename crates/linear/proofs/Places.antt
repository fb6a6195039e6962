-- Places in slices: where the numbers of a row, of a column and of a list stand, and that a dot product of them is the product's number.
--   place, square — the place of row i and column j is below the count of rows times n; n · n is at most 1,024 where n is at most 32
--   row_room, row_ends, row_fits — a row of n numbers ends inside a list of n · n numbers, by place 1,024 where n is at most 32, and its start fits a u64
--   place_column, place_row — column after column: place j·n + k stands for column j and row k
--   row_reach, column_reach, list_reach — a row and a column of a list of numbers row after row, and a list of n numbers, as `dot` asks for them;  square_list — a matrix list as such a list
--   dot_row       — row k of A times a list is (A·v) k
--   dot_term, dot_fits, dot_magnitude — a term is at most 2 ^ 56 in absolute value, a partial sum with its next term fits an i64, the magnitude of a whole sum
use mathlib.Core.Path.{◌≡◌, ◌∙◌}
use mathlib.Core.List.{List}
use Prim.Native.Nat.{ℕ, ◌+◌, ◌*◌, ◌/◌, ◌%◌, ◌<◌, ◌≤◌, ◌^◌}
use native.Mathlib.Omega.{arith}
use native.Mathlib.Nat.{mul-le-mul, le_refl, div-eq_of_lt-le, mul-add-mod_self_right, mod-eq_of_lt}
use lib.IntN.{ℤ, nat_abs, ◌*ℤ◌}
use Rattle.integer.proofs.Absolute.{abs-*}
use Rattle.integer.proofs.Sum.{sum_ext, abs_sum≤}
use Rattle.linear.specs.Matrix.{apply}
use Rattle.linear.specs.Slice.{at, vector_of, matrix_of}
use Rattle.linear.specs.Place.{place_of}
use Rattle.linear.specs.Reach.{dot_of, Reach, ColumnList, MatrixList}
use Rattle.linear.proofs.Carried.{row_place, column_place, carried}

pub place : {i j m n : ℕ} → i < m → j < n → i * n + j < m * n
place {i} {j} {m} {n} p q = omega (arith, mul-le-mul p (le_refl n))

pub square : {n : ℕ} → n ≤ 32 → n * n ≤ 1024
square p = mul-le-mul p p

pub row_room : {i n size : ℕ} → i < n → n * n ≤ size → i * n + n ≤ size
row_room {i} {n} l h = omega (arith, mul-le-mul l (le_refl n))

pub row_ends : {i n : ℕ} → i < n → n ≤ 32 → i * n + n ≤ 1024
row_ends l n_max = row_room l (square n_max)

pub row_fits : {i n : ℕ} → i < n → n ≤ 32 → i * n < 2 ^ 64
row_fits l n_max = omega (arith, row_ends l n_max)

pub place_column : (j k n : ℕ) → k < n → (j * n + k) / n ≡ j
place_column j k n l = div-eq_of_lt-le n (omega arith) (omega arith)

pub place_row : (j k n : ℕ) → k < n → (j * n + k) % n ≡ k
place_row j k n l = mul-add-mod_self_right j n k ∙ mod-eq_of_lt l

-- ---- rows, columns, lists
pub row_reach : {xs : List ℤ} {m n b : ℕ} → ColumnList xs (m * n) b → (i : ℕ) → i < m → Reach xs (i * n) 1 n b
row_reach {xs} {m} {n} q i l = record {
  inside = λ j h. let p : i * n + j < m * n = place l h in omega (arith, q.long);
  magnitudes = λ j h. rw (row_place n i (carried (i * n) 1 j)) (q.within.magnitudes (place_of n i j) (place l h));
}

pub column_reach : {xs : List ℤ} {n b : ℕ} → ColumnList xs (n * n) b → (j : ℕ) → j < n → Reach xs j n n b
column_reach {xs} {n} q j l = record {
  inside = λ i h. let p : i * n + j < n * n = place h l in omega (arith, q.long);
  magnitudes = λ i h. rw (column_place (carried j n i)) (q.within.magnitudes (place_of n i j) (place h l));
}

pub square_list : {xs : List ℤ} {n : ℕ} → MatrixList xs n → ColumnList xs (n * n) (2 ^ 20)
square_list q = record { long = q.long; within = q.within }

pub list_reach : {xs : List ℤ} {n b : ℕ} → ColumnList xs n b → Reach xs 0 1 n b
list_reach q = record {
  inside = λ j h. omega (arith, q.long);
  magnitudes = λ j h. let e : 0 + j * 1 ≡ j = omega arith in rw e (q.within.magnitudes j h);
}

-- ---- the dot products of the reckoning
module _ (n : ℕ) where
  pub dot_row : (a x : List ℤ) (k : ℕ) → dot_of a (k * n) 1 x 0 1 n ≡ apply n (matrix_of a n) (vector_of x) k
  unfolding apply
  dot_row a x k =
      sum_ext n (λ (j : ℕ). at a (k * n + j * 1) *ℤ at x (0 + j * 1)) (λ (j : ℕ). at a (k * n + j) *ℤ at x j)
      (λ j l. let f : 0 + j * 1 ≡ j = omega arith in rw (row_place n k (carried (k * n) 1 j), f))

-- ---- magnitudes
module _ (a : List ℤ) (p s : ℕ) (x : List ℤ) (q u n : ℕ) (ha : Reach a p s n (2 ^ 20)) (hx : Reach x q u n (2 ^ 36)) where
  dot_term : (j : ℕ) → j < n → nat_abs (at a (p + j * s) *ℤ at x (q + j * u)) ≤ 2 ^ 56
  dot_term j l = rw (abs-* (at a (p + j * s)) (at x (q + j * u))) (mul-le-mul (ha.magnitudes j l) (hx.magnitudes j l))

  pub dot_fits : (j : ℕ) → n ≤ 32 → j < n → nat_abs (dot_of a p s x q u j) + nat_abs (at a (p + j * s)) * nat_abs (at x (q + j * u)) < 2 ^ 63
  dot_fits j n_max l =
      omega (
        arith,
        abs_sum≤ j (2 ^ 56) (λ (k : ℕ). at a (p + k * s) *ℤ at x (q + k * u)) (λ k m. dot_term k (omega arith)),
        mul-le-mul (ha.magnitudes j l) (hx.magnitudes j l),
      )

-- the magnitude of a dot product whose numbers have smaller bounds
pub dot_magnitude : (a : List ℤ) (p s : ℕ) (x : List ℤ) (q u n A X : ℕ) → Reach a p s n A → Reach x q u n X → nat_abs (dot_of a p s x q u n) ≤ n * (A * X)
dot_magnitude a p s x q u n A X ha hx =
    abs_sum≤ n (A * X) (λ (j : ℕ). at a (p + j * s) *ℤ at x (q + j * u))
    (λ j l. rw (abs-* (at a (p + j * s)) (at x (q + j * u))) (mul-le-mul (ha.magnitudes j l) (hx.magnitudes j l)))
