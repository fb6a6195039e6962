-- Where the numbers of a matrix stand after it is written.
--   rows_at, rows_else — row i and column j stand `j` places after the start of row i; past the last row every place is as before
--   square_start, square_at, square_else — in the square, row i starts at i · n
--   lower_start — in the lower half, row i starts at half of i · (i + 1)
use mathlib.Core.Path.{◌≡◌, refl, subst, ◌∙◌}
use mathlib.Core.List.{List}
use Prim.Native.Nat.{ℕ, zero, suc, ◌+◌, ◌*◌, ◌≤◌, ◌<◌}
use native.Mathlib.Omega.{arith}
use lib.IntN.{ℤ, pos}
use lib.ListN.{length}
use Rattle.integer.specs.Finite.{sumℕ}
use Rattle.integer.proofs.Search.{upto}
use Rattle.linear.specs.Matrix.{Mat}
use Rattle.linear.specs.Slice.{at}
use Rattle.linear.proofs.Written.{written_at, written_else}
use Rattle.build_equations.specs.declared.Layout.TheVariants.{Square, Lower}
use Rattle.build_equations.specs.Written.{width_of, rows_written, matrix_written}
use Rattle.build_equations.proofs.Places.{start_below, rows_length}

module _ (width : ℕ → ℕ) (A : Mat) (l : List ℤ) where
  pub rows_at : (k : ℕ) → sumℕ k width ≤ length l → (i : ℕ) → i < k → (j : ℕ) → j < width i → at (rows_written width k A l) (sumℕ i width + j) ≡ A i j
  unfolding rows_written sumℕ
  rows_at zero h i b = absurd (omega arith)
  rows_at (suc k) h i b =
      upto (λ (m : ℕ). (j : ℕ) → j < width m → at (rows_written width (suc k) A l) (sumℕ m width + j) ≡ A m j) k i b
      (λ m c j d.
      written_else (rows_written width k A l) (sumℕ k width) 1 (A k) (pos 0) (width k) (sumℕ m width + j) (λ p e q. omega (arith, q, start_below width k m c, d))
      ∙ rows_at k (omega arith) m c j d)
      (λ j d. written_at (rows_written width k A l) (sumℕ k width) 1 (A k) (pos 0) (width k) j (omega arith) (omega arith) d (λ p e. omega (arith, h, rows_length width A l k)))

  pub rows_else : (k p : ℕ) → sumℕ k width ≤ p → at (rows_written width k A l) p ≡ at l p
  unfolding rows_written sumℕ
  rows_else zero p h = refl
  rows_else (suc k) p h = written_else (rows_written width k A l) (sumℕ k width) 1 (A k) (pos 0) (width k) p (λ j b q. omega (arith, q, h)) ∙ rows_else k p (omega arith)

-- ---- the square
pub square_start : (n i : ℕ) → sumℕ i (width_of Square n) ≡ i * n
unfolding sumℕ
square_start n zero = omega arith
square_start n (suc i) = omega (arith, square_start n i)

module _ (n : ℕ) (A : Mat) (l : List ℤ) where
  pub square_at : n * n ≤ length l → (i j : ℕ) → i < n → j < n → at (matrix_written Square n A l) (i * n + j) ≡ A i j
  square_at h i j p q =
      subst (λ (s : ℕ). at (matrix_written Square n A l) (s + j) ≡ A i j) (square_start n i)
      (rows_at (width_of Square n) A l n (omega (arith, square_start n n, h)) i p j q)

  pub square_else : (p : ℕ) → n * n ≤ p → at (matrix_written Square n A l) p ≡ at l p
  square_else p h = rows_else (width_of Square n) A l n p (omega (arith, square_start n n, h))

-- ---- the lower half
pub lower_start : (n i : ℕ) → 2 * sumℕ i (width_of Lower n) ≡ i * (i + 1)
unfolding sumℕ
lower_start n zero = omega arith
lower_start n (suc i) = omega (arith, lower_start n i)
