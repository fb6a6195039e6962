-- Laws of the search for a place where a matrix is not symmetric.
--   rows_symmetric — what holds of the numbers before the diagonal of every row makes the matrix symmetric
use mathlib.Core.Path.{◌≡◌, refl, sym}
use mathlib.Core.List.{List}
use Prim.Native.Nat.{ℕ, ◌+◌, ◌*◌, ◌<◌}
use native.Mathlib.Omega.{arith}
use native.Mathlib.Decide.{dec_lt}
use lib.IntN.{ℤ}
use Rattle.linear.specs.Slice.{at}
use Rattle.check_symmetry.specs.Symmetric.{Symmetric}

pub rows_symmetric : (xs : List ℤ) (n : ℕ) → ((i : ℕ) → i < n → (j : ℕ) → j < i → at xs (i * n + j) ≡ at xs (j * n + i)) → Symmetric xs n
rows_symmetric xs n h = record { each = λ i j li lj. go i j li lj (dec_lt i j) (dec_lt j i) }
  where
    go : (i j : ℕ) → i < n → j < n → Dec (i < j) → Dec (j < i) → at xs (i * n + j) ≡ at xs (j * n + i)
    go i j li lj (yes p) q = sym (h j lj i p)
    go i j li lj (no p) (yes q) = h i li j q
    go i j li lj (no p) (no q) = let e : i ≡ j = omega arith in rw e refl
