-- Products of symmetric matrices.
--   SymmetricMatrix A n — number i, j is number j, i, for all below n
--   product_symmetric — number k, j of A·G is number j, k of G·A
--   difference_symmetric — number k, j of T·I − A·G is number j, k of T·I − G·A
--   columns_identity — G·I = G
--   triple_symmetric — G·(A·G) is symmetric;  residual_symmetric — G·(T·I − A·G) is symmetric
--   matrix_symmetric — a symmetric matrix in a list
use mathlib.Core.Path.{◌≡◌, sym, ap, ap₂, ◌∙◌}
use mathlib.Core.List.{List}
use Prim.Native.Nat.{ℕ, ◌<◌}
use lib.IntN.{ℤ, ◌-ℤ◌, ◌*ℤ◌, *ℤ_comm}
use Rattle.integer.proofs.Sum.{sum_ext}
use Rattle.linear.specs.Matrix.{Mat, column, apply, product, identity}
use Rattle.linear.specs.Slice.{matrix_of}
use Rattle.linear.proofs.Product.{identity_turned, sum_identity, product_assoc, apply_sub, apply_scale}
use Rattle.check_symmetry.specs.Symmetric.{Symmetric}

pub record SymmetricMatrix (A : Mat) (n : ℕ) : Type 0 where
  pub each : (i j : ℕ) → i < n → j < n → A i j ≡ A j i

pub matrix_symmetric : {xs : List ℤ} {n : ℕ} → Symmetric xs n → SymmetricMatrix (matrix_of xs n) n
matrix_symmetric s = record { each = s.each }

columns_identity : (n : ℕ) (G : Mat) (m j : ℕ) → j < n → apply n G (column identity j) m ≡ G m j
unfolding apply
columns_identity n G m j lj =
    sum_ext n (λ (k : ℕ). G m k *ℤ identity k j) (λ (k : ℕ). identity j k *ℤ G m k) (λ k l. rw (identity_turned k j) (*ℤ_comm (G m k) (identity j k)))
    ∙ sum_identity n j (G m) lj

module _ {n : ℕ} {A G : Mat} (a : SymmetricMatrix A n) (g : SymmetricMatrix G n) where
  product_symmetric : (k j : ℕ) → k < n → j < n → product n A G k j ≡ product n G A j k
  unfolding product apply
  product_symmetric k j lk lj =
      sum_ext n (λ (l : ℕ). A k l *ℤ G l j) (λ (l : ℕ). G j l *ℤ A l k)
      (λ l ll. rw (a.each k l lk ll, g.each l j ll lj) (*ℤ_comm (A l k) (G j l)))

  pub difference_symmetric : (T : ℤ) (k j : ℕ) → k < n → j < n → T *ℤ identity k j -ℤ product n A G k j ≡ T *ℤ identity j k -ℤ product n G A j k
  difference_symmetric T k j lk lj = ap₂ (λ (x y : ℤ). T *ℤ x -ℤ y) (identity_turned k j) (product_symmetric k j lk lj)

  triple_across : (m j : ℕ) → m < n → j < n → product n G (product n A G) m j ≡ product n (product n G A) G j m
  unfolding product apply
  triple_across m j lm lj =
      sum_ext n (λ (k : ℕ). G m k *ℤ product n A G k j) (λ (k : ℕ). product n G A j k *ℤ G k m)
      (λ k lk. rw (product_symmetric k j lk lj, g.each m k lm lk) (*ℤ_comm (G k m) (product n G A j k)))

  triple_symmetric : (m j : ℕ) → m < n → j < n → apply n G (column (product n A G) j) m ≡ apply n G (column (product n A G) m) j
  unfolding product
  triple_symmetric m j lm lj = triple_across m j lm lj ∙ product_assoc n G A G j m

  pub residual_symmetric : (T : ℤ) (m j : ℕ) → m < n → j < n →
      apply n G (λ (k : ℕ). T *ℤ identity k j -ℤ product n A G k j) m ≡ apply n G (λ (k : ℕ). T *ℤ identity k m -ℤ product n A G k m) j
  residual_symmetric T m j lm lj = parts m j lj ∙ ap₂ (λ (x y : ℤ). T *ℤ x -ℤ y) (g.each m j lm lj) (triple_symmetric m j lm lj) ∙ sym (parts j m lm)
    where
      parts : (m j : ℕ) → j < n → apply n G (λ (k : ℕ). T *ℤ identity k j -ℤ product n A G k j) m ≡ T *ℤ G m j -ℤ apply n G (column (product n A G) j) m
      parts m j lj =
          apply_sub n G (λ (k : ℕ). T *ℤ identity k j) (column (product n A G) j) m
          ∙ ap (λ (x : ℤ). x -ℤ apply n G (column (product n A G) j) m) (apply_scale n G T (column identity j) m ∙ ap (λ (x : ℤ). T *ℤ x) (columns_identity n G m j lj))
