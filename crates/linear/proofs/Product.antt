-- Laws of products of matrices and vectors.
--   identity_same, identity_other — the numbers of I;  identity_turned — I is symmetric
--   apply_identity — I·v = v;  apply_product, product_assoc — (G·A)·v = G·(A·v), (G·A)·H = G·(A·H)
--   apply_vectors, apply_sub, apply_matrices, apply_less, apply_scale — products with k·u − l·v, u − v, k·A − l·B, k·A − B, q·v
--   apply_ext — only the first n numbers count;  abs_apply — |A·v| ≤ |A|·|v|
use mathlib.Core.Path.{◌≡◌, refl, sym, ◌∙◌}
use mathlib.Core.Bool.{Bool, true, false, cond}
use Prim.Native.Nat.{ℕ, zero, suc, ◌*◌, ◌≤◌, ◌<◌}
use native.Mathlib.Omega.{arith}
use native.Mathlib.Decide.{ℕ_discrete}
use lib.Dec.{T, eqb, eqb→eq, eqb_refl}
use lib.IntN.{ℤ, pos, nat_abs, ◌+ℤ◌, ◌-ℤ◌, ◌*ℤ◌, +ℤ_idl, +ℤ_idr}
use Rattle.integer.specs.Finite.{sum, sumℕ}
use Rattle.integer.proofs.Absolute.{abs-*}
use Rattle.integer.proofs.Ring.{ring, *-assoc, one-*, zero-*, *-zero}
use Rattle.integer.proofs.Sum.{sum_ext, sum_zero, sum-*, sum-*r, sum_swap, abs_sum}
use Rattle.linear.specs.Matrix.{Vec, Mat, column, apply, product, identity}

if_yes : (b : Bool) (x y : ℤ) → T b → cond b x y ≡ x
if_yes true x y t = refl
if_yes false x y t = absurd t

if_no : (b : Bool) (x y : ℤ) → ¬ (T b) → cond b x y ≡ y
if_no true x y t = absurd (t tt)
if_no false x y t = refl

pub identity_same : (i : ℕ) → identity i i ≡ pos 1
unfolding identity
identity_same i = if_yes (eqb i i) (pos 1) (pos 0) (eqb_refl i)

pub identity_other : (i j : ℕ) → ¬ (i ≡ j) → identity i j ≡ pos 0
unfolding identity
identity_other i j h = if_no (eqb i j) (pos 1) (pos 0) (λ t. h (eqb→eq i j t))

pub identity_turned : (i j : ℕ) → identity i j ≡ identity j i
identity_turned i j = go (ℕ_discrete i j)
  where
    go : Dec (i ≡ j) → identity i j ≡ identity j i
    go (yes p) = rw p
    go (no p) = identity_other i j p ∙ sym (identity_other j i (λ q. p (sym q)))

sum_identity_out : (n i : ℕ) (e : ℕ → ℤ) → n ≤ i → sum n (λ (j : ℕ). identity i j *ℤ e j) ≡ pos 0
sum_identity_out n i e h = sum_ext n (λ (j : ℕ). identity i j *ℤ e j) (λ (j : ℕ). pos 0) (λ j l. rw (identity_other i j (λ p. omega arith)) (zero-* (e j))) ∙ sum_zero n

pub sum_identity : (n i : ℕ) (e : ℕ → ℤ) → i < n → sum n (λ (j : ℕ). identity i j *ℤ e j) ≡ e i
unfolding sum
sum_identity zero i e h = absurd (omega arith)
sum_identity (suc n) i e h = go (ℕ_discrete i n) (sum_identity n i e)
  where
    go : Dec (i ≡ n) → (i < n → sum n (λ (j : ℕ). identity i j *ℤ e j) ≡ e i) → sum n (λ (j : ℕ). identity i j *ℤ e j) +ℤ identity i n *ℤ e n ≡ e i
    go (yes p) ih = rw (← p) (rw (sum_identity_out i i e (omega arith), identity_same i, one-* (e i)) (+ℤ_idl (e i)))
    go (no p) ih = rw (ih (omega (arith, h)), identity_other i n p, zero-* (e n)) (+ℤ_idr (e i))

-- ---- the laws
-- (G·A)·e = G·(A·e)
pub apply_product : (n : ℕ) (g a : Mat) (e : Vec) (m : ℕ) → apply n (product n g a) e m ≡ apply n g (apply n a e) m
unfolding apply product
apply_product n g a e m = simp (← sum-*, ← sum-*r, *-assoc) (sum_swap n n (λ (j k : ℕ). g m k *ℤ (a k j *ℤ e j)))

pub product_assoc : (n : ℕ) (g a h : Mat) (m j : ℕ) → product n (product n g a) h m j ≡ product n g (product n a h) m j
unfolding product
product_assoc n g a h m j = apply_product n g a (column h j) m

pub apply_identity : (n : ℕ) (e : Vec) (m : ℕ) → m < n → apply n identity e m ≡ e m
unfolding apply
apply_identity n e m h = sum_identity n m e h

-- a combination of two vectors, and of two matrices
pub apply_vectors : (n : ℕ) (a : Mat) (k l : ℤ) (u v : Vec) (m : ℕ) → apply n a (λ (i : ℕ). k *ℤ u i -ℤ l *ℤ v i) m ≡ k *ℤ apply n a u m -ℤ l *ℤ apply n a v m
unfolding apply sum
apply_vectors zero a k l u v m = sym (rw (*-zero k, *-zero l))
apply_vectors (suc n) a k l u v m = rw (apply_vectors n a k l u v m) (simp ring)

pub apply_matrices : (n : ℕ) (k l : ℤ) (a b : Mat) (e : Vec) (m : ℕ) → apply n (λ (i j : ℕ). k *ℤ a i j -ℤ l *ℤ b i j) e m ≡ k *ℤ apply n a e m -ℤ l *ℤ apply n b e m
unfolding apply sum
apply_matrices zero k l a b e m = sym (rw (*-zero k, *-zero l))
apply_matrices (suc n) k l a b e m = rw (apply_matrices n k l a b e m) (simp ring)

pub apply_less : (n : ℕ) (k : ℤ) (a b : Mat) (e : Vec) (m : ℕ) → apply n (λ (i j : ℕ). k *ℤ a i j -ℤ b i j) e m ≡ k *ℤ apply n a e m -ℤ apply n b e m
unfolding apply sum
apply_less zero k a b e m = sym (rw (*-zero k))
apply_less (suc n) k a b e m = rw (apply_less n k a b e m) (simp ring)

pub apply_sub : (n : ℕ) (a : Mat) (u v : Vec) (m : ℕ) → apply n a (λ (i : ℕ). u i -ℤ v i) m ≡ apply n a u m -ℤ apply n a v m
unfolding apply sum
apply_sub zero a u v m = refl
apply_sub (suc n) a u v m = rw (apply_sub n a u v m) (simp ring)

-- only the first n count
pub apply_ext : (n : ℕ) (g : Mat) (r s : Vec) (m : ℕ) → ((k : ℕ) → k < n → s k ≡ r k) → apply n g s m ≡ apply n g r m
unfolding apply
apply_ext n g r s m h = sum_ext n (λ (k : ℕ). g m k *ℤ s k) (λ (k : ℕ). g m k *ℤ r k) (λ k l. rw (h k l))

pub apply_scale : (n : ℕ) (g : Mat) (q : ℤ) (r : Vec) (m : ℕ) → apply n g (λ (k : ℕ). q *ℤ r k) m ≡ q *ℤ apply n g r m
unfolding apply sum
apply_scale zero g q r m = sym (*-zero q)
apply_scale (suc n) g q r m = rw (apply_scale n g q r m) (simp ring)

pub abs_apply : (n : ℕ) (d : Mat) (e : Vec) (m : ℕ) → nat_abs (apply n d e m) ≤ sumℕ n (λ (j : ℕ). nat_abs (d m j) * nat_abs (e j))
unfolding apply
abs_apply n d e m = simp abs-* at (abs_sum n (λ (j : ℕ). d m j *ℤ e j))
