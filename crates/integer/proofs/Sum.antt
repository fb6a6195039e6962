-- Laws of finite sums over index functions.
--   sum_none, sum_next, sum_end — at none, at n + 1 and at the end, for loops; sumℕ_none, sumℕ_next, sumℕ_end the same
--   sum_ext, sum-+, sum-*, sum-*r, sum_swap — equal terms, sums of sums, factors left and right, exchange of two sums
--   abs_sum   — |Σ f| ≤ Σ |f|;  abs_sum≤ — |Σ f| ≤ n · b where every |f i| ≤ b
--   sumℕ_ext, sumℕ_mono, sumℕ-*, sumℕ-+, sumℕ_swap — as above, and monotone
--   sumℕ_at   — a term is at most the sum;  sumℕ≤ — Σ f ≤ n · b where every f i ≤ b
use mathlib.Core.Path.{◌≡◌, refl, sym, ap}
use Prim.Native.Nat.{ℕ, zero, suc, ◌+◌, ◌*◌, ◌≤◌, ◌<◌}
use native.Mathlib.Omega.{arith}
use native.Mathlib.Decide.{ℕ_discrete}
use native.Mathlib.Nat.{suc-mul, le_antisymm}
use native.Mathlib.Numerals.{add-one}
use lib.IntN.{ℤ, pos, nat_abs, ◌+ℤ◌, ◌*ℤ◌}
use Rattle.integer.specs.Finite.{sum, sumℕ}
use Rattle.integer.proofs.Absolute.{abs-+}
use Rattle.integer.proofs.Ring.{ring, zero-*, *-zero}

pub sum_none : (f : ℕ → ℤ) → sum 0 f ≡ pos 0
unfolding sum
sum_none f = refl

pub sum_next : (n : ℕ) (f : ℕ → ℤ) → sum (n + 1) f ≡ sum n f +ℤ f n
unfolding sum
sum_next n f = rw add-one

pub sum_end : {i n : ℕ} (f : ℕ → ℤ) → i ≤ n → n ≤ i → sum i f ≡ sum n f
sum_end f p q = ap (λ (m : ℕ). sum m f) (le_antisymm p q)

pub sumℕ_none : (f : ℕ → ℕ) → sumℕ 0 f ≡ 0
unfolding sumℕ
sumℕ_none f = refl

pub sumℕ_next : (n : ℕ) (f : ℕ → ℕ) → sumℕ (n + 1) f ≡ sumℕ n f + f n
unfolding sumℕ
sumℕ_next n f = rw add-one

pub sumℕ_end : {i n : ℕ} (f : ℕ → ℕ) → i ≤ n → n ≤ i → sumℕ i f ≡ sumℕ n f
sumℕ_end f p q = ap (λ (m : ℕ). sumℕ m f) (le_antisymm p q)

pub sum_ext : (n : ℕ) (f g : ℕ → ℤ) → ((i : ℕ) → i < n → f i ≡ g i) → sum n f ≡ sum n g
unfolding sum
sum_ext zero f g h = refl
sum_ext (suc n) f g h = rw (h n (omega arith), sum_ext n f g (λ i l. h i (omega arith)))

pub sum_zero : (n : ℕ) → sum n (λ (i : ℕ). pos 0) ≡ pos 0
unfolding sum
sum_zero zero = refl
sum_zero (suc n) = rw (sum_zero n)

pub sum-+ : (n : ℕ) (f g : ℕ → ℤ) → sum n (λ (i : ℕ). f i +ℤ g i) ≡ sum n f +ℤ sum n g
unfolding sum
sum-+ zero f g = refl
sum-+ (suc n) f g = rw (sum-+ n f g) (simp ring)

pub sum-* : (n : ℕ) (k : ℤ) (f : ℕ → ℤ) → sum n (λ (i : ℕ). k *ℤ f i) ≡ k *ℤ sum n f
unfolding sum
sum-* zero k f = sym (*-zero k)
sum-* (suc n) k f = rw (sum-* n k f) (simp ring)

pub sum-*r : (n : ℕ) (k : ℤ) (f : ℕ → ℤ) → sum n (λ (i : ℕ). f i *ℤ k) ≡ sum n f *ℤ k
unfolding sum
sum-*r zero k f = sym (zero-* k)
sum-*r (suc n) k f = rw (sum-*r n k f) (simp ring)

pub sum_swap : (n m : ℕ) (f : ℕ → ℕ → ℤ) → sum n (λ (i : ℕ). sum m (λ (j : ℕ). f i j)) ≡ sum m (λ (j : ℕ). sum n (λ (i : ℕ). f i j))
unfolding sum
sum_swap zero m f = sym (sum_zero m)
sum_swap (suc n) m f = rw (sum_swap n m f) (sym (sum-+ m (λ (j : ℕ). sum n (λ (i : ℕ). f i j)) (f n)))

pub abs_sum : (n : ℕ) (f : ℕ → ℤ) → nat_abs (sum n f) ≤ sumℕ n (λ (i : ℕ). nat_abs (f i))
unfolding sum sumℕ
abs_sum zero f = omega arith
abs_sum (suc n) f = omega (arith, abs_sum n f, abs-+ (sum n f) (f n))

pub abs_sum≤ : (n b : ℕ) (f : ℕ → ℤ) → ((i : ℕ) → i < n → nat_abs (f i) ≤ b) → nat_abs (sum n f) ≤ n * b
unfolding sum
abs_sum≤ zero b f h = omega arith
abs_sum≤ (suc n) b f h =
    omega (arith, suc-mul n b, abs_sum≤ n b f (λ i l. h i (omega arith)), abs-+ (sum n f) (f n), h n (omega arith))

pub sumℕ_ext : (n : ℕ) (f g : ℕ → ℕ) → ((i : ℕ) → i < n → f i ≡ g i) → sumℕ n f ≡ sumℕ n g
unfolding sumℕ
sumℕ_ext zero f g h = refl
sumℕ_ext (suc n) f g h = rw (h n (omega arith), sumℕ_ext n f g (λ i l. h i (omega arith)))

pub sumℕ_mono : (n : ℕ) (f g : ℕ → ℕ) → ((i : ℕ) → i < n → f i ≤ g i) → sumℕ n f ≤ sumℕ n g
unfolding sumℕ
sumℕ_mono zero f g h = omega arith
sumℕ_mono (suc n) f g h = omega (arith, sumℕ_mono n f g (λ i l. h i (omega arith)), h n (omega arith))

pub sumℕ-* : (n k : ℕ) (f : ℕ → ℕ) → sumℕ n (λ (i : ℕ). f i * k) ≡ sumℕ n f * k
unfolding sumℕ
sumℕ-* zero k f = omega arith
sumℕ-* (suc n) k f = omega (arith, sumℕ-* n k f)

pub sumℕ-+ : (n : ℕ) (f g : ℕ → ℕ) → sumℕ n (λ (i : ℕ). f i + g i) ≡ sumℕ n f + sumℕ n g
unfolding sumℕ
sumℕ-+ zero f g = refl
sumℕ-+ (suc n) f g = omega (arith, sumℕ-+ n f g)

pub sumℕ_zero : (n : ℕ) → sumℕ n (λ (i : ℕ). 0) ≡ 0
unfolding sumℕ
sumℕ_zero zero = refl
sumℕ_zero (suc n) = omega (arith, sumℕ_zero n)

pub sumℕ_swap : (n m : ℕ) (f : ℕ → ℕ → ℕ) → sumℕ n (λ (i : ℕ). sumℕ m (λ (j : ℕ). f i j)) ≡ sumℕ m (λ (j : ℕ). sumℕ n (λ (i : ℕ). f i j))
unfolding sumℕ
sumℕ_swap zero m f = sym (sumℕ_zero m)
sumℕ_swap (suc n) m f = rw (sumℕ_swap n m f) (sym (sumℕ-+ m (λ (j : ℕ). sumℕ n (λ (i : ℕ). f i j)) (f n)))

-- one term is at most the sum
pub sumℕ_at : (n : ℕ) (f : ℕ → ℕ) (i : ℕ) → i < n → f i ≤ sumℕ n f
unfolding sumℕ
sumℕ_at zero f i h = absurd (omega arith)
sumℕ_at (suc n) f i h = go (ℕ_discrete i n) (sumℕ_at n f i)
  where
    go : Dec (i ≡ n) → (i < n → f i ≤ sumℕ n f) → f i ≤ sumℕ n f + f n
    go (yes p) ih = rw p (omega arith)
    go (no p) ih = omega (arith, ih (omega (arith, h)))

pub sumℕ≤ : (n b : ℕ) (f : ℕ → ℕ) → ((i : ℕ) → i < n → f i ≤ b) → sumℕ n f ≤ n * b
unfolding sumℕ
sumℕ≤ zero b f h = omega arith
sumℕ≤ (suc n) b f h = omega (arith, suc-mul n b, sumℕ≤ n b f (λ i l. h i (omega arith)), h n (omega arith))
