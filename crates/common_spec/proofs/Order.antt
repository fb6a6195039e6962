-- Order on ℤ, as the theorems of this crate use it.
--   between  — a number between q·a and q·b shows a ≤ b
--   max_either, min_either — what holds of both numbers holds of the larger, of the smaller
--   max_comm, min_comm, max_self, min_self — of two numbers in either order, and of one twice
--   max_above, min_below — each is at most the larger, at least the smaller
use mathlib.Core.Path.{◌≡◌, refl, sym, subst}
use mathlib.Core.Bool.{Bool, true, false, cond}
use Prim.Native.Nat.{ℕ, ◌+◌, ◌*◌, ◌≤◌}
use native.Mathlib.Nat.{le_of_mul-le-mul_left}
use native.Mathlib.Omega.{arith}
use borrow.Author.Tests.{leb-false}
use lib.Dec.{T, le→leb}
use lib.IntN.{ℤ, pos, negsuc, ◌*ℤ◌}
use lib.Signed.{le_z, ◌≤ℤ◌, ≤ℤ_refl, le_z_yes}
use Rattle.integer.specs.SignedParts.{pos_part, neg_part}
use Rattle.integer.proofs.Difference.{is, zz}
use Rattle.integer.proofs.Order.{le_both}
use Rattle.common_spec.specs.Ends.{maxℤ, minℤ}

pub between : (q : ℕ) (a b z : ℤ) → 1 ≤ q → (pos q *ℤ a) ≤ℤ z → z ≤ℤ (pos q *ℤ b) → a ≤ℤ b
between q a b z o h k =
    let x = simp zz at (rw (is a, is z) at h) in
    let y = simp zz at (rw (is b, is z) at k) in
    let w : q * (pos_part a + neg_part b) ≤ q * (pos_part b + neg_part a) = omega (arith, x, y) in
    rw (is a, is b) (simp zz (omega (arith, le_of_mul-le-mul_left w o)))

-- ---- the larger and the smaller of two
less : (x y : ℤ) → le_z x y ≡ true → x ≤ℤ y
less x y e = le_z_yes (subst T (sym e) tt)

more : (x y : ℤ) → le_z x y ≡ false → y ≤ℤ x
more (pos a) (pos b) e = le_z_yes (le→leb b a (omega (arith, leb-false a b e)))
more (pos a) (negsuc b) e = le_z_yes tt
more (negsuc a) (pos b) e = absurd (subst T e tt)
more (negsuc a) (negsuc b) e = le_z_yes (le→leb a b (omega (arith, leb-false b a e)))

module _ (x y : ℤ) where
  pub max_either : (P : ℤ → Type 0) → P x → P y → P (maxℤ x y)
  max_either P p q = go (le_z x y)
    where
      go : (b : Bool) → P (cond b y x)
      go true = q
      go false = p

  pub min_either : (P : ℤ → Type 0) → P x → P y → P (minℤ x y)
  min_either P p q = go (le_z x y)
    where
      go : (b : Bool) → P (cond b x y)
      go true = p
      go false = q

  max_above : (x ≤ℤ maxℤ x y) × (y ≤ℤ maxℤ x y)
  max_above = go (le_z x y) refl
    where
      go : (b : Bool) → le_z x y ≡ b → (x ≤ℤ cond b y x) × (y ≤ℤ cond b y x)
      go true e = (less x y e, ≤ℤ_refl y)
      go false e = (≤ℤ_refl x, more x y e)

  min_below : (minℤ x y ≤ℤ x) × (minℤ x y ≤ℤ y)
  min_below = go (le_z x y) refl
    where
      go : (b : Bool) → le_z x y ≡ b → (cond b x y ≤ℤ x) × (cond b x y ≤ℤ y)
      go true e = (≤ℤ_refl x, less x y e)
      go false e = (more x y e, ≤ℤ_refl y)

pub max_comm : (x y : ℤ) → maxℤ x y ≡ maxℤ y x
max_comm x y = le_both (half x y) (half y x)
  where
    half : (x y : ℤ) → maxℤ x y ≤ℤ maxℤ y x
    half x y = max_either x y (λ z. z ≤ℤ maxℤ y x) (max_above y x).1 (max_above y x).0

pub min_comm : (x y : ℤ) → minℤ x y ≡ minℤ y x
min_comm x y = le_both (half x y) (half y x)
  where
    half : (x y : ℤ) → minℤ x y ≤ℤ minℤ y x
    half x y = min_either y x (λ z. minℤ x y ≤ℤ z) (min_below x y).1 (min_below x y).0

pub max_self : (x : ℤ) → maxℤ x x ≡ x
max_self x = max_either x x (λ z. z ≡ x) refl refl

pub min_self : (x : ℤ) → minℤ x x ≡ x
min_self x = min_either x x (λ z. z ≡ x) refl refl
