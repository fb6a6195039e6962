-- Laws of what is allowed of a residual.
--   slack_magnitude — S·d is at most 2^40
--   allowed_magnitude — what is allowed is at most 2^25 in absolute value
--   allowed_test  — a residual z is above what is allowed exactly where |z| + σ is above 2^25, or |z| above the sum along its row: |z| + σ is not formed
use mathlib.Core.Path.{◌≡◌, refl, sym, ap, ◌∙◌}
use mathlib.Core.Bool.{Bool, true, false, ◌||◌, cond}
use Prim.Native.Nat.{ℕ, ◌+◌, ◌-◌, ◌≤◌, ◌^◌, min}
use native.Mathlib.Omega.{arith}
use native.Mathlib.Nat.{mul-le-mul, le_trans}
use borrow.Author.Tests.{ltb-true, ltb-false, lt-ltb, le-ltb}
use lib.Dec.{ltb, lit≤}
use lib.IntN.{ℤ, pos, negsuc, nat_abs}
use Rattle.enclosure.specs.Reckoning.{allowed_residual}
use Rattle.check_arrays.specs.Parts.{above_allowed}
use Rattle.check_arrays.proofs.Magnitudes.{power_magnitude}
use Rattle.check_allowances.specs.Allowed.{slack_at, allowed_beside}

pub slack_magnitude : (s : ℕ) (d : ℤ) → s ≤ 20 → nat_abs d ≤ 2 ^ 20 → slack_at s d ≤ 2 ^ 40
slack_magnitude s d h k = le_trans (mul-le-mul (power_magnitude s h) k) (lit≤ tt)

pub allowed_magnitude : (σ m : ℕ) → nat_abs (allowed_beside σ m) ≤ allowed_residual
allowed_magnitude σ m = go (ltb allowed_residual σ)
  where
    go : (x : Bool) → nat_abs (cond x (negsuc 0) (pos (min (allowed_residual - σ) m))) ≤ allowed_residual
    go true = lit≤ tt
    go false = omega arith

-- a number above the smaller of two is above one of them
above_smaller : (a b z : ℕ) → ltb (min a b) z ≡ ltb a z || ltb b z
above_smaller a b z = go (ltb a z) refl (ltb b z) refl
  where
    go : (x : Bool) → ltb a z ≡ x → (y : Bool) → ltb b z ≡ y → ltb (min a b) z ≡ x || y
    go true p y q = lt-ltb (min a b) z (omega (arith, ltb-true a z p))
    go false p true q = lt-ltb (min a b) z (omega (arith, ltb-true b z q))
    go false p false q = le-ltb (min a b) z (omega (arith, ltb-false a z p, ltb-false b z q))

pub allowed_test : (σ m : ℕ) (z : ℤ) → above_allowed (allowed_beside σ m) z ≡ ltb allowed_residual (nat_abs z + σ) || ltb m (nat_abs z)
allowed_test σ m z = go (ltb allowed_residual σ) refl
  where
    -- with and without the sum, where the slack itself is at most 2^25
    same : (x : Bool) → ltb (allowed_residual - σ) (nat_abs z) ≡ x → σ ≤ allowed_residual → x ≡ ltb allowed_residual (nat_abs z + σ)
    same true e h = sym (lt-ltb allowed_residual (nat_abs z + σ) (omega (arith, ltb-true (allowed_residual - σ) (nat_abs z) e)))
    same false e h = sym (le-ltb allowed_residual (nat_abs z + σ) (omega (arith, ltb-false (allowed_residual - σ) (nat_abs z) e)))

    go : (x : Bool) → ltb allowed_residual σ ≡ x → above_allowed (cond x (negsuc 0) (pos (min (allowed_residual - σ) m))) z ≡ ltb allowed_residual (nat_abs z + σ) || ltb m (nat_abs z)
    go true e = rw (lt-ltb allowed_residual (nat_abs z + σ) (omega (arith, ltb-true allowed_residual σ e)))
    go false e =
        above_smaller (allowed_residual - σ) m (nat_abs z)
        ∙ ap (λ (x : Bool). x || ltb m (nat_abs z)) (same (ltb (allowed_residual - σ) (nat_abs z)) refl (ltb-false allowed_residual σ e))
