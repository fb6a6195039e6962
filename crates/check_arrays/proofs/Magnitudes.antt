-- Magnitudes of the reckoning's numbers, all within an i64.
--   power_magnitude, unit_same, unit_other, unit_magnitude, scaled_magnitude — of 2^t, of the numbers of T·I and of S·b
--   raisable — a matrix list, as `bias_rows` and `bias_columns` ask for it
--   Ranged P, defect_most — n at most 32, t at most 20, A and G at most 2^20 in absolute value: then |D_mj| ≤ 2^45 + 2^20
--   ranged_of, defect_magnitude — of lists in these ranges;  residual_exchanged — a residual of the inverse is a number of D with the two matrices exchanged
--   residual_magnitude — its magnitude
--   column_ends — places of columns;  above_below, above_above — the code's test of a residual
use mathlib.Core.Path.{◌≡◌, refl, sym, ap, subst}
use mathlib.Core.Bool.{Bool, true, false, cond}
use mathlib.Core.List.{List, []}
use Prim.Native.Nat.{ℕ, zero, suc, ◌+◌, ◌*◌, ◌<◌, ◌≤◌, ◌^◌}
use native.Mathlib.Omega.{arith}
use native.Mathlib.Nat.{mul-le-mul, mul-le-mul_right, pow-le-pow_right, le_trans}
use borrow.Author.Tests.{ltb-true, ltb-false, lt-ltb, le-ltb}
use lib.Dec.{T, eqb, lit≤}
use lib.IntN.{ℤ, pos, negsuc, neg_ℤ, nat_abs, ◌-ℤ◌, ◌*ℤ◌, +ℤ_idl}
use lib.Signed.{lt_z}
use Rattle.integer.specs.Finite.{sum}
use Rattle.integer.proofs.Absolute.{abs_sub, abs-*}
use Rattle.integer.proofs.Sum.{abs_sum≤}
use Rattle.linear.specs.Matrix.{identity, apply, product}
use Rattle.linear.specs.Reach.{ColumnList, MatrixList}
use Rattle.linear.proofs.Product.{identity_same, identity_other}
use Rattle.linear.proofs.Places.{place, square}
use Rattle.check_biased_rows.specs.Biased.{bias}
use Rattle.enclosure.specs.Problem.{Problem, problem_of}
use Rattle.enclosure.specs.Reckoning.{defect, residual}
use Rattle.check_arrays.specs.Parts.{column_residual, above_allowed}

pub power_magnitude : (t : ℕ) → t ≤ 20 → 2 ^ t ≤ 2 ^ 20
power_magnitude t h = pow-le-pow_right {n = 2} (omega arith) {i = t} {j = 20} h

identity_magnitude : (i j : ℕ) → nat_abs (identity i j) ≤ 1
unfolding identity
identity_magnitude i j = go (eqb i j)
  where
    go : (b : Bool) → nat_abs (cond b (pos 1) (pos 0)) ≤ 1
    go true = lit≤ tt
    go false = lit≤ tt

pub unit_magnitude : (t i j : ℕ) → t ≤ 20 → nat_abs (pos (2 ^ t) *ℤ identity i j) ≤ 2 ^ 20
unit_magnitude t i j h = rw (abs-* (pos (2 ^ t)) (identity i j)) (le_trans (mul-le-mul (power_magnitude t h) (identity_magnitude i j)) (lit≤ tt))

pub unit_same : (x i j : ℕ) → i ≡ j → pos x ≡ pos x *ℤ identity i j
unit_same x i j e = rw (e, identity_same j) (ap pos (omega arith))

pub unit_other : (x i j : ℕ) → (i ≡ j → ⊥) → pos 0 ≡ pos x *ℤ identity i j
unit_other x i j e = rw (identity_other i j e) (ap pos (omega arith))

pub scaled_magnitude : (s : ℕ) (b : ℤ) → s ≤ 20 → nat_abs b ≤ 2 ^ 30 → nat_abs (pos (2 ^ s) *ℤ b) ≤ 2 ^ 50
scaled_magnitude s b h k = rw (abs-* (pos (2 ^ s)) b) (le_trans (mul-le-mul (power_magnitude s h) k) (lit≤ tt))

-- a matrix list, as `bias_rows` and `bias_columns` ask for it
pub raisable : {xs : List ℤ} {n : ℕ} → MatrixList xs n → ColumnList xs (n * n) bias
raisable q = record { long = q.long; within = record { magnitudes = λ k l. le_trans (q.within.magnitudes k l) (lit≤ tt) } }

-- the numbers of D, for a problem in 01's ranges
pub record Ranged (P : Problem) : Type 0 where
  pub n_max : P.n ≤ 32
  pub scale : P.t ≤ 20
  pub matrix : (i j : ℕ) → i < P.n → j < P.n → nat_abs (P.A i j) ≤ 2 ^ 20
  pub inverse : (i j : ℕ) → i < P.n → j < P.n → nat_abs (P.G i j) ≤ 2 ^ 20

pub defect_most : (P : Problem) → Ranged P → (m j : ℕ) → m < P.n → j < P.n → nat_abs (defect P m j) ≤ 2 ^ 45 + 2 ^ 20
unfolding defect product apply
defect_most P r m j lm lj =
    omega (
      arith,
      abs_sub (pos (2 ^ P.t) *ℤ identity m j) (sum P.n (λ (k : ℕ). P.G m k *ℤ P.A k j)),
      unit_magnitude P.t m j r.scale,
      abs_sum≤ P.n (2 ^ 40) (λ (k : ℕ). P.G m k *ℤ P.A k j)
          (λ k lk. rw (abs-* (P.G m k) (P.A k j)) (mul-le-mul (r.inverse m k lm lk) (r.matrix k j lk lj))),
      mul-le-mul_right (2 ^ 40) r.n_max,
    )

-- of lists in these ranges
module _ (n t : ℕ) (matrix inverse : List ℤ) (ht : t ≤ 20) (n_max : n ≤ 32) (hm : MatrixList matrix n) (hi : MatrixList inverse n) where
  ranged_of : Ranged (problem_of n 0 t matrix [] [] [] inverse [])
  ranged_of = record {
    n_max = n_max;
    scale = ht;
    matrix = λ i j li lj. hm.within.magnitudes (i * n + j) (place li lj);
    inverse = λ i j li lj. hi.within.magnitudes (i * n + j) (place li lj);
  }

  pub defect_magnitude : (m j : ℕ) → m < n → j < n → nat_abs (defect (problem_of n 0 t matrix [] [] [] inverse []) m j) ≤ 2 ^ 46
  defect_magnitude m j lm lj = omega (arith, defect_most (problem_of n 0 t matrix [] [] [] inverse []) ranged_of m j lm lj)

pub residual_exchanged : (n t : ℕ) (matrix inverse : List ℤ) (j k : ℕ) → column_residual n t matrix inverse j k ≡ defect (problem_of n 0 t inverse [] [] [] matrix []) k j
unfolding residual defect product
residual_exchanged n t matrix inverse j k = refl

pub residual_magnitude : (n t : ℕ) (matrix inverse : List ℤ) → t ≤ 20 → n ≤ 32 → MatrixList matrix n → MatrixList inverse n →
    (j k : ℕ) → j < n → k < n → nat_abs (column_residual n t matrix inverse j k) ≤ 2 ^ 46
residual_magnitude n t matrix inverse ht n_max hm hi j k lj lk = rw (residual_exchanged n t matrix inverse j k) (defect_magnitude n t inverse matrix ht n_max hi hm k j lk lj)

-- places of a column stay small
pub column_ends : {j n : ℕ} → j < n → n ≤ 32 → j + n * n < 2048
column_ends l n_max = omega (arith, square n_max)

-- the code's test of a residual
pub above_below : (a z : ℤ) → lt_z z (pos 0 -ℤ a) ≡ true → true ≡ above_allowed a z
above_below a z e = go a z (rw (+ℤ_idl (neg_ℤ a)) at e)
  where
    go : (a z : ℤ) → lt_z z (neg_ℤ a) ≡ true → true ≡ above_allowed a z
    go (pos zero) (pos z) e = absurd (omega (arith, ltb-true z 0 e))
    go (pos (suc a)) (pos z) e = absurd (subst T (sym e) tt)
    go (pos zero) (negsuc z) e = sym (lt-ltb 0 (suc z) (omega arith))
    go (pos (suc a)) (negsuc z) e = sym (lt-ltb (suc a) (suc z) (omega (arith, ltb-true a z e)))
    go (negsuc a) z e = refl

pub above_above : (a z : ℤ) → lt_z z (pos 0 -ℤ a) ≡ false → lt_z a z ≡ above_allowed a z
above_above a z e = go a z (rw (+ℤ_idl (neg_ℤ a)) at e)
  where
    go : (a z : ℤ) → lt_z z (neg_ℤ a) ≡ false → lt_z a z ≡ above_allowed a z
    go a (pos z) e = refl
    go (pos zero) (negsuc z) e = absurd (subst T e tt)
    go (pos (suc a)) (negsuc z) e = sym (le-ltb (suc a) (suc z) (omega (arith, ltb-false a z e)))
    go (negsuc a) (negsuc z) e = absurd (subst T e tt)
