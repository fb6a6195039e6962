-- The margin in ℕ: g_m = T·w_m − load where it is above 0.
--   cut_test     — a difference in ℕ is 0 exactly where nothing is left
--   margin_test  — it is 0 or less exactly where T·w_m ≤ load
--   margin_sum   — where it is above 0, g_m + load = T·w_m;  margin_above — and its magnitude is above 0
--   margin_cut   — its magnitude is then ℕ's difference
use mathlib.Core.Path.{◌≡◌, refl, sym, ◌∙◌}
use mathlib.Core.Bool.{Bool, true, false}
use Prim.Native.Nat.{ℕ, zero, suc, ◌+◌, ◌*◌, ◌-◌, ◌≤◌, ◌<◌}
use native.Mathlib.Omega.{arith}
use borrow.Author.Tests.{leb-true, leb-false, lt-leb, eq-eqb, ne_eqb}
use lib.Dec.{eqb, leb}
use lib.IntN.{pos, neg_ℤ, nat_abs, ◌-ℤ◌}
use lib.Signed.{le_z}
use Rattle.integer.proofs.Absolute.{abs_difference}
use Rattle.integer.proofs.Difference.{zz}
use Rattle.enclosure.specs.Problem.{Problem, T}
use Rattle.enclosure.specs.Reckoning.{load, margin, margin_fails}

not_above : (k : ℕ) → le_z (neg_ℤ (pos k)) (pos 0) ≡ true
not_above zero = refl
not_above (suc k) = refl

difference_less : (a b : ℕ) → a ≤ b → pos a -ℤ pos b ≡ neg_ℤ (pos (b - a))
difference_less a b h = simp zz (omega arith)

difference_more : (a b : ℕ) → b ≤ a → pos a -ℤ pos b ≡ pos (a - b)
difference_more a b h = simp zz (omega arith)

pub cut_test : (a b : ℕ) → eqb (a - b) 0 ≡ leb a b
cut_test a b = go (leb a b) refl
  where
    go : (t : Bool) → leb a b ≡ t → eqb (a - b) 0 ≡ t
    go true e = eq-eqb (a - b) 0 (omega (arith, leb-true a b e))
    go false e = ne_eqb (a - b) 0 (λ z. omega (arith, leb-false a b e))

difference_test : (a b : ℕ) → le_z (pos a -ℤ pos b) (pos 0) ≡ leb a b
difference_test a b = go (leb a b) refl
  where
    go : (t : Bool) → leb a b ≡ t → le_z (pos a -ℤ pos b) (pos 0) ≡ t
    go true e = rw (difference_less a b (leb-true a b e)) (not_above (b - a))
    go false e = let l : b < a = leb-false a b e in rw (difference_more a b (omega arith)) (lt-leb (a - b) 0 (omega arith))

module _ (P : Problem) (m : ℕ) where
  pub margin_test : margin_fails P m ≡ leb (T P * P.w m) (load P m)
  unfolding margin
  margin_test = difference_test (T P * P.w m) (load P m)

  pub margin_cut : load P m ≤ T P * P.w m → nat_abs (margin P m) ≡ T P * P.w m - load P m
  unfolding margin
  margin_cut h = abs_difference (T P * P.w m) (load P m) ∙ omega arith

module _ (P : Problem) (m : ℕ) (h : margin_fails P m ≡ false) where
  load_below : load P m < T P * P.w m
  load_below = leb-false (T P * P.w m) (load P m) (sym (margin_test P m) ∙ h)

  pub margin_sum : nat_abs (margin P m) + load P m ≡ T P * P.w m
  margin_sum = let l = load_below in omega (arith, margin_cut P m (omega arith))

  pub margin_above : 0 < nat_abs (margin P m)
  margin_above = omega (arith, load_below, margin_sum)
