-- Columns whose limits are 0 or 1, and magnitudes that are small.
--   cap_under  — a margin divided by the largest weight, as a cap
--   within_caps_none, within_caps_some — where all magnitudes are 0 each limit is 0; where they are at most their caps and not all 0 each is 1
--   small_each — magnitudes whose sum is at most a number are each at most that
use mathlib.Core.Path.{◌≡◌, refl, ◌∙◌}
use mathlib.Core.List.{List}
use Prim.Native.Nat.{ℕ, zero, suc, ◌*◌, ◌/◌, ◌≤◌, ◌<◌}
use native.Mathlib.Omega.{arith}
use native.Mathlib.Nat.{le_antisymm, le_trans, mul-le-mul_left, mul-le-mul_right, div-mul-le_self}
use lib.IntN.{ℤ, nat_abs}
use lib.ListN.{get_or, replicate, get_or-replicate}
use Rattle.integer.specs.Finite.{sumℕ, largest}
use Rattle.integer.proofs.Search.{largest_at}
use Rattle.integer.proofs.Sum.{sumℕ_ext, sumℕ_zero, sumℕ_at}
use Rattle.linear.specs.Slice.{at}
use Rattle.enclosure.specs.Reckoning.{bound_from}
use Rattle.enclosure.proofs.Bounds.{bound_least, bound_covers}
use Rattle.check_arrays.specs.Arrays.{PrefixIs}
use Rattle.check_ratios.specs.Ratio.{Positive, WithinCaps, Caps}

pub cap_under : (n : ℕ) (w : ℕ → ℕ) (i g c : ℕ) → i < n → c ≡ g / largest n w → w i * c ≤ g
cap_under n w i g c l e =
    rw e (le_trans (mul-le-mul_right (g / largest n w) (largest_at n w i l)) (omega (arith, div-mul-le_self g (largest n w))))

pub small_each : (n : ℕ) (f : ℕ → ℕ) (b : ℕ) → sumℕ n f ≤ b → (m : ℕ) → m < n → f m ≤ b
small_each n f b h m l = le_trans (sumℕ_at n f m l) h

module _ (n : ℕ) (magnitudes margins : List ℕ) (weights : List ℤ) (positive : Positive margins n) where
  abbrev magnitude : ℕ → ℕ
  magnitude m = get_or magnitudes m 0

  abbrev limit : ℕ → ℕ
  limit = bound_from n (λ (m : ℕ). get_or magnitudes m 0) (λ (m : ℕ). get_or margins m 0) (λ (i : ℕ). nat_abs (at weights i))

  pub within_caps_none : n ≤ 32 → sumℕ n (λ (m : ℕ). get_or magnitudes m 0) ≡ 0 → PrefixIs 0 (replicate 32 0) n limit
  within_caps_none n_max e = record {
    each = λ i l. get_or-replicate 32 i 0 0 (omega arith) ∙ le_antisymm (omega arith)
        (bound_least n magnitude (λ (m : ℕ). get_or margins m 0) (λ (i : ℕ). nat_abs (at weights i)) i 0 positive.above
        (λ m lm. let z : magnitude m ≡ 0 = omega (arith, e, sumℕ_at n magnitude m lm) in rw z (omega arith)));
  }

  module _ {caps : List ℕ} (k : Caps caps margins weights n) (within-caps : WithinCaps magnitudes caps n) where
    most : (i : ℕ) → i < n → limit i ≤ 1
    most i l =
        bound_least n magnitude (λ (m : ℕ). get_or margins m 0) (λ (i : ℕ). nat_abs (at weights i)) i 1 positive.above
        (λ m lm. omega (arith, mul-le-mul_left (nat_abs (at weights i)) (within-caps.each m lm), k.under i m l lm))

    -- a magnitude is 0 where a limit is
    none : (i m : ℕ) → i < n → m < n → limit i ≡ 0 → magnitude m ≡ 0
    none i m l lm e =
        let c : nat_abs (at weights i) * magnitude m ≤ 0 * get_or margins m 0 =
        rw e at (bound_covers n magnitude (λ (m : ℕ). get_or margins m 0) (λ (i : ℕ). nat_abs (at weights i)) i m lm (positive.above m lm)) in
        omega (arith, mul-le-mul_right (magnitude m) (k.weights_pos i l))

    one : (i : ℕ) → i < n → (sumℕ n magnitude ≡ 0 → ⊥) → (x : ℕ) → limit i ≡ x → 1 ≡ x
    one i l some zero e = absurd (some (sumℕ_ext n magnitude (λ (m : ℕ). 0) (λ m lm. none i m l lm e) ∙ sumℕ_zero n))
    one i l some (suc x) e = omega (arith, most i l)

    pub within_caps_some : n ≤ 32 → (sumℕ n (λ (m : ℕ). get_or magnitudes m 0) ≡ 0 → ⊥) → PrefixIs 0 (replicate 32 1) n limit
    within_caps_some n_max some = record { each = λ i l. get_or-replicate 32 i 1 0 (omega arith) ∙ one i l some (limit i) refl }
