-- A place where u / v is largest (specs/Finite), for divisors above 0.
--   carry                   — a / x ≤ b / y ≤ c / z
--   largest_ratio_one            — of one place it is the first
--   largest_ratio_stays, largest_ratio_moves — with one place more it is the same where the quotient there is no larger, and the new one where it is no smaller
--   largest_ratio_of             — there is one
use mathlib.Core.Path.{◌≡◌}
use Prim.Native.Nat.{ℕ, zero, suc, ◌+◌, ◌*◌, ◌≤◌, ◌<◌}
use native.Mathlib.Omega.{arith}
use native.Mathlib.Decide.{dec_le}
use native.Mathlib.Nat.{mul-le-mul_right, le_of_mul-le-mul_right}
use native.Mathlib.Numerals.{add-one}
use Rattle.integer.specs.LargestRatio.{LargestRatio}
use Rattle.integer.proofs.Search.{upto}

pub carry : (a b c x y z : ℕ) → a * y ≤ b * x → b * z ≤ c * y → 0 < y → a * z ≤ c * x
carry a b c x y z h k o =
    let l : a * z * y ≤ c * x * y = omega (arith, mul-le-mul_right z h, mul-le-mul_right x k) in le_of_mul-le-mul_right l o

module _ (u v : ℕ → ℕ) where
  pub largest_ratio_one : LargestRatio 1 u v 0
  largest_ratio_one = record { below = omega arith; most = λ m l. let z : m ≡ 0 = omega arith in rw z (omega arith) }

  pub largest_ratio_stays : (n k : ℕ) → LargestRatio n u v k → u n * v k ≤ u k * v n → LargestRatio (n + 1) u v k
  largest_ratio_stays n k s h = record {
    below = omega (arith, s.below);
    most = λ m l. upto (λ (i : ℕ). u i * v k ≤ u k * v i) n m (omega arith) s.most h;
  }

  pub largest_ratio_moves : (n k : ℕ) → 0 < v k → LargestRatio n u v k → u k * v n ≤ u n * v k → LargestRatio (n + 1) u v n
  largest_ratio_moves n k p s h = record {
    below = omega arith;
    most = λ m l. upto (λ (i : ℕ). u i * v n ≤ u n * v i) n m (omega arith)
        (λ i li. carry (u i) (u k) (u n) (v i) (v k) (v n) (s.most i li) h p) (omega arith);
  }

  pub largest_ratio_of : (n : ℕ) → ((i : ℕ) → i < n → 0 < v i) → 0 < n → (k : ℕ) × LargestRatio n u v k
  largest_ratio_of zero hv n_pos = absurd (omega arith)
  largest_ratio_of (suc zero) hv n_pos = (0, largest_ratio_one)
  largest_ratio_of (suc (suc n)) hv n_pos = go (largest_ratio_of (suc n) (λ i l. hv i (omega arith)) (omega arith))
    where
      go : (k : ℕ) × LargestRatio (suc n) u v k → (k : ℕ) × LargestRatio (suc (suc n)) u v k
      go (k, s) = pick (dec_le (u (suc n) * v k) (u k * v (suc n)))
        where
          pick : Dec (u (suc n) * v k ≤ u k * v (suc n)) → (k : ℕ) × LargestRatio (suc (suc n)) u v k
          pick (yes p) = (k, rw add-one at (largest_ratio_stays (suc n) k s p))
          pick (no p) = (suc n, rw add-one at (largest_ratio_moves (suc n) k (hv k (omega (arith, s.below))) s (omega arith)))
