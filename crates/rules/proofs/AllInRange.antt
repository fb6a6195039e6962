-- Laws of `all_in_range`: those of `every` (proofs/Every), for ranges.
--   all_at, all_in — each of the numbers is in range, and the converse
--   all_ext        — equal numbers are alike
use mathlib.Core.Path.{◌≡◌, ap}
use mathlib.Core.Bool.{true}
use Prim.Native.Nat.{ℕ, ◌<◌}
use lib.IntN.{ℤ}
use Rattle.rules.specs.declared.Kind.{Kind}
use Rattle.rules.specs.Range.{in_range, all_in_range}
use Rattle.rules.proofs.Every.{every_at, every_in, every_ext}

module _ (k : Kind) where
  pub all_at : (n : ℕ) (f : ℕ → ℤ) → all_in_range k n f ≡ true → (i : ℕ) → i < n → in_range k (f i) ≡ true
  unfolding all_in_range
  all_at n f = every_at n (λ (i : ℕ). in_range k (f i))

  pub all_in : (n : ℕ) (f : ℕ → ℤ) → ((i : ℕ) → i < n → in_range k (f i) ≡ true) → all_in_range k n f ≡ true
  unfolding all_in_range
  all_in n f = every_in n (λ (i : ℕ). in_range k (f i))

  pub all_ext : (n : ℕ) (f g : ℕ → ℤ) → ((i : ℕ) → i < n → f i ≡ g i) → all_in_range k n f ≡ all_in_range k n g
  unfolding all_in_range
  all_ext n f g h = every_ext n (λ (i : ℕ). in_range k (f i)) (λ (i : ℕ). in_range k (g i)) (λ i l. ap (in_range k) (h i l))
