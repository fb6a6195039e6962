-- Laws of the limits of a column.
--   bound_least, bound_covers — the limit is the least whole number that covers every row: w_i·sizes_m ≤ limit_i·margins_m
--   bound_at     — it is the rounded-up quotient of a row where magnitudes / margins is largest
--   bound_ext    — magnitudes and margins that agree on the first n rows give the same limits
use mathlib.Core.Path.{◌≡◌}
use Prim.Native.Nat.{ℕ, ◌*◌, ◌≤◌, ◌<◌}
use native.Mathlib.Omega.{arith}
use native.Mathlib.Nat.{le_trans, le_antisymm, mul-le-mul_right}
use Rattle.integer.specs.LargestRatio.{LargestRatio}
use Rattle.integer.specs.Quotient.{ceil_div}
use Rattle.integer.proofs.Rounding.{ceil_covers, ceil_least}
use Rattle.integer.proofs.LargestRatio.{carry}
use Rattle.integer.proofs.Search.{largest_at, largest-≤, largest_ext}
use Rattle.enclosure.specs.Reckoning.{bound_from}

module _ (n : ℕ) (magnitudes margins w : ℕ → ℕ) (i : ℕ) where
  pub bound_least : (E : ℕ) → ((m : ℕ) → m < n → 0 < margins m) → ((m : ℕ) → m < n → w i * magnitudes m ≤ E * margins m) → bound_from n magnitudes margins w i ≤ E
  unfolding bound_from
  bound_least E h c = largest-≤ n _ E (λ m l. ceil_least _ _ E (h m l) (omega (arith, c m l)))

  pub bound_covers : (m : ℕ) → m < n → 0 < margins m → w i * magnitudes m ≤ bound_from n magnitudes margins w i * margins m
  unfolding bound_from
  bound_covers m l h =
      le_trans (ceil_covers (w i * magnitudes m) (margins m) h) (mul-le-mul_right (margins m) (largest_at n _ m l))

pub bound_at : (n : ℕ) (magnitudes margins w : ℕ → ℕ) (i k : ℕ) → ((m : ℕ) → m < n → 0 < margins m) → LargestRatio n magnitudes margins k →
    bound_from n magnitudes margins w i ≡ ceil_div (w i * magnitudes k) (margins k)
unfolding bound_from
bound_at n magnitudes margins w i k h s =
    le_antisymm
    (bound_least n magnitudes margins w i (ceil_div (w i * magnitudes k) (margins k)) h
    (λ m lm. omega (
      arith,
      carry (magnitudes m) (magnitudes k) (ceil_div (w i * magnitudes k) (margins k)) (margins m) (margins k) (w i) (s.most m lm)
          (omega (arith, ceil_covers (w i * magnitudes k) (margins k) (h k s.below))) (h k s.below),
    )))
    (largest_at n (λ (m : ℕ). ceil_div (w i * magnitudes m) (margins m)) k s.below)

pub bound_ext : (n : ℕ) (magnitudes margins magnitudes' margins' w : ℕ → ℕ) (i : ℕ) → ((m : ℕ) → m < n → magnitudes m ≡ magnitudes' m) →
    ((m : ℕ) → m < n → margins m ≡ margins' m) → bound_from n magnitudes margins w i ≡ bound_from n magnitudes' margins' w i
unfolding bound_from
bound_ext n magnitudes margins magnitudes' margins' w i p q =
    largest_ext n (λ (m : ℕ). ceil_div (w i * magnitudes m) (margins m)) (λ (m : ℕ). ceil_div (w i * magnitudes' m) (margins' m)) (λ m l. rw (p m l, q m l))
