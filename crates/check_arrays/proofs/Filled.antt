-- Laws of what arrays hold, and of columns written into them.
--   prefix_none, prefix_more, prefix_end — at none, one element more, and at the end, for loops;  prefix_as — of equal functions
--   columns_none, columns_next, columns_end, columns_length — at none, one column more, at the end, and the length, for loops
use mathlib.Core.Path.{◌≡◌, refl, ap, ◌∙◌, subst}
use mathlib.Core.List.{List}
use Prim.Native.Nat.{ℕ, zero, suc, ◌+◌, ◌≤◌, ◌<◌}
use native.Mathlib.Omega.{arith}
use native.Mathlib.Nat.{le_antisymm}
use native.Mathlib.Numerals.{add-one}
use lib.ListN.{length, get_or, set}
use lib.Seq.{get_or-set_same, get_or-set_other}
use borrow.Author.Count.{below_more}
use Rattle.linear.specs.Written.{written}
use Rattle.linear.proofs.Written.{written_length}
use Rattle.check_arrays.specs.Arrays.{PrefixIs, columns_written}

module _ {A : Type 0} (d : A) where
  pub prefix_none : (xs : List A) (f : ℕ → A) → PrefixIs d xs 0 f
  prefix_none xs f = record { each = λ i l. absurd (omega arith) }

  pub prefix_more : (xs : List A) (n : ℕ) (f : ℕ → A) (v : A) → PrefixIs d xs n f → n < length xs → v ≡ f n → PrefixIs d (set xs n v) (n + 1) f
  prefix_more xs n f v h l e = record {
    each = below_more (λ i. get_or (set xs n v) i d ≡ f i) n (λ k p. get_or-set_other xs n k v d (omega arith) ∙ h.each k p) (get_or-set_same xs n v d l ∙ e);
  }

  pub prefix_end : {xs : List A} {i n : ℕ} {f : ℕ → A} → i ≤ n → n ≤ i → PrefixIs d xs i f → PrefixIs d xs n f
  prefix_end {xs} {i} {n} {f} p q h = subst (λ (k : ℕ). PrefixIs d xs k f) (le_antisymm p q) h

  pub prefix_as : {xs : List A} {n : ℕ} (f g : ℕ → A) → ((i : ℕ) → i < n → f i ≡ g i) → PrefixIs d xs n f → PrefixIs d xs n g
  prefix_as f g e h = record { each = λ i l. h.each i l ∙ e i l }

module _ {A : Type 0} (xs : List A) (n : ℕ) (f : ℕ → ℕ → A) where
  pub columns_none : columns_written xs n f 0 ≡ xs
  unfolding columns_written
  columns_none = refl

  pub columns_next : (k : ℕ) → columns_written xs n f (k + 1) ≡ written (columns_written xs n f k) k n (λ (i : ℕ). f i k) n
  unfolding columns_written
  columns_next k = rw add-one

  pub columns_end : {i k : ℕ} → i ≤ k → k ≤ i → columns_written xs n f i ≡ columns_written xs n f k
  columns_end h k = ap (columns_written xs n f) (le_antisymm h k)

  pub columns_length : (k : ℕ) → length (columns_written xs n f k) ≡ length xs
  unfolding columns_written
  columns_length zero = refl
  columns_length (suc k) = written_length (columns_written xs n f k) k n (λ (i : ℕ). f i k) n ∙ columns_length k
