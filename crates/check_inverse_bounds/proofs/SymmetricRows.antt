-- Absolute values of p for all columns: what the list of them holds, and that half of them will do where p is symmetric.
--   known_none, known_more — the list has those of no column, and of one column more
--   known_across — where p is symmetric, those before the diagonal of column j are read across the columns before it
--   magnitudes_in — those worked out from a biased row are those of the residuals;  magnitudes_plain — they are the definition's without slack
use mathlib.Core.Path.{◌≡◌, sym, ap, ◌∙◌}
use mathlib.Core.List.{List}
use Prim.Native.Nat.{ℕ, ◌+◌, ◌*◌, ◌-◌, ◌≤◌, ◌<◌}
use native.Mathlib.Omega.{arith}
use native.Mathlib.Nat.{mul-le-mul_right}
use borrow.Author.Count.{below_more}
use lib.IntN.{ℤ, nat_abs}
use lib.ListN.{get_or, length}
use Rattle.linear.specs.Place.{place_of}
use Rattle.linear.specs.Slice.{at}
use Rattle.linear.specs.Written.{written}
use Rattle.linear.proofs.Written.{written_at, written_else}
use Rattle.integer.proofs.Sum.{sumℕ-*}
use Rattle.check_biased_rows.specs.Biased.{BiasedRows, RowOf, unbiased_rows}
use Rattle.enclosure.specs.Reckoning.{magnitudes_with}
use Rattle.check_arrays.specs.Arrays.{PrefixIs}
use Rattle.check_arrays.proofs.Filled.{prefix_as}
use Rattle.check_bounds.specs.Limits.{column_magnitude, inverse_part}
use Rattle.check_bounds.proofs.Column.{image_is}
use Rattle.check_inverse_bounds.specs.SymmetricRows.{magnitude_in, KnownHalf, SymmetricProduct}

module _ {n : ℕ} {rows : List ℕ} (residuals : List ℤ) where
  pub known_none : {list : List ℕ} → KnownHalf list n 0 rows residuals
  known_none = record { each = λ j m l lm. absurd (omega arith) }

  pub magnitudes_plain : (j : ℕ) {out : List ℕ} → BiasedRows rows n → PrefixIs 0 out n (magnitude_in rows residuals n j) →
      PrefixIs 0 out n (magnitudes_with (inverse_part n rows) (λ (k : ℕ). at residuals (j * n + k)) (λ (k : ℕ). 0))
  unfolding magnitudes_with
  magnitudes_plain j h e = prefix_as 0 _ _ (λ m l. omega (arith, sumℕ-* n 0 (λ (k : ℕ). nat_abs (unbiased_rows rows n m k)))) e

  module _ (j : ℕ) {biased : List ℕ} (h : BiasedRows rows n) (r : RowOf biased (0 * (n + 1)) n (λ (k : ℕ). at residuals (j * n + k))) where
    pub magnitudes_in : {out : List ℕ} → PrefixIs 0 out n (λ (m : ℕ). column_magnitude rows biased n m 0) → PrefixIs 0 out n (magnitude_in rows residuals n j)
    magnitudes_in e = prefix_as 0 _ _ (image_is n h r) e

    pub known_across : {list out : List ℕ} → j < n → SymmetricProduct rows residuals n → KnownHalf list n j rows residuals →
        PrefixIs 0 out j (λ (m : ℕ). get_or list (place_of n m j) 0) → PrefixIs 0 out j (λ (m : ℕ). column_magnitude rows biased n m 0)
    known_across lj s k e =
        prefix_as 0 _ _ (λ m l. let lm : m < n = omega arith in k.each m j l (omega arith) lj ∙ sym (ap nat_abs (s.each m j lm lj)) ∙ sym (image_is n h r m lm)) e

    pub known_more : {list after : List ℕ} → j < n → j * n + n ≤ length list → KnownHalf list n j rows residuals →
        after ≡ written list (j * n + j) 1 (λ (i : ℕ). column_magnitude rows biased n (j + i) 0) (n - j) → KnownHalf after n (j + 1) rows residuals
    known_more {list} {after} lj long k e = record { each = λ i m l. all i l m }
      where
        f : ℕ → ℕ
        f i = column_magnitude rows biased n (j + i) 0

        old : (i : ℕ) → i < j → (m : ℕ) → i ≤ m → m < n → get_or after (i * n + m) 0 ≡ magnitude_in rows residuals n i m
        old i l m d lm =
            rw e (written_else list (j * n + j) 1 f 0 (n - j) (i * n + m) (λ x lx q. let b : i + 1 ≤ j = omega arith in omega (arith, mul-le-mul_right n b)) ∙ k.each i m l d lm)

        new : (m : ℕ) → j ≤ m → m < n → get_or after (j * n + m) 0 ≡ magnitude_in rows residuals n j m
        new m d lm =
            let there : j + (m - j) ≡ m = omega arith in
            rw e (written_at list (j * n + j) 1 f 0 (n - j) (m - j) (omega arith) (omega arith) (omega arith) (λ x l. omega arith)) ∙ ap (λ (a : ℕ). column_magnitude rows biased n a 0) there ∙ image_is n h r m lm

        all : (i : ℕ) → i < j + 1 → (m : ℕ) → i ≤ m → m < n → get_or after (i * n + m) 0 ≡ magnitude_in rows residuals n i m
        all = below_more (λ i. (m : ℕ) → i ≤ m → m < n → get_or after (i * n + m) 0 ≡ magnitude_in rows residuals n i m) j old new
