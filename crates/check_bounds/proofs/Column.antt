-- The limits of a column.
--   image_is     — the code's magnitudes are those of G·r;  image_magnitude — they are at most 2^55 whatever is biased
--   plain_magnitudes, slack_magnitudes — the code's magnitudes are the definition's, without slack and with it
--   magnitudes_small — they are at most 2^50
--   slack_near, near_reach, columns_near — slacks and residuals that are near are small; residuals of columns are near
--   slack_sum — a sum of slacks is at most 2^50 a term;  no_slack_sum — where no row has one it is 0
--   written_as, written_prefix — what is written from an array, and to one;  bounds_of_magnitudes, column_more — limits from an array of magnitudes, and one column more of the loop over all
use mathlib.Core.Path.{◌≡◌, refl, sym, ap, ◌∙◌}
use mathlib.Core.List.{List}
use Prim.Native.Nat.{ℕ, ◌+◌, ◌*◌, ◌≤◌, ◌<◌, ◌^◌}
use native.Mathlib.Omega.{arith}
use native.Mathlib.Nat.{mul-le-mul, mul-le-mul_right}
use lib.IntN.{ℤ, nat_abs}
use lib.ListN.{get_or, length, replicate, length-replicate}
use Rattle.integer.specs.Finite.{sumℕ}
use Rattle.integer.proofs.Sum.{sumℕ_ext, sumℕ-*, sumℕ_zero, sumℕ_at, sumℕ≤}
use Rattle.linear.specs.Matrix.{Vec, apply}
use Rattle.linear.specs.Slice.{at}
use Rattle.linear.specs.Reach.{Reach, ColumnList}
use Rattle.linear.specs.Written.{written}
use Rattle.linear.proofs.Places.{place, list_reach}
use Rattle.linear.proofs.Slack.{joint}
use Rattle.linear.proofs.Written.{written_ext, front_at}
use Rattle.check_biased_rows.specs.Biased.{bias, unbiased, BiasedRow, BiasedRows, unbiased_rows, row_dot, RowOf}
use Rattle.check_biased_rows.proofs.Unbiasing.{unbiased_magnitude, row_dot_magnitude, row_dot_shows, rows_themselves}
use Rattle.enclosure.specs.Reckoning.{allowed_residual, magnitudes_with, bound_from}
use Rattle.enclosure.proofs.Bounds.{bound_ext}
use Rattle.check_arrays.specs.Arrays.{PrefixIs, columns_written}
use Rattle.check_arrays.specs.Rows.{InverseRows}
use Rattle.check_arrays.proofs.Filled.{prefix_as, columns_next}
use Rattle.check_ratios.specs.Ratio.{Bounded}
use Rattle.check_bounds.specs.Limits.{inverse_part, Near}

module _ (n : ℕ) {rows residuals : List ℕ} {place : ℕ} {r : Vec} (h : BiasedRows rows n) (s : RowOf residuals place n r) where
  pub image_is : (m : ℕ) → m < n → nat_abs (row_dot rows (m * (n + 1)) residuals place n) ≡ nat_abs (apply n (unbiased_rows rows n) r m)
  unfolding apply
  image_is m l = ap nat_abs (row_dot_shows n ((rows_themselves h).each m l) s)

  pub image_magnitude : {magnitudes : List ℕ} → n ≤ 32 → PrefixIs 0 magnitudes n (λ (m : ℕ). nat_abs (row_dot rows (m * (n + 1)) residuals place n)) →
      (m : ℕ) → m < n → get_or magnitudes m 0 ≤ 2 ^ 55
  image_magnitude n_max b m l = rw (b.each m l) (row_dot_magnitude n_max (h.each m l).small s.row.small)

  pub plain_magnitudes : {magnitudes : List ℕ} → PrefixIs 0 magnitudes n (λ (m : ℕ). nat_abs (row_dot rows (m * (n + 1)) residuals place n)) →
      PrefixIs 0 magnitudes n (magnitudes_with (inverse_part n rows) r (λ (k : ℕ). 0))
  unfolding magnitudes_with
  plain_magnitudes b =
      prefix_as 0 _ _ (λ m l. omega (arith, image_is m l, sumℕ-* n 0 (λ (j : ℕ). nat_abs (unbiased_rows rows n m j)))) b

  pub slack_magnitudes : {magnitudes out : List ℕ} (σ : ℕ → ℕ) → PrefixIs 0 magnitudes n (λ (m : ℕ). nat_abs (row_dot rows (m * (n + 1)) residuals place n)) →
      PrefixIs 0 out n (λ (m : ℕ). get_or magnitudes m 0 + sumℕ n (λ (j : ℕ). nat_abs (unbiased_rows rows n m j) * σ j)) → PrefixIs 0 out n (magnitudes_with (inverse_part n rows) r σ)
  unfolding magnitudes_with
  slack_magnitudes σ a b = prefix_as 0 _ _ (λ m l. rw (a.each m l, image_is m l)) b

pub magnitudes_small : {n : ℕ} {rows : List ℕ} {r : Vec} {σ : ℕ → ℕ} {out : List ℕ} → n ≤ 32 → InverseRows rows n → Near r σ n →
    PrefixIs 0 out n (magnitudes_with (inverse_part n rows) r σ) → Bounded out n
unfolding magnitudes_with
magnitudes_small {n} {rows} {r} {σ} n_max h near b = record {
  most = λ m l. rw (b.each m l)
      (omega (arith, joint n (2 ^ 20) (2 ^ 25) (unbiased_rows rows n) r σ m (λ j lj. h.magnitudes m j l lj) near.each, mul-le-mul_right (2 ^ 45) n_max));
}

pub slack_near : {n : ℕ} {r : Vec} {σ : ℕ → ℕ} → Near r σ n → (k : ℕ) → k < n → σ k ≤ allowed_residual
slack_near near k l = omega (arith, near.each k l)

pub near_reach : {n : ℕ} {residuals : List ℤ} {σ : ℕ → ℕ} → Near (at residuals) σ n → n ≤ length residuals → Reach residuals 0 1 n bias
near_reach near long =
    list_reach (record { long = long; within = record { magnitudes = λ k l. omega (arith, near.each k l) } })

pub columns_near : {n : ℕ} {residuals : List ℤ} (j : ℕ) → j < n → ColumnList residuals (n * n) allowed_residual →
    Near (λ (k : ℕ). at residuals (j * n + k)) (λ (k : ℕ). 0) n
columns_near j l h = record { each = λ k lk. omega (arith, h.within.magnitudes _ (place l lk)) }

pub slack_sum : {rows : List ℕ} (slacks : List ℕ) {row n : ℕ} (j : ℕ) → j ≤ n → BiasedRow rows row n → ((k : ℕ) → k < n → get_or slacks k 0 ≤ allowed_residual) →
    sumℕ j (λ (k : ℕ). nat_abs (unbiased (get_or rows (row + k) 0)) * get_or slacks k 0) ≤ j * 2 ^ 50
slack_sum slacks j l h s = sumℕ≤ j (2 ^ 50) _ (λ k m. mul-le-mul (unbiased_magnitude _ (h.small.each k (omega arith))) (s k (omega arith)))

-- where no row has a slack there is none
pub no_slack_sum : (n : ℕ) (a σ : ℕ → ℕ) → sumℕ n σ ≡ 0 → sumℕ n (λ (j : ℕ). a j * σ j) ≡ 0
no_slack_sum n a σ e = sumℕ_ext n (λ (j : ℕ). a j * σ j) (λ (j : ℕ). 0) (λ j l. let z : σ j ≡ 0 = omega (arith, e, sumℕ_at n σ j l) in rw z (omega arith)) ∙ sumℕ_zero n

-- what is written from an array is what the array begins with
pub written_as : (xs : List ℕ) (p s n : ℕ) (f : ℕ → ℕ) {column after : List ℕ} → PrefixIs 0 column n f → after ≡ written xs p s (λ (i : ℕ). get_or column i 0) n →
    after ≡ written xs p s f n
written_as xs p s n f {column} h a = a ∙ written_ext xs p s (λ (i : ℕ). get_or column i 0) f n h.each

-- an array of zeros that numbers were written to begins with them
pub written_prefix : (n : ℕ) (f : ℕ → ℕ) {column : List ℕ} → n ≤ 32 → column ≡ written (replicate 32 0) 0 1 f n → PrefixIs 0 column n f
written_prefix n f n_max e = record { each = λ i l. ap (λ (xs : List ℕ). get_or xs i 0) e ∙ front_at (replicate 32 0) f 0 n i l (omega (arith, n_max, length-replicate {A = ℕ} 32 0)) }

-- limits from an array of magnitudes are those of the magnitudes that it begins with
pub bounds_of_magnitudes : (xs : List ℕ) (p s n : ℕ) (magnitudes : List ℕ) (f margins w : ℕ → ℕ) {after : List ℕ} → PrefixIs 0 magnitudes n f →
    after ≡ written xs p s (bound_from n (λ (m : ℕ). get_or magnitudes m 0) margins w) n → after ≡ written xs p s (bound_from n f margins w) n
bounds_of_magnitudes xs p s n magnitudes f margins w h a =
    a ∙ written_ext xs p s _ _ n (λ i l. bound_ext n (λ (m : ℕ). get_or magnitudes m 0) margins f margins w i h.each (λ m lm. refl))

-- one column more
pub column_more : (xs : List ℕ) (n : ℕ) (f : ℕ → ℕ → ℕ) (j : ℕ) {now after : List ℕ} → now ≡ columns_written xs n f j →
    after ≡ written now j n (λ (i : ℕ). f i j) n → after ≡ columns_written xs n f (j + 1)
column_more xs n f j e a = a ∙ rw e (sym (columns_next xs n f j))
