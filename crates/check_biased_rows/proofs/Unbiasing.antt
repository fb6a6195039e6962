-- Biased numbers and the numbers they stand for.
--   biased_is, biased_small, unbiased_biased — x + 2^25 is a natural number, at most 2^26, and stands for x
--   unbiased_below, unbiased_above, unbiased_magnitude — the magnitude of the number that x stands for: 2^25 − x or x − 2^25, at most 2^25
--   row_sum_lem, row_products — a row's sum is at most 2^31, the sum of the products of two rows at most 2^57
--   slice_long, slice_at, slice_small, slice_products — a row without its sum, as a part of its list, and the sum of the products of two
--   row_dot_magnitude, row_dot_shows — the magnitude of a sum of products, and what it is of rows that stand for f and g;  rows_biased — these are biased rows;  row_as — of equal functions
--   rows_themselves — biased rows stand for the matrix that they are unbiased to
--   dot_unbiased, row_dot_is — a sum of products of biased numbers, put right, is that of the numbers that they stand for
use mathlib.Core.List.{List}
use mathlib.Core.Path.{◌≡◌, refl, sym, ap, ◌∙◌}
use Prim.Native.Nat.{ℕ, zero, suc, ◌+◌, ◌*◌, ◌-◌, ◌≤◌, ◌<◌, ◌^◌}
use native.Mathlib.Omega.{arith}
use native.Mathlib.Nat.{mul-le-mul, mul-le-mul_right}
use lib.IntN.{ℤ, pos, nat_abs, ◌+ℤ◌, ◌-ℤ◌, ◌*ℤ◌, +ℤ-neg_ℤ_cancel}
use lib.ListN.{get_or, length}
use Rattle.std.specs.List.{between}
use Rattle.std.proofs.lemmas.List.Edits.{length-between, get_or-between}
use Rattle.integer.specs.Finite.{sum, sumℕ}
use Rattle.integer.proofs.Difference.{is, zz}
use Rattle.integer.proofs.Absolute.{abs-*, abs_difference}
use Rattle.integer.proofs.Sum.{sum_ext, abs_sum≤, sumℕ_ext, sumℕ≤}
use Rattle.check_biased_rows.specs.Biased.{bias, unbiased, Small, BiasedRow, BiasedRows, unbiased_rows, row_dot, RowOf, RowsOf}

module _ (z : ℤ) (h : nat_abs z ≤ 2 ^ 25) where
  pub biased_is : z +ℤ pos 33554432 ≡ pos (nat_abs (z +ℤ pos 33554432))
  biased_is = let k = simp zz at (rw (is z) at h) in rw (is z) (simp zz (omega (arith, k)))

  pub biased_small : nat_abs (z +ℤ pos 33554432) ≤ 2 ^ 26
  biased_small = let k = simp zz at (rw (is z) at h) in rw (is z) (simp zz (omega (arith, k)))

  pub unbiased_biased : unbiased (nat_abs (z +ℤ pos 33554432)) ≡ z
  unfolding unbiased
  unbiased_biased = ap (λ (x : ℤ). x -ℤ pos 33554432) (sym biased_is) ∙ +ℤ-neg_ℤ_cancel z (pos 33554432)

pub row_sum_lem : {xs : List ℕ} {p n : ℕ} → n ≤ 32 → BiasedRow xs p n → get_or xs (p + n) 0 ≤ 2 ^ 31
row_sum_lem {xs} {p} {n} n_max l =
    rw l.total (omega (arith, sumℕ≤ n (2 ^ 26) (λ (k : ℕ). get_or xs (p + k) 0) l.small.each, mul-le-mul_right (2 ^ 26) n_max))

pub row_products : {xs ys : List ℕ} {p q n : ℕ} → n ≤ 32 → Small xs p n → Small ys q n → sumℕ n (λ (k : ℕ). get_or xs (p + k) 0 * get_or ys (q + k) 0) ≤ 2 ^ 57
row_products {xs} {ys} {p} {q} {n} n_max a b =
    omega (
      arith,
      sumℕ≤ n (2 ^ 52) (λ (k : ℕ). get_or xs (p + k) 0 * get_or ys (q + k) 0) (λ k l. mul-le-mul (a.each k l) (b.each k l)),
      mul-le-mul_right (2 ^ 52) n_max,
    )

-- a row without its sum, as a part of its list
module _ {xs : List ℕ} {p n : ℕ} (l : BiasedRow xs p n) where
  pub slice_long : length (between p (p + n) xs) ≡ n
  slice_long = omega (arith, l.inside, length-between xs p (p + n) (omega (arith, l.inside)))

  pub slice_at : (k : ℕ) → k < n → get_or (between p (p + n) xs) k 0 ≡ get_or xs (p + k) 0
  slice_at k h = get_or-between xs p (p + n) k 0 (omega arith)

  pub slice_small : (k : ℕ) → k < length (between p (p + n) xs) → get_or (between p (p + n) xs) k 0 ≤ 2 * bias
  slice_small k h = let h : k < n = omega (arith, slice_long) in rw (slice_at k h) (l.small.each k h)

pub slice_products : {xs ys : List ℕ} {p q n : ℕ} → BiasedRow xs p n → BiasedRow ys q n →
    sumℕ (length (between p (p + n) xs)) (λ (k : ℕ). get_or (between p (p + n) xs) k 0 * get_or (between q (q + n) ys) k 0) ≡ sumℕ n (λ (k : ℕ). get_or xs (p + k) 0 * get_or ys (q + k) 0)
slice_products {n = n} a b = rw (slice_long a) (sumℕ_ext n _ _ (λ k h. rw (slice_at a k h, slice_at b k h) refl))

module _ (c : ℕ) (a b : ℕ → ℕ) where
  dot_unbiased : (n : ℕ) →
      pos (sumℕ n (λ (k : ℕ). a k * b k) + n * (c * c)) -ℤ pos (c * (sumℕ n a + sumℕ n b)) ≡ sum n (λ (k : ℕ). (pos (a k) -ℤ pos c) *ℤ (pos (b k) -ℤ pos c))
  unfolding sum sumℕ
  dot_unbiased zero = simp zz (omega arith)
  dot_unbiased (suc n) = rw (sym (dot_unbiased n)) (simp zz (omega arith))

pub row_dot_is : {xs ys : List ℕ} {p q : ℕ} (n : ℕ) → BiasedRow xs p n → BiasedRow ys q n →
    pos (sumℕ n (λ (k : ℕ). get_or xs (p + k) 0 * get_or ys (q + k) 0) + n * 1125899906842624) -ℤ pos (33554432 * (get_or xs (p + n) 0 + get_or ys (q + n) 0)) ≡ row_dot xs p ys q n
unfolding row_dot unbiased
row_dot_is {xs} {ys} {p} {q} n a b = rw (a.total, b.total) (dot_unbiased 33554432 (λ (k : ℕ). get_or xs (p + k) 0) (λ (k : ℕ). get_or ys (q + k) 0) n)

-- ---- what rows stand for
near_biased : (c x : ℕ) → x ≤ c + c → nat_abs (pos x -ℤ pos c) ≤ c
near_biased c x h = simp zz (omega arith)

pub unbiased_below : (x : ℕ) → x ≤ bias → nat_abs (unbiased x) ≡ bias - x
unfolding unbiased
unbiased_below x h = abs_difference x bias ∙ omega arith

pub unbiased_above : (x : ℕ) → bias ≤ x → nat_abs (unbiased x) ≡ x - bias
unfolding unbiased
unbiased_above x h = abs_difference x bias ∙ omega arith

pub unbiased_magnitude : (x : ℕ) → x ≤ 2 ^ 26 → nat_abs (unbiased x) ≤ 2 ^ 25
unfolding unbiased
unbiased_magnitude x h = near_biased 33554432 x h

pub row_dot_magnitude : {xs ys : List ℕ} {p q n : ℕ} → n ≤ 32 → Small xs p n → Small ys q n → nat_abs (row_dot xs p ys q n) ≤ 2 ^ 55
unfolding row_dot
row_dot_magnitude {xs} {ys} {p} {q} {n} n_max a b =
    omega (
      arith,
      abs_sum≤ n (2 ^ 50) (λ (k : ℕ). unbiased (get_or xs (p + k) 0) *ℤ unbiased (get_or ys (q + k) 0))
          (λ k l. rw (abs-* (unbiased (get_or xs (p + k) 0)) (unbiased (get_or ys (q + k) 0))) (mul-le-mul (unbiased_magnitude _ (a.each k l)) (unbiased_magnitude _ (b.each k l)))),
      mul-le-mul_right (2 ^ 50) n_max,
    )

pub row_dot_shows : {xs ys : List ℕ} {p q : ℕ} (n : ℕ) {f g : ℕ → ℤ} → RowOf xs p n f → RowOf ys q n g → row_dot xs p ys q n ≡ sum n (λ (k : ℕ). f k *ℤ g k)
unfolding row_dot
row_dot_shows n a b = sum_ext n _ _ (λ k l. rw (a.each k l, b.each k l))

pub rows_biased : {xs : List ℕ} {n : ℕ} {f : ℕ → ℕ → ℤ} → RowsOf xs n n f → BiasedRows xs n
rows_biased h = record { each = λ i l. (h.each i l).row }

pub row_as : {xs : List ℕ} {p n : ℕ} {f : ℕ → ℤ} (g : ℕ → ℤ) → ((k : ℕ) → k < n → f k ≡ g k) → RowOf xs p n f → RowOf xs p n g
row_as g e h = record { row = h.row; each = λ k l. h.each k l ∙ e k l }

pub rows_themselves : {xs : List ℕ} {n : ℕ} → BiasedRows xs n → RowsOf xs n n (unbiased_rows xs n)
rows_themselves h = record { each = λ i l. record { row = h.each i l; each = λ k lk. refl } }
