-- The sums over all rows.
--   cleared — after the first n sums of both halves were cleared
--   sums_none, sums_more, sums_end — at none, with one row more and at the end, for loops
--   ups_small, downs_small, sums_room, total_small, biased_small — the sums, the sum of the factors and 2^25 times it stay small
--   unit_up, unit_down — what adding number m, m of T·I to its sum leaves of the two sums of number j;  unit_small — it stays small
--   sums_less — the two sums with that, put right, are T·I less the sum of the multiples of what the biased numbers stand for
use mathlib.Core.List.{List, ◌++◌}
use Rattle.std.proofs.Common.{replicate, ◌-◌, rules}
use Rattle.std.proofs.lemmas.List.{places, get_or-replicate}
use Rattle.linear.proofs.Slices.{placed_length, placed_at, placed_below}
use borrow.Rule.Slice.PartMut.{put_mid, post_of}
use Rattle.std.specs.List.{between}
use Rattle.std.proofs.lemmas.List.Edits.{length-between}
use mathlib.Core.Path.{◌≡◌, refl, sym, ap, subst, ◌∙◌}
use Prim.Native.Nat.{ℕ, zero, suc, ◌+◌, ◌*◌, ◌≤◌, ◌<◌, ◌^◌}
use native.Mathlib.Omega.{arith}
use native.Mathlib.Nat.{le_refl, mul-le-mul, mul-le-mul_right, le_trans, le_antisymm}
use lib.IntN.{ℤ, pos, nat_abs, ◌+ℤ◌, ◌-ℤ◌, ◌*ℤ◌}
use lib.ListN.{get_or, length, set}
use lib.Seq.{get_or-set_same, get_or-set_other}
use native.Mathlib.Decide.{ℕ_discrete}
use Rattle.integer.specs.SignedParts.{pos_part, neg_part}
use Rattle.integer.specs.Finite.{sum, sumℕ}
use Rattle.integer.proofs.Difference.{is, zz}
use Rattle.integer.proofs.Absolute.{abs-*, abs-+}
use Rattle.integer.proofs.Sum.{sumℕ_none, sumℕ_next, sumℕ≤, abs_sum≤}
use Rattle.check_biased_rows.specs.Biased.{bias, unbiased, unbiased_rows}
use Rattle.check_biased_rows.specs.Place.{biased_place}
use Rattle.linear.specs.Matrix.{identity}
use Rattle.check_arrays.proofs.Magnitudes.{unit_magnitude, unit_same, unit_other}
use Rattle.check_defects.proofs.Halves.{signs, up_magnitude, down_magnitude}
use Rattle.check_defects.specs.Sums.{NoSums, SmallSums, Added, SumsOf}

-- ---- clearing the sums
module _ (sums first rest : List ℕ) (n : ℕ) (n_max : n ≤ 32) (long : length sums ≡ 64) (a : first ≡ replicate n 0) where
  once_length : length (first ++ post_of 0 n sums) ≡ 64
  once_length = rw a (search (rules, places))

  once_cleared : (j : ℕ) → j < n → get_or (first ++ post_of 0 n sums) j 0 ≡ 0
  once_cleared j l = rw a (search (rules, places))

  pub other_length : length (between 32 (32 + n) (first ++ post_of 0 n sums)) ≡ n
  other_length = length-between (first ++ post_of 0 n sums) 32 (32 + n) (omega (arith, once_length)) ∙ omega arith

  pub cleared : rest ≡ replicate n 0 → NoSums (put_mid 32 (32 + n - 32) (first ++ post_of 0 n sums) rest) n
  cleared b =
      let same : length rest ≡ n = rw b (search (rules, places)) in
      let room : 32 + n ≤ length (first ++ post_of 0 n sums) = omega (arith, once_length) in
      record {
        long = placed_length _ rest 32 n same room ∙ once_length;
        ups = λ j l. placed_below _ rest 32 n same room 0 j (omega arith) ∙ once_cleared j l;
        downs = λ j l. placed_at _ rest 32 n same room 0 j l ∙ rw b (get_or-replicate n j 0 0 l);
      }

-- ---- row after row

module _ (n : ℕ) (xs : ℕ → ℤ) (rows : ℕ → ℕ → ℕ) where
  pub sums_none : {sums : List ℕ} → NoSums sums n → SumsOf sums n 0 xs rows
  sums_none h = record { ups = λ j l. h.ups j l ∙ sym (sumℕ_none _); downs = λ j l. h.downs j l ∙ sym (sumℕ_none _) }

  pub sums_more : {sums after : List ℕ} {x : ℤ} {row : ℕ → ℕ} (k : ℕ) → SumsOf sums n k xs rows → x ≡ xs k → ((j : ℕ) → row j ≡ rows k j) →
      Added sums after n x row → SumsOf after n (k + 1) xs rows
  sums_more k h e r a = record {
    ups = λ j l. a.ups j l ∙ rw (h.ups j l, e, r j) (sym (sumℕ_next k _));
    downs = λ j l. a.downs j l ∙ rw (h.downs j l, e, r j) (sym (sumℕ_next k _));
  }

  pub sums_end : {sums : List ℕ} {k m : ℕ} → k ≤ m → m ≤ k → SumsOf sums n k xs rows → SumsOf sums n m xs rows
  sums_end {sums} a b h = subst (λ (k : ℕ). SumsOf sums n k xs rows) (le_antisymm a b) h

  module _ {sums : List ℕ} {k : ℕ} (n_max : k ≤ 32) (small : (i : ℕ) → i < k → nat_abs (xs i) ≤ 2 ^ 20) (low : (i j : ℕ) → i < k → j < n → rows i j ≤ 2 ^ 26) (h : SumsOf sums n k xs rows) where
    pub ups_small : (j : ℕ) → j < n → get_or sums j 0 ≤ 2 ^ 51
    ups_small j l =
        rw (h.ups j l)
        (omega (
          arith,
          sumℕ≤ k (2 ^ 46) (λ (i : ℕ). pos_part (xs i) * rows i j) (λ i li. mul-le-mul (le_trans (up_magnitude (xs i)) (small i li)) (low i j li l)),
          mul-le-mul_right (2 ^ 46) n_max,
        ))

    pub downs_small : (j : ℕ) → j < n → get_or sums (32 + j) 0 ≤ 2 ^ 51
    downs_small j l =
        rw (h.downs j l)
        (omega (
          arith,
          sumℕ≤ k (2 ^ 46) (λ (i : ℕ). neg_part (xs i) * rows i j) (λ i li. mul-le-mul (le_trans (down_magnitude (xs i)) (small i li)) (low i j li l)),
          mul-le-mul_right (2 ^ 46) n_max,
        ))

    pub sums_room : SmallSums sums 0 n × SmallSums sums 32 n
    sums_room = (record { each = λ j l. let e : 0 + j ≡ j = omega arith in rw e (omega (arith, ups_small j l)) }, record { each = λ j l. omega (arith, downs_small j l) })

pub total_small : {k : ℕ} (xs : ℕ → ℤ) → k ≤ 32 → ((i : ℕ) → i < k → nat_abs (xs i) ≤ 2 ^ 20) → nat_abs (sum k xs) ≤ 2 ^ 25
total_small {k} xs n_max small = omega (arith, abs_sum≤ k (2 ^ 20) xs small, mul-le-mul_right (2 ^ 20) n_max)

pub biased_small : {n : ℕ} (xs : ℕ → ℤ) → n ≤ 32 → ((i : ℕ) → i < n → nat_abs (xs i) ≤ 2 ^ 20) → nat_abs (pos bias *ℤ sum n xs) ≤ 2 ^ 50
biased_small {n} xs n_max small = rw (abs-* (pos bias) (sum n xs)) (mul-le-mul (le_refl bias) (total_small xs n_max small))

-- ---- what the sums stand for
one_term_more : (c u d g a b : ℕ) (s : ℤ) →
    pos a -ℤ pos b -ℤ pos c *ℤ s +ℤ (pos u -ℤ pos d) *ℤ (pos g -ℤ pos c) ≡ pos (a + u * g) -ℤ pos (b + d * g) -ℤ pos c *ℤ (s +ℤ (pos u -ℤ pos d))
one_term_more c u d g a b s = rw (is s) (simp zz (omega arith))

sums_unbiased : (c : ℕ) (xs : ℕ → ℤ) (g : ℕ → ℕ) (n : ℕ) →
    sum n (λ (k : ℕ). xs k *ℤ (pos (g k) -ℤ pos c)) ≡ pos (sumℕ n (λ (k : ℕ). pos_part (xs k) * g k)) -ℤ pos (sumℕ n (λ (k : ℕ). neg_part (xs k) * g k)) -ℤ pos c *ℤ sum n xs
unfolding sum sumℕ
sums_unbiased c xs g zero = simp zz (omega arith)
sums_unbiased c xs g (suc n) =
    rw (sums_unbiased c xs g n)
    (ap (λ (z : ℤ). pos (sumℕ n (λ (k : ℕ). pos_part (xs k) * g k)) -ℤ pos (sumℕ n (λ (k : ℕ). neg_part (xs k) * g k)) -ℤ pos c *ℤ sum n xs +ℤ z *ℤ (pos (g n) -ℤ pos c)) (signs (xs n))
    ∙ one_term_more c (pos_part (xs n)) (neg_part (xs n)) (g n) _ _ (sum n xs)
    ∙ ap (λ (z : ℤ). pos (sumℕ n (λ (k : ℕ). pos_part (xs k) * g k) + pos_part (xs n) * g n) -ℤ pos (sumℕ n (λ (k : ℕ). neg_part (xs k) * g k) + neg_part (xs n) * g n) -ℤ pos c *ℤ (sum n xs +ℤ z)) (sym (signs (xs n))))

put_right : (u v : ℤ) (a b : ℕ) → v +ℤ (pos b +ℤ u) -ℤ pos a ≡ u -ℤ (pos a -ℤ pos b -ℤ v)
put_right u v a b = rw (is u, is v) (simp zz (omega arith))

module _ (sums : List ℕ) (t m : ℕ) where
  abbrev with_unit : List ℕ
  with_unit = set sums (32 + m) (get_or sums (32 + m) 0 + 2 ^ t)

  pub unit_up : (j : ℕ) → j < 32 → get_or with_unit j 0 ≡ get_or sums j 0
  unit_up j l = get_or-set_other sums (32 + m) j _ 0 (omega arith)

  pub unit_down : (j : ℕ) → length sums ≡ 64 → m < 32 → pos (get_or with_unit (32 + j) 0) ≡ pos (get_or sums (32 + j) 0) +ℤ pos (2 ^ t) *ℤ identity m j
  unit_down j long l = go (ℕ_discrete m j)
    where
      go : Dec (m ≡ j) → pos (get_or with_unit (32 + j) 0) ≡ pos (get_or sums (32 + j) 0) +ℤ pos (2 ^ t) *ℤ identity m j
      go (yes p) =
          rw (sym p, get_or-set_same sums (32 + m) (get_or sums (32 + m) 0 + 2 ^ t) 0 (omega arith), sym (unit_same (2 ^ t) m m refl)) (simp zz (omega arith))
      go (no p) =
          rw (get_or-set_other sums (32 + m) (32 + j) (get_or sums (32 + m) 0 + 2 ^ t) 0 (omega (arith, p)), sym (unit_other (2 ^ t) m j p)) (simp zz (omega arith))

  pub unit_small : (j : ℕ) → length sums ≡ 64 → t ≤ 20 → m < 32 → get_or sums (32 + j) 0 ≤ 2 ^ 51 → get_or with_unit (32 + j) 0 ≤ 2 ^ 52
  unit_small j long n_max l low =
      omega (
        arith,
        ap nat_abs (unit_down j long l),
        abs-+ (pos (get_or sums (32 + j) 0)) (pos (2 ^ t) *ℤ identity m j),
        unit_magnitude t m j n_max,
      )

pub sums_less : {sums after : List ℕ} (rows : List ℕ) (n : ℕ) (xs : ℕ → ℤ) (t m : ℕ) → n ≤ 32 → length sums ≡ 64 → m < 32 →
    SumsOf sums n n xs (λ (k j : ℕ). get_or rows (biased_place n k j) 0) → after ≡ set sums (32 + m) (get_or sums (32 + m) 0 + 2 ^ t) → (j : ℕ) → j < n →
    pos bias *ℤ sum n xs +ℤ pos (get_or after (32 + j) 0) -ℤ pos (get_or after j 0) ≡ pos (2 ^ t) *ℤ identity m j -ℤ sum n (λ (k : ℕ). xs k *ℤ unbiased_rows rows n k j)
unfolding unbiased
sums_less {sums} rows n xs t m n_max long lm h e j l =
    rw (e, unit_down sums t m j long lm, unit_up sums t m j (omega arith), h.ups j l, h.downs j l, sums_unbiased bias xs (λ (k : ℕ). get_or rows (biased_place n k j) 0) n)
    (put_right (pos (2 ^ t) *ℤ identity m j) (pos bias *ℤ sum n xs) _ _)
