-- RowsOf as they are filled.
--   RowPart — k numbers of a row stand from place p on; nothing below p has changed
--   part_none, part_more, part_end — at none, one number more, and with the sum after them;  part_whole — at the end;  part_sum — the sum so far;  part_placed — of a part that was filled on its own
--   row_kept — a row below a place that nothing below changes;  row_below, rows_room, rows_fit — where rows end, and how long a list holds them;  rows_none, rows_more, rows_end — for the loop over rows
use mathlib.Core.List.{List}
use mathlib.Core.Path.{◌≡◌, refl, sym, subst, ◌∙◌}
use Prim.Native.Nat.{ℕ, ◌+◌, ◌*◌, ◌-◌, ◌≤◌, ◌<◌, ◌^◌}
use native.Mathlib.Omega.{arith}
use native.Mathlib.Nat.{mul-le-mul_right, le_antisymm}
use borrow.Author.Count.{below_more}
use lib.IntN.{ℤ}
use lib.ListN.{get_or, length, set, length-set}
use lib.Seq.{get_or-set_same, get_or-set_other}
use Rattle.integer.specs.Finite.{sumℕ}
use Rattle.integer.proofs.Sum.{sumℕ_none, sumℕ_next, sumℕ_ext, sumℕ≤}
use Rattle.std.proofs.Common.{zero-add}
use borrow.Rule.Slice.PartMut.{put_mid}
use Rattle.linear.proofs.Places.{square}
use Rattle.linear.proofs.Slices.{placed_length, placed_at, placed_below}
use Rattle.check_biased_rows.specs.Biased.{unbiased, Small, RowOf, RowsOf, Kept}

pub record RowPart (before out : List ℕ) (p k : ℕ) (f : ℕ → ℤ) (sum : ℕ) : Type 0 where
  pub kept : Kept before out p
  pub small : Small out p k
  pub each : (j : ℕ) → j < k → unbiased (get_or out (p + j) 0) ≡ f j
  pub total : sum ≡ sumℕ k (λ (j : ℕ). get_or out (p + j) 0)

pub part_none : (out : List ℕ) (p : ℕ) (f : ℕ → ℤ) → RowPart out out p 0 f 0
part_none out p f = record {
  kept = record { long = refl; below = λ i l. refl };
  small = record { each = λ k l. absurd (omega arith) };
  each = λ j l. absurd (omega arith);
  total = sym (sumℕ_none _);
}

pub part_whole : {before out : List ℕ} {p i n sum : ℕ} {f : ℕ → ℤ} → i ≤ n → n ≤ i → RowPart before out p i f sum → RowPart before out p n f sum
part_whole {before} {out} {p} {i} {n} {sum} {f} a b h = subst (λ (k : ℕ). RowPart before out p k f sum) (le_antisymm a b) h

pub part_sum : {before out : List ℕ} {p k sum : ℕ} {f : ℕ → ℤ} → k ≤ 32 → RowPart before out p k f sum → sum ≤ 2 ^ 31
part_sum {before} {out} {p} {k} n_max h = omega (arith, h.total, sumℕ≤ k (2 ^ 26) (λ (j : ℕ). get_or out (p + j) 0) h.small.each, mul-le-mul_right (2 ^ 26) n_max)

module _ {before out : List ℕ} {p k sum : ℕ} {f : ℕ → ℤ} (h : RowPart before out p k f sum) (inside : p + k < length out) where
  module _ (x : ℕ) where
    -- what stood before the place that is written
    same : (i : ℕ) → i < p + k → get_or (set out (p + k) x) i 0 ≡ get_or out i 0
    same i l = get_or-set_other out (p + k) i x 0 (omega arith)

    kept_more : Kept before (set out (p + k) x) p
    kept_more = record { long = length-set out (p + k) x ∙ h.kept.long; below = λ i l. same i (omega arith) ∙ h.kept.below i l }

    sum_same : sumℕ k (λ (j : ℕ). get_or (set out (p + k) x) (p + j) 0) ≡ sumℕ k (λ (j : ℕ). get_or out (p + j) 0)
    sum_same = sumℕ_ext k _ _ (λ j l. same (p + j) (omega arith))

    here : get_or (set out (p + k) x) (p + k) 0 ≡ x
    here = get_or-set_same out (p + k) x 0 inside

  more : (x : ℕ) → unbiased x ≡ f k → x ≤ 2 ^ 26 → RowPart before (set out (p + k) x) p (k + 1) f (sum + x)
  more x e s = record {
    kept = kept_more x;
    small = record { each = below_more (λ j. get_or (set out (p + k) x) (p + j) 0 ≤ 2 ^ 26) k (λ j l. rw (same x (p + j) (omega arith)) (h.small.each j l)) (rw (here x) s) };
    each = below_more (λ j. unbiased (get_or (set out (p + k) x) (p + j) 0) ≡ f j) k (λ j l. rw (same x (p + j) (omega arith)) (h.each j l)) (rw (here x) e);
    total = sym (sumℕ_next k _ ∙ rw (sum_same x, here x, h.total));
  }

  pub part_more : {to : ℕ} → to ≡ p + k → (x : ℕ) → unbiased x ≡ f k → x ≤ 2 ^ 26 → RowPart before (set out to x) p (k + 1) f (sum + x)
  part_more e x = rw e (more x)

  end : RowOf (set out (p + k) sum) p k f × Kept before (set out (p + k) sum) p
  end = (
    record {
      row = record {
        inside = rw (length-set out (p + k) sum) inside;
        small = record { each = λ j l. rw (same sum (p + j) (omega arith)) (h.small.each j l) };
        total = here sum ∙ h.total ∙ sym (sum_same sum);
      };
      each = λ j l. rw (same sum (p + j) (omega arith)) (h.each j l);
    },
    kept_more sum,
  )

  pub part_end : {to : ℕ} → to ≡ p + k → RowOf (set out to sum) p k f × Kept before (set out to sum) p
  part_end e = rw e end

-- ---- row after row
row_kept : {xs ys : List ℕ} {p q n : ℕ} {f : ℕ → ℤ} → RowOf xs p n f → p + n < q → Kept xs ys q → RowOf ys p n f
row_kept {xs} {ys} {p} {q} {n} h l k = record {
  row = record {
    inside = omega (arith, k.long, h.row.inside);
    small = record { each = λ i m. rw (k.below (p + i) (omega arith)) (h.row.small.each i m) };
    total = k.below (p + n) l ∙ h.row.total ∙ sumℕ_ext n _ _ (λ i m. sym (k.below (p + i) (omega arith)));
  };
  each = λ i m. rw (k.below (p + i) (omega arith)) (h.each i m);
}

pub row_below : {a i : ℕ} (n : ℕ) → a < i → a * (n + 1) + n < i * (n + 1)
row_below n l = omega (arith, mul-le-mul_right (n + 1) l)

pub rows_room : {i n : ℕ} → i < n → n ≤ 32 → i * (n + 1) + n < 1056
rows_room {i} {n} l n_max = omega (arith, row_below n l, square n_max)

pub rows_fit : {n : ℕ} → n ≤ 32 → n * (n + 1) ≤ 1056
rows_fit n_max = omega (arith, square n_max)

pub rows_none : (xs : List ℕ) (n : ℕ) (f : ℕ → ℕ → ℤ) → RowsOf xs n 0 f
rows_none xs n f = record { each = λ i l. absurd (omega arith) }

pub rows_more : {xs ys : List ℕ} {n i : ℕ} {f : ℕ → ℕ → ℤ} → RowsOf xs n i f → RowOf ys (i * (n + 1)) n (f i) × Kept xs ys (i * (n + 1)) → RowsOf ys n (i + 1) f
rows_more {xs} {ys} {n} {i} {f} h s =
    record { each = below_more (λ a. RowOf ys (a * (n + 1)) n (f a)) i (λ a l. row_kept (h.each a l) (row_below n l) s.1) s.0 }

pub rows_end : {xs : List ℕ} {n i m : ℕ} {f : ℕ → ℕ → ℤ} → i ≤ m → m ≤ i → RowsOf xs n i f → RowsOf xs n m f
rows_end {xs} {n} {i} {m} {f} a b h = subst (λ (k : ℕ). RowsOf xs n k f) (le_antisymm a b) h

-- a row that was filled on its own, in the list whose part it is
pub part_placed : {was before items : List ℕ} {p n sum : ℕ} {f : ℕ → ℤ} → p + n ≤ length before → length items ≡ n → RowPart was items 0 n f sum →
    RowPart before (put_mid p (p + n - p) before items) p n f sum
part_placed {was} {before} {items} {p} {n} room long h = record {
  kept = record { long = placed_length before items p n long room; below = λ i l. placed_below before items p n long room 0 i l };
  small = record { each = λ j l. rw (at j l) (rw (zero-add j) at (h.small.each j l)) };
  each = λ j l. rw (at j l) (rw (zero-add j) at (h.each j l));
  total = h.total ∙ sumℕ_ext n _ _ (λ j l. rw (at j l, zero-add j) refl);
}
  where
    at : (j : ℕ) → j < n → get_or (put_mid p (p + n - p) before items) (p + j) 0 ≡ get_or items j 0
    at j l = placed_at before items p n long room 0 j l
