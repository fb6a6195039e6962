-- Column after column: place i stands for column i / n and row i mod n.
--   first_after — the first place of two parts;  first_no_column, first_column — of no column, and of one column more
--   columns_at, columns_else — what a matrix written column by column, row after row, holds at its places and past them
--   in_square — the column and the row of a place are below n;  columns_whole — what such a matrix holds, place by place
use mathlib.Core.Path.{◌≡◌, refl, sym, ap, subst, ◌∙◌}
use mathlib.Core.Bool.{Bool, false}
use mathlib.Core.List.{List}
use Prim.Native.Nat.{ℕ, zero, suc, ◌+◌, ◌*◌, ◌-◌, ◌/◌, ◌%◌, ◌≤◌, ◌<◌}
use native.Mathlib.Omega.{arith}
use native.Mathlib.Decide.{dec_le, ℕ_discrete}
use native.Mathlib.Nat.{mod-lt, div-lt_iff_lt-mul, div-add-mod'}
use borrow.Author.Tests.{lt-ltb, le-ltb}
use lib.ListN.{length, get_or}
use Rattle.integer.specs.Finite.{first}
use Rattle.integer.proofs.Search.{Searched, found, nowhere, searched, first_none, first_is, first_never, first_ext}
use Rattle.linear.specs.Place.{place_of}
use Rattle.linear.specs.Written.{written}
use Rattle.linear.proofs.Carried.{column_place, carried}
use Rattle.linear.proofs.Places.{place, place_row}
use Rattle.linear.proofs.Written.{written_at, written_else}
use Rattle.check_arrays.specs.Arrays.{PrefixIs, first_from, columns_written}
use Rattle.check_arrays.proofs.Filled.{columns_length}

-- ---- the columns of a matrix, written row after row
same_column : (n i j i' k : ℕ) → j < n → k < n → j + i * n ≡ k + i' * n → j ≡ k
same_column n i j i' k lj lk e =
    let a : i * n + j ≡ i' * n + k = omega arith in
    sym (place_row i j n lj) ∙ ap (λ (x : ℕ). x % n) a ∙ place_row i' k n lk

module _ {A : Type 0} (d : A) (xs : List A) (n : ℕ) (f : ℕ → ℕ → A) where
  pub columns_else : (k p : ℕ) → n * n ≤ p → k ≤ n → get_or (columns_written xs n f k) p d ≡ get_or xs p d
  unfolding columns_written
  columns_else zero p h l = refl
  columns_else (suc k) p h l =
      written_else (columns_written xs n f k) k n (λ (i : ℕ). f i k) d n p (λ i li e. omega (arith, place li (suc_below k n l)))
      ∙ columns_else k p h (omega arith)
    where
      suc_below : (k n : ℕ) → suc k ≤ n → k < n
      suc_below k n l = omega arith

  pub columns_at : (k i j : ℕ) → i < n → j < k → k ≤ n → n * n ≤ length xs → get_or (columns_written xs n f k) (place_of n i j) d ≡ f i j
  unfolding columns_written
  columns_at zero i j li lj l h = absurd (omega arith)
  columns_at (suc k) i j li lj l h = rw (← column_place (carried j n i)) (go (ℕ_discrete j k) (λ m. rw (column_place (carried j n i)) (columns_at k i j li m (omega arith) h)))
    where
      go : Dec (j ≡ k) → (j < k → get_or (columns_written xs n f k) (j + i * n) d ≡ f i j) → get_or (written (columns_written xs n f k) k n (λ (i : ℕ). f i k) n) (j + i * n) d ≡ f i j
      go (yes e) ih =
          rw e (written_at (columns_written xs n f k) k n (λ (i : ℕ). f i k) d n i refl (omega arith) li
          (λ x lx. let m : k < n = omega arith in omega (arith, place lx m, columns_length xs n f k)))
      go (no e) ih =
          written_else (columns_written xs n f k) k n (λ (i : ℕ). f i k) d n (j + i * n) (λ x lx q. e (same_column n i j x k (omega arith) (omega arith) q))
          ∙ ih (omega arith)

pub in_square : (n i : ℕ) → i < n * n → (i / n < n) × (i % n < n)
in_square zero i l = absurd (omega arith)
in_square (suc n) i l = ((div-lt_iff_lt-mul {k = suc n} (omega arith)).1 l, mod-lt i (omega arith))

module _ {A : Type 0} (d : A) (xs : List A) (n : ℕ) (f : ℕ → ℕ → A) where
  pub columns_whole : n * n ≤ length xs → PrefixIs d (columns_written xs n f n) (n * n) (λ (i : ℕ). f (i / n) (i % n))
  columns_whole h = record {
    each = λ i l.
        ap (λ (k : ℕ). get_or (columns_written xs n f n) k d) (sym (div-add-mod' i n))
        ∙ columns_at d xs n f n (i / n) (i % n) (in_square n i l).0 (in_square n i l).1 (omega arith) h;
  }

-- ---- a search column by column
first_after : (m n : ℕ) (f : ℕ → Bool) → first (m + n) f ≡ first_from (first m f) m (first n (λ (k : ℕ). f (m + k)))
first_after m n f = go (searched m f) (searched n (λ (k : ℕ). f (m + k)))
  where
    before : ((k : ℕ) → k < m → f k ≡ false) → (b : ℕ) → ((k : ℕ) → k < b → f (m + k) ≡ false) → (x : ℕ) → x < m + b → f x ≡ false
    before h b g x l = at_place (dec_le m x)
      where
        at_place : Dec (m ≤ x) → f x ≡ false
        at_place (no p) = h x (omega arith)
        at_place (yes p) = let e : m + (x - m) ≡ x = omega arith in subst (λ (y : ℕ). f y ≡ false) e (g (x - m) (omega arith))

    go : Searched m f → Searched n (λ (k : ℕ). f (m + k)) → first (m + n) f ≡ first_from (first m f) m (first n (λ (k : ℕ). f (m + k)))
    go (found i l e p h) s = rw (lt-ltb (first m f) m (omega arith)) (first_is (m + n) f i (omega arith) p h ∙ sym e)
    go (nowhere e h) (found k l g p r) = rw (le-ltb (first m f) m (omega arith), g) (first_is (m + n) f (m + k) (omega arith) p (before h k r))
    go (nowhere e h) (nowhere g r) = rw (le-ltb (first m f) m (omega arith), g) (first_never (m + n) f (before h n r))

pub first_column : (n : ℕ) (f : ℕ → ℕ → Bool) (j : ℕ) →
    first ((j + 1) * n) (λ (i : ℕ). f (i % n) i) ≡ first_from (first (j * n) (λ (i : ℕ). f (i % n) i)) (j * n) (first n (λ (k : ℕ). f k (j * n + k)))
first_column n f j =
    ap (λ (x : ℕ). first x (λ (i : ℕ). f (i % n) i)) (omega arith)
    ∙ first_after (j * n) n (λ (i : ℕ). f (i % n) i)
    ∙ ap (first_from (first (j * n) (λ (i : ℕ). f (i % n) i)) (j * n)) (first_ext n (λ (k : ℕ). f ((j * n + k) % n) (j * n + k)) (λ (k : ℕ). f k (j * n + k)) (λ k l. rw (place_row j k n l)))

pub first_no_column : (n : ℕ) (f : ℕ → Bool) → first (0 * n) f ≡ 0
first_no_column n f = ap (λ (x : ℕ). first x f) (omega arith) ∙ first_none f
