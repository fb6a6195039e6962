-- The filled-out matrix.
--   rows_none, rows_next, rows_end — its first rows at none, one row more, and at the end, for the loop
--   filled_inside, filled_outside — n in its range, and out of it
--   filled_length — 1,024 numbers
--   filled_at_lem  — row i and column j stand at i·n + j, and are the half's number at their place;  filled_past — 0 past n·n
--   filled_symmetric — the filled-out matrix is symmetric
--   filled_same — only the first n·(n + 1)/2 numbers of the half are read
use mathlib.Core.Path.{◌≡◌, refl, sym, ap, ◌∙◌}
use mathlib.Core.Bool.{Bool, true, false, cond}
use mathlib.Core.List.{List}
use Prim.Native.Nat.{ℕ, zero, suc, ◌+◌, ◌*◌, ◌/◌, ◌%◌, ◌≤◌, ◌<◌}
use native.Mathlib.Omega.{arith}
use native.Mathlib.Nat.{mod-lt, div-lt_iff_lt-mul, le_antisymm}
use lib.IntN.{ℤ, pos}
use lib.ListN.{length, replicate, length-replicate, get_or-replicate}
use Rattle.linear.specs.Slice.{at, matrix_of}
use Rattle.linear.specs.Written.{written}
use Rattle.rules.specs.Range.{in_range}
use Rattle.rules.specs.declared.Kind.TheVariants as kind
use Rattle.rules.proofs.Ranges.{in_size_range}
use Rattle.linear.proofs.Places.{place, square, place_column, place_row}
use Rattle.linear.proofs.Written.{written_none, written_more, written_length, written_ext, front_at, front_else}
use Rattle.half_fill.specs.Half.{half_place, half_count, filled_rows, filled_out}
use Rattle.half_fill.proofs.Places.{some_row, place_swap, place_below}

written_row : {A : Type 0} (xs : List A) (f g : ℕ → A) (p n : ℕ) → ((k : ℕ) → k < n → g k ≡ f (p + k)) → written (written xs 0 1 f p) p 1 g n ≡ written xs 0 1 f (p + n)
unfolding written
written_row xs f g p zero h = let e : p + 0 ≡ p = omega arith in rw e
written_row xs f g p (suc n) h =
    let e : p + n + 1 ≡ p + suc n = omega arith in
    written_more xs 0 1 f (p + n) (written_row xs f g p n (λ k l. h k (omega arith))) (omega arith) (h n (omega arith)) ∙ ap (written xs 0 1 f) e

abbrev zero_entries : List ℤ
zero_entries = replicate 1024 (pos 0)

module _ (n : ℕ) (half : List ℤ) where
  abbrev number_at : ℕ → ℤ
  number_at k = at half (half_place (k / n) (k % n))

  number_is : (i j : ℕ) → j < n → at half (half_place i j) ≡ number_at (i * n + j)
  number_is i j l = rw (place_column i j n l, place_row i j n l)

  pub rows_none : filled_rows n half 0 ≡ zero_entries
  rows_none = let e : 0 * n ≡ 0 = omega arith in ap (written zero_entries 0 1 number_at) e ∙ written_none zero_entries 0 1 number_at

  pub rows_next : {xs : List ℤ} (i : ℕ) → xs ≡ filled_rows n half i → written xs (i * n) 1 (λ (j : ℕ). at half (half_place i j)) n ≡ filled_rows n half (i + 1)
  rows_next i e =
      let more : i * n + n ≡ (i + 1) * n = omega arith in
      ap (λ (ys : List ℤ). written ys (i * n) 1 (λ (j : ℕ). at half (half_place i j)) n) e
      ∙ written_row zero_entries number_at (λ (j : ℕ). at half (half_place i j)) (i * n) n (number_is i)
      ∙ ap (written zero_entries 0 1 number_at) more

  pub rows_end : {i : ℕ} → i ≤ n → n ≤ i → filled_rows n half i ≡ filled_rows n half n
  rows_end l h = ap (filled_rows n half) (le_antisymm l h)

  pub filled_inside : in_range kind.Size (pos n) ≡ true → filled_out n half ≡ filled_rows n half n
  unfolding filled_out
  filled_inside e = rw e

  pub filled_outside : in_range kind.Size (pos n) ≡ false → filled_out n half ≡ zero_entries
  unfolding filled_out
  filled_outside e = rw e

  pub filled_length : length (filled_out n half) ≡ 1024
  filled_length = go (in_range kind.Size (pos n)) refl
    where
      go : (b : Bool) → in_range kind.Size (pos n) ≡ b → length (filled_out n half) ≡ 1024
      go true e = rw (filled_inside e) (written_length zero_entries 0 1 number_at (n * n) ∙ length-replicate 1024 (pos 0))
      go false e = rw (filled_outside e) (length-replicate 1024 (pos 0))

  pub filled_at_lem : n ≤ 32 → (i j : ℕ) → i < n → j < n → matrix_of (filled_out n half) n i j ≡ at half (half_place i j)
  filled_at_lem n_max i j li lj =
      ap (λ (A : List ℤ). at A (i * n + j)) (filled_inside (in_size_range n (omega arith) n_max))
      ∙ front_at zero_entries number_at (pos 0) (n * n) (i * n + j) (place li lj) (omega (arith, square n_max, length-replicate 1024 (pos 0)))
      ∙ sym (number_is i j lj)

  pub filled_past : (k : ℕ) → n * n ≤ k → k < 1024 → at (filled_out n half) k ≡ pos 0
  filled_past k l h = go (in_range kind.Size (pos n)) refl
    where
      go : (b : Bool) → in_range kind.Size (pos n) ≡ b → at (filled_out n half) k ≡ pos 0
      go true e = rw (filled_inside e) (front_else zero_entries number_at (pos 0) (n * n) k l ∙ get_or-replicate 1024 k (pos 0) (pos 0) h)
      go false e = rw (filled_outside e) (get_or-replicate 1024 k (pos 0) (pos 0) h)

  pub filled_symmetric : n ≤ 32 → (i j : ℕ) → i < n → j < n → matrix_of (filled_out n half) n i j ≡ matrix_of (filled_out n half) n j i
  filled_symmetric n_max i j li lj = filled_at_lem n_max i j li lj ∙ ap (at half) (place_swap i j) ∙ sym (filled_at_lem n_max j i lj li)

pub filled_same : (n : ℕ) (half other : List ℤ) → ((k : ℕ) → k < half_count n → at half k ≡ at other k) → filled_out n half ≡ filled_out n other
unfolding filled_out
filled_same n half other h =
    ap (λ (A : List ℤ). cond (in_range kind.Size (pos n)) A zero_entries)
    (written_ext zero_entries 0 1 (number_at n half) (number_at n other) (n * n)
    (λ k l. h (half_place (k / n) (k % n)) (place_below ((div-lt_iff_lt-mul (some_row l)).1 l) (mod-lt k (some_row l)))))
