-- written_columns — the columns of an n-by-n matrix, written one after the other, are its numbers row after row.
use mathlib.Core.Path.{◌≡◌, sym, ap, ◌∙◌}
use mathlib.Core.List.{List}
use Prim.Native.Nat.{ℕ, ◌*◌, ◌/◌, ◌%◌, ◌≤◌, ◌<◌}
use native.Mathlib.Omega.{arith}
use native.Mathlib.Decide.{dec_le}
use native.Mathlib.Nat.{div-add-mod', mod-lt, div-lt_iff_lt-mul}
use lib.ListN.{length, get_or}
use lib.Seq.{ext_get_or}
use Rattle.linear.specs.Place.{place_of}
use Rattle.linear.specs.Written.{written}
use Rattle.linear.proofs.Written.{front_at, front_else, written_length}
use Rattle.check_arrays.specs.Arrays.{columns_written}
use Rattle.check_arrays.proofs.Columns.{columns_at, columns_else}
use Rattle.check_arrays.proofs.Filled.{columns_length}

pub written_columns : (n : ℕ) (f g : ℕ → ℕ → ℕ) (l : List ℕ) → 0 < n → n * n ≤ length l → ((i j : ℕ) → i < n → j < n → f i j ≡ g i j) →
    columns_written l n f n ≡ written l 0 1 (λ (k : ℕ). g (k / n) (k % n)) (n * n)
written_columns n f g l n_pos long h =
    ext_get_or 0 (columns_written l n f n) (written l 0 1 (λ (k : ℕ). g (k / n) (k % n)) (n * n))
    (columns_length l n f n ∙ sym (written_length l 0 1 (λ (k : ℕ). g (k / n) (k % n)) (n * n))) (λ k m. go k (dec_le (n * n) k))
  where
    go : (k : ℕ) → Dec (n * n ≤ k) → get_or (columns_written l n f n) k 0 ≡ get_or (written l 0 1 (λ (k : ℕ). g (k / n) (k % n)) (n * n)) k 0
    go k (yes p) =
        columns_else 0 l n f n k p (omega arith) ∙ sym (front_else l (λ (k : ℕ). g (k / n) (k % n)) 0 (n * n) k p)
    go k (no p) =
        let i : ℕ = k / n in
        let j : ℕ = k % n in
        let li : i < n = (div-lt_iff_lt-mul n_pos).1 (omega arith) in
        let lj : j < n = mod-lt k n_pos in
        let e : k ≡ place_of n i j = omega (arith, div-add-mod' k n) in
        ap (λ (x : ℕ). get_or (columns_written l n f n) x 0) e
        ∙ columns_at 0 l n f n i j li lj (omega arith) long
        ∙ h i j li lj
        ∙ sym (front_at l (λ (k : ℕ). g (k / n) (k % n)) 0 (n * n) k (omega arith) long)
