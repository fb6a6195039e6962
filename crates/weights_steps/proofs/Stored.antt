-- What the arrays of a step hold is what the sequence says.
--   magnitudes_at, magnitudes_below — what `defect_magnitudes` gives is |D|, column after column, each at most 2^46
--   below_of  — the weights of a list of the sequence are at most 1,024
--   load_is, good_is, next_is — the sums, the test and the next list;  ones — list 1
use mathlib.Core.Path.{◌≡◌, sym, ap, ap₂, ◌∙◌}
use mathlib.Core.List.{List, []}
use Prim.Native.Nat.{ℕ, ◌+◌, ◌*◌, ◌/◌, ◌%◌, ◌^◌, ◌≤◌, ◌<◌}
use native.Mathlib.Omega.{arith}
use lib.Dec.{eqb, leb}
use lib.IntN.{ℤ, nat_abs}
use lib.ListN.{get_or, replicate, get_or-replicate}
use Rattle.integer.specs.Finite.{first}
use Rattle.integer.proofs.Search.{first_ext, largest_ext}
use Rattle.integer.proofs.Sum.{sumℕ_ext}
use Rattle.linear.specs.Reach.{MatrixList}
use Rattle.linear.proofs.Places.{place, place_column, place_row}
use Rattle.enclosure.specs.Problem.{Problem, T, problem_of}
use Rattle.enclosure.specs.Reckoning.{defect, load, margin_fails}
use Rattle.enclosure.proofs.Margin.{cut_test, margin_test}
use Rattle.check_arrays.specs.Arrays.{PrefixIs}
use Rattle.check_arrays.specs.Parts.{column_residual}
use Rattle.check_arrays.proofs.Columns.{in_square}
use Rattle.check_arrays.proofs.Magnitudes.{residual_exchanged, residual_magnitude}
use Rattle.weights_spec.specs.Sequence.{weighted, loads, bits, next, tried, good}
use Rattle.weights_spec.proofs.Lists.{tried_first, tried_high}
use Rattle.weights_steps.specs.Steps.{Below, stored_load, stored_margin, shifted_next}

-- ---- |D|
module _ (n t : ℕ) (matrix inverse : List ℤ) where
  abbrev P : Problem
  P = problem_of n 0 t matrix [] [] [] inverse []

  module _ (ht : t ≤ 20) (n_max : n ≤ 32) (hm : MatrixList matrix n) (hi : MatrixList inverse n) where
    pub magnitudes_at : {magnitudes : List ℕ} → PrefixIs 0 magnitudes (n * n) (λ (i : ℕ). nat_abs (column_residual n t inverse matrix (i / n) (i % n))) →
        (m j : ℕ) → m < n → j < n → get_or magnitudes (j * n + m) 0 ≡ nat_abs (defect P m j)
    magnitudes_at h m j lm lj = h.each (j * n + m) (place lj lm) ∙ rw (place_column j m n lm, place_row j m n lm) (ap nat_abs (residual_exchanged n t inverse matrix j m))

    pub magnitudes_below : {magnitudes : List ℕ} → PrefixIs 0 magnitudes (n * n) (λ (i : ℕ). nat_abs (column_residual n t inverse matrix (i / n) (i % n))) → Below magnitudes (n * n) (2 ^ 46)
    magnitudes_below h = record { each = λ i l. rw (h.each i l) (residual_magnitude n t inverse matrix ht n_max hi hm (i / n) (i % n) (in_square n i l).0 (in_square n i l).1) }

-- ---- one step of the sequence
pub below_of : {xs : List ℕ} (P : Problem) (k : ℕ) → PrefixIs 0 xs P.n (tried P k) → Below xs P.n 1024
below_of P k h = record { each = λ i l. rw (h.each i l) (tried_high P k i l) }

module _ (P : Problem) (w : ℕ → ℕ) {weights : List ℕ} (hw : PrefixIs 0 weights P.n w) where
  pub load_is : (magnitudes : List ℕ) → ((m j : ℕ) → m < P.n → j < P.n → get_or magnitudes (j * P.n + m) 0 ≡ nat_abs (defect P m j)) →
      (m : ℕ) → m < P.n → stored_load P.n magnitudes weights m ≡ loads P w m
  unfolding load defect
  load_is magnitudes hs m lm = sumℕ_ext P.n _ _ (λ j lj. ap₂ (λ (x y : ℕ). x * y) (hs m j lm lj) (hw.each j lj))

  module _ {sums : List ℕ} (hu : PrefixIs 0 sums P.n (loads P w)) where
    pub good_is : leb P.n (first P.n (λ (m : ℕ). eqb (stored_margin P.t sums weights m) 0)) ≡ good P w
    unfolding good
    good_is =
        ap (leb P.n)
        (first_ext P.n (λ (m : ℕ). eqb (stored_margin P.t sums weights m) 0) (margin_fails (weighted P w))
        (λ m l. rw (hw.each m l, hu.each m l) (cut_test (T P * w m) (loads P w m) ∙ sym (margin_test (weighted P w) m))))

    pub next_is : (i : ℕ) → i < P.n → shifted_next P.n sums i ≡ next P w i
    next_is i l =
        ap₂ (λ (x y : ℕ). x / 2 ^ bits y + 1) (hu.each i l)
        (largest_ext P.n (λ (m : ℕ). get_or sums m 0) (loads P w) (λ m lm. hu.each m lm))

-- ---- the loop of `search`
module _ (P : Problem) where
  pub ones : P.n ≤ 32 → PrefixIs 0 (replicate 32 1) P.n (tried P 0)
  ones n_max = record { each = λ i l. get_or-replicate 32 i 1 0 (omega arith) ∙ sym (tried_first P i) }
