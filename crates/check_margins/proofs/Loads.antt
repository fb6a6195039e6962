-- D in a list, row after row, and what comes of it.
--   residual_defect — where A and G are symmetric, the residual of row k of the inverse's column j is D_jk
--   DefectList — the list begins with D;  residuals_symmetric — so do the residuals, where A and G are symmetric
--   defects_within — its numbers are at most 2^46 in absolute value, as `margins_from` asks;  defect_margins — the margins from it are those of the problem
--   term_magnitude, load_magnitude — a term of a load, and the load of fewer terms than n, are small
use mathlib.Core.Path.{◌≡◌, ap, ap₂, ◌∙◌}
use mathlib.Core.List.{List, []}
use Prim.Native.Nat.{ℕ, ◌+◌, ◌*◌, ◌-◌, ◌/◌, ◌%◌, ◌≤◌, ◌<◌, ◌^◌}
use native.Mathlib.Omega.{arith}
use native.Mathlib.Nat.{mul-le-mul}
use lib.IntN.{ℤ, pos, nat_abs}
use lib.ListN.{length}
use Rattle.integer.specs.Finite.{sumℕ}
use Rattle.integer.proofs.Sum.{sumℕ_ext, sumℕ≤}
use Rattle.linear.specs.Matrix.{product}
use Rattle.linear.specs.Slice.{at}
use Rattle.linear.specs.Reach.{ColumnList, MatrixList}
use Rattle.linear.proofs.Places.{place, place_column, place_row}
use Rattle.enclosure.specs.Problem.{problem_of}
use Rattle.enclosure.specs.Reckoning.{defect, load, residual}
use Rattle.check_arrays.specs.Arrays.{PrefixIs}
use Rattle.check_arrays.specs.Parts.{column_residual, cut_margin}
use Rattle.check_arrays.proofs.Columns.{in_square}
use Rattle.check_arrays.proofs.Filled.{prefix_as}
use Rattle.check_arrays.proofs.Magnitudes.{defect_magnitude}
use Rattle.check_symmetry.specs.Symmetric.{Symmetric}
use Rattle.check_symmetry.proofs.SymmetricMatrix.{matrix_symmetric, difference_symmetric}
use Rattle.check_margins.specs.Load.{load_from}

abbrev pub DefectList : List ℤ → ℕ → ℕ → List ℤ → List ℤ → Type 0
DefectList defects n t matrix inverse = PrefixIs (pos 0) defects (n * n) (λ (i : ℕ). defect (problem_of n 0 t matrix [] [] [] inverse []) (i / n) (i % n))

module _ (n t : ℕ) (matrix inverse : List ℤ) where
  residual_defect : Symmetric matrix n → Symmetric inverse n → (j k : ℕ) → j < n → k < n →
      column_residual n t matrix inverse j k ≡ defect (problem_of n 0 t matrix [] [] [] inverse []) j k
  unfolding residual defect product
  residual_defect a g j k lj lk = difference_symmetric (matrix_symmetric a) (matrix_symmetric g) (pos (2 ^ t)) k j lk lj

  pub residuals_symmetric : {columns : List ℤ} → Symmetric matrix n → Symmetric inverse n →
      PrefixIs (pos 0) columns (n * n) (λ (i : ℕ). column_residual n t matrix inverse (i / n) (i % n)) → DefectList columns n t matrix inverse
  residuals_symmetric a g h =
      prefix_as (pos 0) (λ (i : ℕ). column_residual n t matrix inverse (i / n) (i % n)) (λ (i : ℕ). defect (problem_of n 0 t matrix [] [] [] inverse []) (i / n) (i % n))
      (λ i l. residual_defect a g (i / n) (i % n) (in_square n i l).0 (in_square n i l).1) h

  pub defects_within : {defects : List ℤ} → t ≤ 20 → n ≤ 32 → MatrixList matrix n → MatrixList inverse n → n * n ≤ length defects →
      DefectList defects n t matrix inverse → ColumnList defects (n * n) (2 ^ 46)
  defects_within ht n_max hm hi long h = record {
    long = long;
    within = record { magnitudes = λ i l. rw (h.each i l) (defect_magnitude n t matrix inverse ht n_max hm hi (i / n) (i % n) (in_square n i l).0 (in_square n i l).1) };
  }

  defect_at : {defects : List ℤ} → DefectList defects n t matrix inverse → (m j : ℕ) → m < n → j < n →
      at defects (m * n + j) ≡ defect (problem_of n 0 t matrix [] [] [] inverse []) m j
  defect_at h m j lm lj = h.each (m * n + j) (place lm lj) ∙ ap₂ (defect (problem_of n 0 t matrix [] [] [] inverse [])) (place_column m j n lj) (place_row m j n lj)

  pub defect_margins : {defects : List ℤ} {out : List ℕ} (weights : List ℤ) → DefectList defects n t matrix inverse →
      PrefixIs 0 out n (λ (m : ℕ). 2 ^ t * nat_abs (at weights m) - load_from n defects weights m) → PrefixIs 0 out n (cut_margin (problem_of n 0 t matrix [] [] [] inverse weights))
  unfolding load defect
  defect_margins {defects} weights h =
      prefix_as 0 (λ (m : ℕ). 2 ^ t * nat_abs (at weights m) - load_from n defects weights m) (cut_margin (problem_of n 0 t matrix [] [] [] inverse weights))
      (λ m lm. ap (λ (x : ℕ). 2 ^ t * nat_abs (at weights m) - x) (sumℕ_ext n _ _ (λ j lj. ap (λ (z : ℤ). nat_abs z * nat_abs (at weights j)) (defect_at h m j lm lj))))

-- ---- magnitudes of the terms
module _ {defects weights : List ℤ} {n m : ℕ} (d : ColumnList defects (n * n) (2 ^ 46)) (w : ColumnList weights n 1024) (lm : m < n) where
  term_magnitude : (j : ℕ) → j < n → nat_abs (at defects (m * n + j)) * nat_abs (at weights j) ≤ 2 ^ 56
  term_magnitude j l = mul-le-mul (d.within.magnitudes (m * n + j) (place lm l)) (w.within.magnitudes j l)

  pub load_magnitude : {sum : ℕ} (j : ℕ) → n ≤ 32 → j ≤ n → sum ≡ sumℕ j (λ (k : ℕ). nat_abs (at defects (m * n + k)) * nat_abs (at weights k)) → sum ≤ 2 ^ 62
  load_magnitude j n_max l e =
      omega (arith, e, sumℕ≤ j (2 ^ 56) (λ (k : ℕ). nat_abs (at defects (m * n + k)) * nat_abs (at weights k)) (λ k lk. term_magnitude k (omega arith)))
