-- Theorems (a), (c), (d) and (e) on the equations of a list that builds.
--   diagonal  — (a) the diagonal summed, plus the weights of the distinct lines at the fixed mark, is twice the weight of all distinct lines
--   symmetric — (c) A_ij = A_ji
--   weight_at_magnitude, gain_magnitude — the magnitudes of what one line adds
--   matrix_magnitude, right_magnitude — (d) A is at most 2 ^ 14 in absolute value, b at most 2 ^ 30
--   matrix_in_range, right_in_range — so both are in the ranges of a check
--   heights_solve — (e) heights that fit every line solve the equations: A·h = q·b
use mathlib.Core.Path.{◌≡◌, refl, sym, ap, ◌∙◌}
use mathlib.Core.Bool.{Bool, true, false, cond, ◌&&◌, ◌||◌}
use mathlib.Core.List.{List, []}
use Prim.Native.Nat.{ℕ, ◌+◌, ◌*◌, ◌≤◌, ◌<◌, ◌^◌}
use native.Mathlib.Nat.{mul-le-mul, mul-le-mul_right}
use native.Mathlib.Omega.{arith}
use borrow.Author.Tests.{eqb-true, eqb-false, ne_eqb}
use lib.Dec.{eqb}
use lib.IntN.{ℤ, pos, neg_ℤ, nat_abs, ◌+ℤ◌, ◌-ℤ◌, ◌*ℤ◌, +ℤ_invr}
use lib.ListN.{length}
use Rattle.integer.specs.Finite.{sum}
use Rattle.integer.proofs.Absolute.{abs_neg, abs_sub, abs-*}
use Rattle.integer.proofs.Ring.{+-*, one-*}
use Rattle.integer.proofs.Sum.{sum_ext}
use Rattle.linear.specs.Matrix.{apply}
use Rattle.rules.specs.Range.{in_range}
use Rattle.rules.specs.declared.Kind.TheVariants as kind
use Rattle.rules.proofs.Ranges.{in_matrix_range, in_right_range}
use Rattle.build_lines.specs.declared.Observation.{Observation}
use Rattle.build_lines.specs.Distinct.{distinct, total, when, touches, joins, weight_at, gain, built_matrix, built_right}
use Rattle.build_lines.specs.Heights.{unknowns, FitAll, fixed_weight, all_weight}
use Rattle.integer.specs.Among.{Among}
use Rattle.build_lines.specs.Stated.{Passes, Buildable}
use Rattle.build_lines.proofs.Totals.{distinct_among, distinct_length, total_ext, total-+, total-*, total-*r, total_swap, abs_total}
use Rattle.build_lines.proofs.Marks.{InsideLine, inside_line, line_diagonal}
use Rattle.build_lines.proofs.Rows.{line_row}

twice_sum : (z : ℤ) → z +ℤ z ≡ pos 2 *ℤ z
twice_sum z = sym (+-* (pos 1) (pos 1) z ∙ rw (one-* z))

module _ (n : ℕ) (ls : List Observation) (fit : Buildable n ls) where
  abbrev ds : List Observation
  ds = distinct ls

  good : (l : Observation) → Among l ds → Passes n l
  good l i = fit.good l (distinct_among [] ls l i)

  pub diagonal : sum n (λ (i : ℕ). built_matrix ls i i) +ℤ fixed_weight ls ≡ pos 2 *ℤ all_weight ls
  diagonal =
      let w : Observation → ℤ = λ (l : Observation). pos l.weight in
      let fixed : Observation → ℤ = λ (l : Observation). when (touches 0 l) (pos l.weight) in
      let rows : Observation → ℤ = λ (l : Observation). sum n (λ (i : ℕ). weight_at (i + 1) (i + 1) l) in
      ap (λ (z : ℤ). z +ℤ fixed_weight ls) (total_swap n (λ (i : ℕ). weight_at (i + 1) (i + 1)) ds) ∙ sym (total-+ rows fixed ds)
      ∙ total_ext (λ (l : Observation). rows l +ℤ fixed l) (λ (l : Observation). w l +ℤ w l) ds (λ l i. line_diagonal n l (good l i))
      ∙ total-+ w w ds ∙ twice_sum (total w ds)

  pub heights_solve : (q : ℕ) (h : ℕ → ℤ) → FitAll ls q h → (i : ℕ) → i < n → apply n (built_matrix ls) (unknowns h) i ≡ pos q *ℤ built_right ls i
  unfolding apply
  heights_solve q h f i p =
      let term : ℕ → Observation → ℤ = λ (j : ℕ) (l : Observation). weight_at (i + 1) (j + 1) l *ℤ h (j + 1) in
      sum_ext n (λ (j : ℕ). built_matrix ls i j *ℤ h (j + 1)) (λ (j : ℕ). total (term j) ds) (λ j r. sym (total-*r (h (j + 1)) (weight_at (i + 1) (j + 1)) ds))
      ∙ total_swap n term ds
      ∙ total_ext (λ (l : Observation). sum n (λ (j : ℕ). term j l)) (λ (l : Observation). pos q *ℤ gain (i + 1) l) ds
      (λ l k. line_row n l q h (i + 1) (good l k) (omega arith) f.fixed (f.fits l (distinct_among [] ls l k)))
      ∙ total-* (pos q) (gain (i + 1)) ds

-- ---- magnitudes
when_magnitude : (b : Bool) (z : ℤ) → nat_abs (when b z) ≤ nat_abs z
when_magnitude true z = omega arith
when_magnitude false z = omega arith

pub weight_at_magnitude : (k m : ℕ) (l : Observation) → nat_abs (weight_at k m l) ≤ l.weight
unfolding weight_at
weight_at_magnitude k m l = go (eqb k m) (when_magnitude (touches k l) (pos l.weight)) (when_magnitude (joins k m l) (neg_ℤ (pos l.weight)))
  where
    go : (b : Bool) → nat_abs (when (touches k l) (pos l.weight)) ≤ l.weight → nat_abs (when (joins k m l) (neg_ℤ (pos l.weight))) ≤ nat_abs (neg_ℤ (pos l.weight)) →
        nat_abs (cond b (when (touches k l) (pos l.weight)) (when (joins k m l) (neg_ℤ (pos l.weight)))) ≤ l.weight
    go true p q = p
    go false p q = omega (arith, q, abs_neg (pos l.weight))

pub gain_magnitude : (k : ℕ) (l : Observation) → nat_abs (gain k l) ≤ l.weight * nat_abs l.difference
unfolding gain
gain_magnitude k l = go (eqb l.to k) (eqb l.«from» k) (pos l.weight *ℤ l.difference) (abs-* (pos l.weight) l.difference)
  where
    go : (a b : Bool) (z : ℤ) → nat_abs z ≡ l.weight * nat_abs l.difference → nat_abs (when a z -ℤ when b z) ≤ l.weight * nat_abs l.difference
    go true true z e = rw (+ℤ_invr z) (omega arith)
    go true false z e = omega (arith, abs_sub z (pos 0), e)
    go false true z e = omega (arith, abs_sub (pos 0) z, e)
    go false false z e = omega arith

module _ (n : ℕ) (ls : List Observation) (fit : Buildable n ls) (count_max : length ls ≤ 256) where
  each_inside : (l : Observation) → Among l (distinct ls) → InsideLine n l
  each_inside l i = inside_line n l (fit.good l (distinct_among [] ls l i)).inside

  pub matrix_magnitude : (i j : ℕ) → nat_abs (built_matrix ls i j) ≤ 2 ^ 14
  matrix_magnitude i j =
      omega (
        arith,
        abs_total 64 (weight_at (i + 1) (j + 1)) (distinct ls) (λ l k. omega (arith, weight_at_magnitude (i + 1) (j + 1) l, (each_inside l k).weight)),
        mul-le-mul_right 64 (distinct_length [] ls),
        mul-le-mul_right 64 count_max,
      )

  pub right_magnitude : (i : ℕ) → nat_abs (built_right ls i) ≤ 2 ^ 30
  right_magnitude i =
      omega (
        arith,
        abs_total (2 ^ 22) (gain (i + 1)) (distinct ls) (λ l k. omega (arith, gain_magnitude (i + 1) l, mul-le-mul (each_inside l k).weight (each_inside l k).difference)),
        mul-le-mul_right (2 ^ 22) (distinct_length [] ls),
        mul-le-mul_right (2 ^ 22) count_max,
      )

  pub matrix_in_range : (i j : ℕ) → in_range kind.Matrix (built_matrix ls i j) ≡ true
  matrix_in_range i j = in_matrix_range (built_matrix ls i j) (omega (arith, matrix_magnitude i j))

  pub right_in_range : (i : ℕ) → in_range kind.Right (built_right ls i) ≡ true
  right_in_range i = in_right_range (built_right ls i) (right_magnitude i)

-- ---- the matrix is symmetric
weight_at_turned : (k m : ℕ) (l : Observation) → weight_at k m l ≡ weight_at m k l
unfolding weight_at
weight_at_turned k m l = go (eqb k m) refl
  where
    or_turned : (a b : Bool) → a || b ≡ b || a
    or_turned true true = refl
    or_turned true false = refl
    or_turned false true = refl
    or_turned false false = refl

    go : (b : Bool) → eqb k m ≡ b → weight_at k m l ≡ weight_at m k l
    go true p = let e = eqb-true k m p in rw e
    go false p =
        rw (p, ne_eqb m k (λ e. eqb-false k m p (sym e)))
        (ap (λ (b : Bool). when b (neg_ℤ (pos l.weight))) (or_turned (eqb l.«from» k && eqb l.to m) (eqb l.«from» m && eqb l.to k)))

pub symmetric : (ls : List Observation) (i j : ℕ) → built_matrix ls i j ≡ built_matrix ls j i
symmetric ls i j = total_ext (weight_at (i + 1) (j + 1)) (weight_at (j + 1) (i + 1)) (distinct ls) (λ l k. weight_at_turned (i + 1) (j + 1) l)
