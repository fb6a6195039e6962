-- What holds of input that passes 8 and 3.
--   squared — a matrix list whose numbers are in range
--   Fit, fit_of — n, s, t in their ranges, the lists long enough, every number used in its range
use mathlib.Core.Path.{◌≡◌}
use mathlib.Core.Bool.{true, false}
use mathlib.Core.List.{List}
use Prim.Native.Nat.{ℕ, ◌*◌, ◌≤◌, ◌<◌, ◌^◌}
use native.Mathlib.Omega.{arith}
use lib.IntN.{ℤ, pos, nat_abs}
use lib.ListN.{length}
use Rattle.linear.specs.Slice.{at}
use Rattle.linear.specs.Reach.{ColumnList, MatrixList}
use Rattle.linear.proofs.Places.{square}
use Rattle.rules.specs.Range.{in_range, all_in_range}
use Rattle.rules.specs.declared.Kind.{Kind}
use Rattle.rules.specs.declared.Kind.TheVariants as kind
use Rattle.rules.proofs.AllInRange.{all_at}
use Rattle.rules.proofs.Ranges.{both_left, both_right, size_range, solution_scale_range, inverse_scale_range, matrix_range, right_range, tolerance_range, guess_range, inverse_range, weight_range}
use Rattle.check_spec.specs.Input.{Input, short, in_ranges, sizes_in_range, lists_in_range}
use Rattle.check_spec.proofs.Lengths.{long_of}

pub record Fit (I : Input) : Type 0 where
  pub n_pos : 0 < I.n
  pub n_max : I.n ≤ 32
  pub solution_scale : I.s ≤ 20
  pub inverse_scale : I.t ≤ 20
  pub matrix : MatrixList I.matrix I.n
  pub right : ColumnList I.right I.n (2 ^ 30)
  pub tolerance : ColumnList I.tolerance I.n (2 ^ 20)
  pub guess : ColumnList I.guess I.n (2 ^ 36)
  pub inverse : MatrixList I.inverse I.n
  pub weights : ColumnList I.weights I.n 1024
  pub heavy : (i : ℕ) → i < I.n → 1 ≤ nat_abs (at I.weights i)
  pub solution_long : 32 ≤ length I.solution_bounds
  pub inverse_long : 1024 ≤ length I.inverse_bounds

listed_column : (k : Kind) (xs : List ℤ) (n b : ℕ) → ((z : ℤ) → in_range k z ≡ true → nat_abs z ≤ b) → all_in_range k n (at xs) ≡ true → n ≤ length xs → ColumnList xs n b
listed_column k xs n b h e long = record { long = long; within = record { magnitudes = λ i l. h (at xs i) (all_at k n (at xs) e i l) } }

pub squared : (k : Kind) (xs : List ℤ) (n : ℕ) → ((z : ℤ) → in_range k z ≡ true → nat_abs z ≤ 2 ^ 20) → all_in_range k (n * n) (at xs) ≡ true → n * n ≤ length xs → MatrixList xs n
squared k xs n h e long = record { long = long; within = record { magnitudes = λ i l. h (at xs i) (all_at k (n * n) (at xs) e i l) } }

pub fit_of : (I : Input) → short I ≡ false → in_ranges I ≡ true → Fit I
fit_of I e f =
    let long = long_of I e in
    let sizes : sizes_in_range I.n I.s I.t ≡ true = both_left _ _ f in
    let l1 : lists_in_range I.n I.matrix I.right I.tolerance I.guess I.inverse I.weights ≡ true = both_right (sizes_in_range I.n I.s I.t) _ f in
    let size = size_range I.n (both_left _ _ sizes) in
    let scales = both_right (in_range kind.Size (pos I.n)) _ sizes in
    let n_max : I.n ≤ 32 = size.1 in
    let l2 = both_right (all_in_range kind.Matrix (I.n * I.n) (at I.matrix)) _ l1 in
    let l3 = both_right (all_in_range kind.Right I.n (at I.right)) _ l2 in
    let l4 = both_right (all_in_range kind.Tolerance I.n (at I.tolerance)) _ l3 in
    let l5 = both_right (all_in_range kind.Guess I.n (at I.guess)) _ l4 in
    let l6 : all_in_range kind.Weight I.n (at I.weights) ≡ true = both_right (all_in_range kind.Inverse (I.n * I.n) (at I.inverse)) _ l5 in
    record {
      n_pos = size.0;
      n_max = n_max;
      solution_scale = solution_scale_range I.s (both_left _ _ scales);
      inverse_scale = inverse_scale_range I.t (both_right (in_range kind.SolutionScale (pos I.s)) _ scales);
      matrix = squared kind.Matrix I.matrix I.n matrix_range (both_left _ _ l1) (omega (arith, square n_max, long.matrix));
      right = listed_column kind.Right I.right I.n (2 ^ 30) right_range (both_left _ _ l2) (omega (arith, long.right));
      tolerance = listed_column kind.Tolerance I.tolerance I.n (2 ^ 20) (λ z h. (tolerance_range z h).1) (both_left _ _ l3) (omega (arith, long.tolerance));
      guess = listed_column kind.Guess I.guess I.n (2 ^ 36) guess_range (both_left _ _ l4) (omega (arith, long.guess));
      inverse = squared kind.Inverse I.inverse I.n inverse_range (both_left _ _ l5) (omega (arith, square n_max, long.inverse));
      weights = listed_column kind.Weight I.weights I.n 1024 (λ z h. (weight_range z h).1) l6 (omega (arith, long.weights));
      heavy = λ i l. (weight_range (at I.weights i) (all_at kind.Weight I.n (at I.weights) l6 i l)).0;
      solution_long = long.solution;
      inverse_long = long.inverses;
    }
