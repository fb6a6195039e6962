-- What the ranges say of a number.
--   range_magnitude — a number in range is at most `magnitude_of k` in absolute value
--   range_natural — where the lowest value is a natural number, a number in range is one, and at least that;  range_kept — so its magnitude is in range
--   size_range, solution_scale_range, .., weight_range, allowance_range, in_allowance_range, line_weight_range, difference_range — what the range of each kind is
--   in_size_range, in_matrix_range, in_inverse_range, in_right_range — the converse: a number of that magnitude is in range;  zero_tolerance, one_weight — so are these two
--   both, both_left, both_right, not_both, not_first, neither, neither_left, neither_right, or_left, or_right, and_true — of two tests
--   range_test — what the code tests is in_range
use mathlib.Core.Path.{◌≡◌, refl, sym, subst}
use mathlib.Core.Bool.{Bool, true, false, ◌&&◌, ◌||◌}
use Prim.Native.Nat.{ℕ, suc, ◌<◌, ◌≤◌, ◌^◌, max}
use native.Mathlib.Omega.{arith}
use borrow.Author.Tests.{leb-true, le-leb}
use lib.Dec.{T}
use lib.IntN.{ℤ, pos, negsuc, nat_abs}
use lib.Signed.{le_z}
use Rattle.rules.specs.declared.Kind.{Kind}
use Rattle.rules.specs.declared.Kind.TheVariants.{Size, SolutionScale, InverseScale, Matrix, Right, Guess, Inverse, Weight, Allowance, Tolerance, Difference, LineWeight}
use Rattle.rules.specs.declared.Range.{Range}
use Rattle.rules.specs.Range.{ranges, range_of, in_range}

-- ---- two tests
pub both_left : (a b : Bool) → a && b ≡ true → a ≡ true
both_left true b e = refl
both_left false b e = e

pub both_right : (a b : Bool) → a && b ≡ true → b ≡ true
both_right true b e = e
both_right false b e = absurd (subst T (sym e) tt)

pub both : {a b : Bool} → a ≡ true → b ≡ true → a && b ≡ true
both p q = rw (p, q)

pub not_both : {a b : Bool} → a ≡ true → b ≡ false → a && b ≡ false
not_both p q = rw (p, q)

pub not_first : {a : Bool} (b : Bool) → a ≡ false → a && b ≡ false
not_first b p = rw p

pub neither : {a b : Bool} → a ≡ false → b ≡ false → a || b ≡ false
neither p q = rw (p, q)

pub neither_left : (a b : Bool) → a || b ≡ false → a ≡ false
neither_left true b e = e
neither_left false b e = refl

pub neither_right : (a b : Bool) → a || b ≡ false → b ≡ false
neither_right true b e = absurd (subst T e tt)
neither_right false b e = e

pub or_left : {a : Bool} (b : Bool) → a ≡ true → a || b ≡ true
or_left b e = rw e

pub or_right : (a : Bool) {b : Bool} → b ≡ true → a || b ≡ true
or_right true e = refl
or_right false e = e

pub and_true : (a : Bool) {b : Bool} → b ≡ true → a && b ≡ a
and_true true e = e
and_true false e = refl

-- ---- magnitudes
-- the largest magnitude that a number of the kind has
abbrev pub magnitude_of : Kind → ℕ
magnitude_of k = max (nat_abs (range_of k).lowest) (nat_abs (range_of k).highest)

magnitude_between : (a b z : ℤ) → le_z a z ≡ true → le_z z b ≡ true → nat_abs z ≤ max (nat_abs a) (nat_abs b)
magnitude_between a (pos b) (pos z) p q = omega (arith, leb-true z b q)
magnitude_between a (negsuc b) (pos z) p q = absurd (subst T (sym q) tt)
magnitude_between (pos a) b (negsuc z) p q = absurd (subst T (sym p) tt)
magnitude_between (negsuc a) b (negsuc z) p q = omega (arith, leb-true z a p)

pub range_magnitude : (k : Kind) (z : ℤ) → in_range k z ≡ true → nat_abs z ≤ magnitude_of k
unfolding in_range
range_magnitude k z e =
    magnitude_between (range_of k).lowest (range_of k).highest z
    (both_left (le_z (range_of k).lowest z) (le_z z (range_of k).highest) e)
    (both_right (le_z (range_of k).lowest z) (le_z z (range_of k).highest) e)

at_least : (a : ℕ) (z : ℤ) → le_z (pos a) z ≡ true → ((z ≡ pos (nat_abs z)) × (a ≤ nat_abs z))
at_least a (pos z) p = (refl, leb-true a z p)
at_least a (negsuc z) p = absurd (subst T (sym p) tt)

pub range_natural : (k : Kind) (a : ℕ) (z : ℤ) → (range_of k).lowest ≡ pos a → in_range k z ≡ true → ((z ≡ pos (nat_abs z)) × (a ≤ nat_abs z))
unfolding in_range
range_natural k a z e h = at_least a z (rw e at (both_left (le_z (range_of k).lowest z) (le_z z (range_of k).highest) h))

pub range_kept : (k : Kind) (a : ℕ) (z : ℤ) → (range_of k).lowest ≡ pos a → in_range k z ≡ true → in_range k (pos (nat_abs z)) ≡ true
range_kept k a z e h = subst (λ (y : ℤ). in_range k y ≡ true) (range_natural k a z e h).0 h

pub range_test : (k : Kind) (z : ℤ) {r : Range} → r ≡ range_of k → le_z r.lowest z && le_z z r.highest ≡ in_range k z
unfolding in_range
range_test k z e = rw e

-- a number of at most that magnitude is in a range that is alike on both sides
magnitude_in_range : (b : ℕ) (z : ℤ) → nat_abs z ≤ suc b → le_z (negsuc b) z && le_z z (pos (suc b)) ≡ true
magnitude_in_range b (pos z) h = le-leb z (suc b) h
magnitude_in_range b (negsuc z) h = both (le-leb z b (omega arith)) refl

-- ---- the sizes of documents 01 and 02
module _ (n : ℕ) where
  pub size_range : in_range Size (pos n) ≡ true → (0 < n) × (n ≤ 32)
  unfolding range_of ranges
  size_range e = ((range_natural Size 1 (pos n) refl e).1, range_magnitude Size (pos n) e)

  pub in_size_range : 0 < n → n ≤ 32 → in_range Size (pos n) ≡ true
  unfolding in_range range_of ranges
  in_size_range a b = both (le-leb 1 n a) (le-leb n 32 b)

  pub solution_scale_range : in_range SolutionScale (pos n) ≡ true → n ≤ 20
  unfolding range_of ranges
  solution_scale_range e = range_magnitude SolutionScale (pos n) e

  pub inverse_scale_range : in_range InverseScale (pos n) ≡ true → n ≤ 20
  unfolding range_of ranges
  inverse_scale_range e = range_magnitude InverseScale (pos n) e

  pub allowance_range : in_range Allowance (pos n) ≡ true → (1 ≤ n) × (n ≤ 64)
  unfolding range_of ranges
  allowance_range e = ((range_natural Allowance 1 (pos n) refl e).1, range_magnitude Allowance (pos n) e)

  pub in_allowance_range : 1 ≤ n → n ≤ 64 → in_range Allowance (pos n) ≡ true
  unfolding in_range range_of ranges
  in_allowance_range a b = both (le-leb 1 n a) (le-leb n 64 b)

  pub line_weight_range : in_range LineWeight (pos n) ≡ true → (1 ≤ n) × (n ≤ 64)
  unfolding range_of ranges
  line_weight_range e = ((range_natural LineWeight 1 (pos n) refl e).1, range_magnitude LineWeight (pos n) e)

pub zero_tolerance : in_range Tolerance (pos 0) ≡ true
unfolding in_range range_of ranges
zero_tolerance = refl

pub one_weight : in_range Weight (pos 1) ≡ true
unfolding in_range range_of ranges
one_weight = refl

module _ (z : ℤ) where
  pub matrix_range : in_range Matrix z ≡ true → nat_abs z ≤ 2 ^ 20
  unfolding range_of ranges
  matrix_range e = range_magnitude Matrix z e

  pub right_range : in_range Right z ≡ true → nat_abs z ≤ 2 ^ 30
  unfolding range_of ranges
  right_range e = range_magnitude Right z e

  pub tolerance_range : in_range Tolerance z ≡ true → (z ≡ pos (nat_abs z)) × (nat_abs z ≤ 2 ^ 20)
  unfolding range_of ranges
  tolerance_range e = ((range_natural Tolerance 0 z refl e).0, range_magnitude Tolerance z e)

  pub guess_range : in_range Guess z ≡ true → nat_abs z ≤ 2 ^ 36
  unfolding range_of ranges
  guess_range e = range_magnitude Guess z e

  pub inverse_range : in_range Inverse z ≡ true → nat_abs z ≤ 2 ^ 20
  unfolding range_of ranges
  inverse_range e = range_magnitude Inverse z e

  pub weight_range : in_range Weight z ≡ true → (1 ≤ nat_abs z) × (nat_abs z ≤ 1024)
  unfolding range_of ranges
  weight_range e = ((range_natural Weight 1 z refl e).1, range_magnitude Weight z e)

  pub difference_range : in_range Difference z ≡ true → nat_abs z ≤ 2 ^ 16
  unfolding range_of ranges
  difference_range e = range_magnitude Difference z e

  pub in_matrix_range : nat_abs z ≤ 2 ^ 20 → in_range Matrix z ≡ true
  unfolding in_range range_of ranges
  in_matrix_range h = magnitude_in_range 1048575 z h

  pub in_inverse_range : nat_abs z ≤ 2 ^ 20 → in_range Inverse z ≡ true
  unfolding in_range range_of ranges
  in_inverse_range h = magnitude_in_range 1048575 z h

  pub in_right_range : nat_abs z ≤ 2 ^ 30 → in_range Right z ≡ true
  unfolding in_range range_of ranges
  in_right_range h = magnitude_in_range 1073741823 z h
