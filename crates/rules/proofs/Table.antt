-- The rule over the whole table of ranges, computed once.
--   GoodRange r — lowest ≤ highest, and both are at most 2 ^ 36 in absolute value
--   range_good — the range of every kind is
use mathlib.Core.Path.{◌≡◌, refl}
use mathlib.Core.Bool.{Bool, true, ◌&&◌}
use mathlib.Core.List.{List, [], ◌∷◌}
use Prim.Native.Nat.{ℕ, zero, suc, ◌<◌, ◌≤◌, ◌^◌}
use native.Mathlib.Omega.{arith}
use borrow.Author.Tests.{leb-true}
use lib.Dec.{leb}
use lib.IntN.{pos, nat_abs}
use lib.ListN.{get_or, length}
use lib.Signed.{le_z}
use Rattle.rules.specs.declared.Kind.{Kind}
use Rattle.rules.specs.declared.Kind.TheVariants.{Size, SolutionScale, InverseScale, Matrix, Right, Guess, Inverse, Weight, Allowance, Tolerance, Key, Mark, Difference, LineWeight}
use Rattle.rules.specs.declared.Range.{Range}
use Rattle.rules.specs.Range.{ranges, index_of, range_of, from_to}
use Rattle.rules.proofs.Ranges.{both_left, both_right}

good_range : Range → Bool
good_range r = le_z r.lowest r.highest && (leb (nat_abs r.lowest) (2 ^ 36) && leb (nat_abs r.highest) (2 ^ 36))

all_good : List Range → Bool
all_good [] = true
all_good (r ∷ rs) = good_range r && all_good rs

good_at_lem : (rs : List Range) → all_good rs ≡ true → (i : ℕ) (d : Range) → i < length rs → good_range (get_or rs i d) ≡ true
unfolding all_good
good_at_lem [] e i d l = absurd (omega arith)
good_at_lem (r ∷ rs) e zero d l = both_left (good_range r) (all_good rs) e
good_at_lem (r ∷ rs) e (suc i) d l = good_at_lem rs (both_right (good_range r) (all_good rs) e) i d (omega arith)

table_good : all_good ranges ≡ true
unfolding all_good good_range ranges
table_good = refl

index_below : (k : Kind) → index_of k < 14
index_below Size = omega arith
index_below SolutionScale = omega arith
index_below InverseScale = omega arith
index_below Matrix = omega arith
index_below Right = omega arith
index_below Guess = omega arith
index_below Inverse = omega arith
index_below Weight = omega arith
index_below Allowance = omega arith
index_below Tolerance = omega arith
index_below Key = omega arith
index_below Mark = omega arith
index_below Difference = omega arith
index_below LineWeight = omega arith

pub record GoodRange (r : Range) : Type 0 where
  pub ordered : le_z r.lowest r.highest ≡ true
  pub low_magnitude : nat_abs r.lowest ≤ 2 ^ 36
  pub high_magnitude : nat_abs r.highest ≤ 2 ^ 36

goodness : (r : Range) → good_range r ≡ true → GoodRange r
unfolding good_range
goodness r e = record {
  ordered = both_left (le_z r.lowest r.highest) _ e;
  low_magnitude = leb-true _ _ (both_left (leb (nat_abs r.lowest) (2 ^ 36)) _ (both_right (le_z r.lowest r.highest) _ e));
  high_magnitude = leb-true _ _ (both_right (leb (nat_abs r.lowest) (2 ^ 36)) _ (both_right (le_z r.lowest r.highest) _ e));
}

pub range_good : (k : Kind) → GoodRange (range_of k)
unfolding range_of
range_good k = goodness _ (good_at_lem ranges table_good (index_of k) (from_to (pos 0) (pos 0)) (unfold ranges in index_below k))
