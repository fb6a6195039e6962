use mathlib.Core.Path.{◌≡◌}
use mathlib.Core.Bool.{true}
use mathlib.Core.List.{List}
use Prim.Native.Nat.{ℕ, ◌≤◌, ◌<◌, ◌^◌}
use native.Mathlib.Omega.{arith}
use lib.Dec.{ltb}
use lib.IntN.{ℤ, pos, negsuc, nat_abs}
use lib.Signed.{mag}
use borrow.Author.Tests.{ltb-true}
use Rattle.linear.specs.Slice.{at}
use Rattle.rules.specs.Range.{all_in_range}
use Rattle.rules.specs.declared.Kind.TheVariants as kind
use Rattle.rules.proofs.AllInRange.{all_in}
use Rattle.rules.proofs.Ranges.{in_matrix_range, in_inverse_range}
use Rattle.check_ranges.proofs.are_small.Goals as goal

-- numbers that are at most a number below 2^20
module _ (xs : List ℤ) (n : ℕ) {all : ℕ} (t : ltb all (2 ^ 20) ≡ true) where
  magnitude : (z : ℤ) → mag z ≤ all → nat_abs z ≤ 2 ^ 20
  magnitude (pos z) h = omega (arith, ltb-true all (2 ^ 20) t)
  magnitude (negsuc z) h = omega (arith, ltb-true all (2 ^ 20) t)

  in_range_lem : ((j : ℕ) → j < n → mag (at xs j) ≤ all) → (all_in_range kind.Matrix n (at xs) ≡ true) × (all_in_range kind.Inverse n (at xs) ≡ true)
  in_range_lem h = (
    all_in kind.Matrix n (at xs) (λ j l. in_matrix_range (at xs j) (magnitude (at xs j) (h j l))),
    all_in kind.Inverse n (at xs) (λ j l. in_inverse_range (at xs j) (magnitude (at xs j) (h j l))),
  )

pub returns : goal.returns
returns c =
    let l = c.loop-i in
    let a = c.args in
    λ t. (
      (in_range_lem a.xs.now a.n t (λ i m. (l.invariant.1 i (omega (arith, m, c.loop-i-test.false))).0)).0,
      (in_range_lem a.ys.now a.n t (λ i m. (l.invariant.1 i (omega (arith, m, c.loop-i-test.false))).1)).1,
    )
