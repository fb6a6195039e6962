-- Every list of the sequence holds weights.
--   tried_first, tried_next — list 1, and the list after another
--   shifted_small — a shifted number is no larger than the shifted largest one
--   next_low, next_high, tried_low, tried_high — the numbers of a list are 1 to 1,024
--   tried_range — so they are in the range of weights
use mathlib.Core.Path.{◌≡◌, refl, ap}
use mathlib.Core.Bool.{true}
use Prim.Native.Nat.{ℕ, zero, suc, ◌+◌, ◌*◌, ◌/◌, ◌^◌, ◌≤◌, ◌<◌}
use native.Mathlib.Omega.{arith}
use native.Mathlib.Nat.{div-lt_iff_lt-mul, one-le-pow}
use native.Mathlib.Numerals.{add-one}
use borrow.Author.Tests.{le-leb}
use lib.IntN.{pos}
use Rattle.integer.specs.Finite.{largest}
use Rattle.integer.proofs.Search.{largest_at}
use Rattle.rules.specs.Range.{ranges, range_of, in_range}
use Rattle.rules.specs.declared.Kind.TheVariants as kind
use Rattle.rules.proofs.Ranges.{both}
use Rattle.enclosure.specs.Problem.{Problem}
use Rattle.weights_spec.specs.Sequence.{loads, bits, next, tried}
use Rattle.weights_spec.proofs.Bits.{bits_fit}

pub shifted_small : (u x k : ℕ) → x ≤ u → u / 2 ^ k ≤ 1023 → x / 2 ^ k ≤ 1023
shifted_small u x k l h =
    let p : 0 < 2 ^ k = one-le-pow k 2 (omega arith) in
    let a : u < 1024 * 2 ^ k = (div-lt_iff_lt-mul p).0 (omega arith) in
    let b : x / 2 ^ k < 1024 = (div-lt_iff_lt-mul p).1 (omega arith) in
    omega arith

module _ (P : Problem) where
  pub tried_first : (i : ℕ) → tried P 0 i ≡ 1
  unfolding tried
  tried_first i = refl

  pub tried_next : (k i : ℕ) → tried P (k + 1) i ≡ next P (tried P k) i
  unfolding tried
  tried_next k i = ap (λ (x : ℕ). tried P x i) (add-one k)

  next_low : (w : ℕ → ℕ) (i : ℕ) → 1 ≤ next P w i
  next_low w i = omega arith

  next_high : (w : ℕ → ℕ) (i : ℕ) → i < P.n → next P w i ≤ 1024
  next_high w i l =
      let u : ℕ = largest P.n (loads P w) in
      omega (arith, shifted_small u (loads P w i) (bits u) (largest_at P.n (loads P w) i l) (bits_fit u))

  pub tried_low : (k i : ℕ) → 1 ≤ tried P k i
  unfolding tried
  tried_low zero i = omega arith
  tried_low (suc k) i = next_low (tried P k) i

  pub tried_high : (k i : ℕ) → i < P.n → tried P k i ≤ 1024
  unfolding tried
  tried_high zero i l = omega arith
  tried_high (suc k) i l = next_high (tried P k) i l

  pub tried_range : (k i : ℕ) → i < P.n → in_range kind.Weight (pos (tried P k i)) ≡ true
  unfolding in_range range_of ranges
  tried_range k i l = both (le-leb 1 (tried P k i) (tried_low k i)) (le-leb (tried P k i) 1024 (tried_high k i l))
