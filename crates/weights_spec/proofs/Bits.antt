-- Laws of shifts (specs/Sequence).
--   bits_fit, bits_fewest — shifted right by that many bits a number is 1,023 or below, and by no fewer
--   bits_is    — the converse: a count with these two properties is that many
--   count_small — a number of 64 bits is above 0 only where it is shifted by fewer than 64 bits;  bits_most — 54 are enough for it
--   halved     — shifted by one bit more
use mathlib.Core.Path.{◌≡◌, sym, ap, ◌∙◌}
use mathlib.Core.Bool.{Bool}
use Prim.Native.Nat.{ℕ, zero, suc, ◌+◌, ◌/◌, ◌^◌, ◌≤◌, ◌<◌}
use native.Mathlib.Omega.{arith}
use native.Mathlib.Decide.{dec_le}
use native.Mathlib.Nat.{two-pow-succ, pow-suc, div-eq_of_lt, div-div-eq-div-mul, div-lt_iff_lt-mul, le_antisymm, pow-le-pow_right}
use native.Mathlib.Numerals.{add-one}
use borrow.Author.Tests.{leb-true, leb-false}
use lib.Dec.{leb, lit<}
use Rattle.integer.specs.Finite.{first}
use Rattle.integer.proofs.Search.{Searched, found, nowhere, searched}
use Rattle.weights_spec.specs.Sequence.{bits}

power_above : (k : ℕ) → k < 2 ^ k
power_above zero = lit< tt
power_above (suc k) = omega (arith, power_above k, two-pow-succ k)

abbrev fits_bits : ℕ → ℕ → Bool
fits_bits u k = leb (u / 2 ^ k) 1023

pub bits_fit : (u : ℕ) → u / 2 ^ bits u ≤ 1023
unfolding bits
bits_fit u = go (searched u (fits_bits u))
  where
    go : Searched u (fits_bits u) → u / 2 ^ first u (fits_bits u) ≤ 1023
    go (found k l e p h) = rw e (leb-true (u / 2 ^ k) 1023 p)
    go (nowhere e h) = rw e (rw (div-eq_of_lt (power_above u)) (omega arith))

pub bits_fewest : (u k : ℕ) → k < bits u → 1023 < u / 2 ^ k
unfolding bits
bits_fewest u k l = go (searched u (fits_bits u))
  where
    go : Searched u (fits_bits u) → 1023 < u / 2 ^ k
    go (found i m e p h) = leb-false (u / 2 ^ k) 1023 (h k (omega arith))
    go (nowhere e h) = leb-false (u / 2 ^ k) 1023 (h k (omega arith))

pub bits_is : (u k : ℕ) → u / 2 ^ k ≤ 1023 → ((j : ℕ) → j < k → 1023 < u / 2 ^ j) → k ≡ bits u
bits_is u k p h = go (dec_le k (bits u)) (dec_le (bits u) k)
  where
    go : Dec (k ≤ bits u) → Dec (bits u ≤ k) → k ≡ bits u
    go (yes a) (yes b) = le_antisymm a b
    go (yes a) (no b) = absurd (omega (arith, bits_fewest u k (omega arith)))
    go (no a) b = absurd (omega (arith, bits_fit u, h (bits u) (omega arith)))

pub count_small : (u k : ℕ) → u < 2 ^ 64 → 0 < u / 2 ^ k → k < 64
count_small u k l h = go (dec_le 64 k)
  where
    go : Dec (64 ≤ k) → k < 64
    go (no a) = omega arith
    go (yes a) =
        let p : 2 ^ 64 ≤ 2 ^ k = pow-le-pow_right {n = 2} (omega arith) {i = 64} {j = k} a in
        absurd (omega (arith, div-eq_of_lt {n = u} {m = 2 ^ k} (omega arith)))

pub bits_most : (u : ℕ) → u < 2 ^ 64 → bits u ≤ 54
bits_most u l = go (dec_le (bits u) 54)
  where
    small : u / 2 ^ 54 < 1024
    small = (div-lt_iff_lt-mul {k = 2 ^ 54} (lit< tt)).1 (omega arith)

    go : Dec (bits u ≤ 54) → bits u ≤ 54
    go (yes a) = a
    go (no a) = absurd (omega (arith, small, bits_fewest u 54 (omega arith)))

pub halved : (u k : ℕ) → u / 2 ^ k / 2 ≡ u / 2 ^ (k + 1)
halved u k = div-div-eq-div-mul u (2 ^ k) 2 ∙ ap (λ (x : ℕ). u / x) (sym (ap (λ (x : ℕ). 2 ^ x) (add-one k) ∙ pow-suc 2 k))
