-- Sets of places, one bit of a number for each place.
--   has_place x i  — the place i is in the set x
--   with_place x i — the set x with the place i
--   lacking x n   — how many of the places below n are not in the set x
use Rattle.std.specs.Prelude.{Bool, cond, ℕ, ◌/◌, ◌%◌, ◌^◌, eqb}
use Rattle.std.specs.Int.Bits.{bit_or}
use Rattle.integer.specs.Finite.{sumℕ}

abbrev pub has_place : ℕ → ℕ → Bool
has_place x i = eqb (x / 2 ^ i % 2) 1

unfoldable pub with_place : ℕ → ℕ → ℕ
with_place x i = bit_or x (2 ^ i)

unfoldable pub lacking : ℕ → ℕ → ℕ
lacking x n = sumℕ n (λ (i : ℕ). cond (has_place x i) 0 1)
