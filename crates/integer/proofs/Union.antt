-- The bits of two numbers in one, `a | b`: it is at least each of the two.
--   union_left, union_right — so where it is small, both are
use Prim.Native.Nat.{ℕ, ◌≤◌}
use native.Mathlib.Omega.{arith}
use lib.Bits.{bit_or, or_add_and, and_le_l, and_le_r}

pub union_left : (a b : ℕ) → a ≤ bit_or a b
union_left a b = omega (arith, or_add_and a b, and_le_r a b)

pub union_right : (a b : ℕ) → b ≤ bit_or a b
union_right a b = omega (arith, or_add_and a b, and_le_l a b)
