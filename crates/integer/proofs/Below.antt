-- What holds of each of the first numbers.
--   only — what holds of 0 holds of all below 1
--   each_of_two, each_of_four — what holds of 0 and 1 holds of all below 2, and the same of two numbers
use Prim.Native.Nat.{ℕ, zero, suc, ◌<◌}
use native.Mathlib.Omega.{arith}

pub only : (Q : ℕ → Type 0) → Q 0 → (i : ℕ) → i < 1 → Q i
only Q a zero l = a
only Q a (suc i) l = absurd (omega arith)

pub each_of_two : (Q : ℕ → Type 0) → Q 0 → Q 1 → (i : ℕ) → i < 2 → Q i
each_of_two Q a b zero l = a
each_of_two Q a b (suc zero) l = b
each_of_two Q a b (suc (suc i)) l = absurd (omega arith)

pub each_of_four : (Q : ℕ → ℕ → Type 0) → Q 0 0 → Q 0 1 → Q 1 0 → Q 1 1 → (i j : ℕ) → i < 2 → j < 2 → Q i j
each_of_four Q a b c d zero j l = each_of_two (Q 0) a b j
each_of_four Q a b c d (suc zero) j l = each_of_two (Q 1) c d j
each_of_four Q a b c d (suc (suc i)) j l = absurd (omega arith)
