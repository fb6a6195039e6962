-- Whole numbers between two natural numbers.
--   from_to_lem — a number that is a to n, as a natural number;  not_negative — it is one
use mathlib.Core.Path.{◌≡◌, refl, sym, subst}
use mathlib.Core.Bool.{true, ◌&&◌}
use Prim.Native.Nat.{ℕ, ◌≤◌}
use borrow.Author.Tests.{leb-true}
use lib.Dec.{T}
use lib.IntN.{ℤ, pos, negsuc, nat_abs}
use lib.Signed.{le_z, non_neg}
use Rattle.rules.proofs.Ranges.{both_left, both_right}

-- a number from a to n
pub record FromTo (a n : ℕ) (i : ℤ) : Type 0 where
  pub whole : i ≡ pos (nat_abs i)
  pub from : a ≤ nat_abs i
  pub to : nat_abs i ≤ n

by_sign : (a n : ℕ) (i : ℤ) → le_z (pos a) i ≡ true → le_z i (pos n) ≡ true → FromTo a n i
by_sign a n (pos i) p q = record { whole = refl; from = leb-true a i p; to = leb-true i n q }
by_sign a n (negsuc i) p q = absurd (subst T (sym p) tt)

pub from_to_lem : (a n : ℕ) (i : ℤ) → le_z (pos a) i && le_z i (pos n) ≡ true → FromTo a n i
from_to_lem a n i b = by_sign a n i (both_left (le_z (pos a) i) (le_z i (pos n)) b) (both_right (le_z (pos a) i) (le_z i (pos n)) b)

pub not_negative : {a n : ℕ} (i : ℤ) → FromTo a n i → T (non_neg i)
not_negative i h = rw h.whole tt
