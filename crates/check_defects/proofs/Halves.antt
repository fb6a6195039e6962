-- The two parts of a number, and one row more in the sums that it belongs to.
--   signs — a number is its part of 0 or more less its part below 0;  up_magnitude, down_magnitude — these are at most its magnitude
--   half_below, half_above — the code's test of the sign;  half_ends, half_room — the sums that a number belongs to end within the 64 and have room
--   added_none, added_row — nothing for 0, and a row of multiples in the place of those sums
use mathlib.Core.List.{List}
use mathlib.Core.Bool.{true, false}
use mathlib.Core.Path.{◌≡◌, refl, sym, subst, ◌∙◌}
use Prim.Native.Nat.{ℕ, ◌+◌, ◌-◌, ◌*◌, ◌≤◌, ◌<◌}
use native.Mathlib.Omega.{arith}
use borrow.Author.Tests.{ltb-true}
use lib.Dec.{T}
use lib.IntN.{ℤ, pos, negsuc, nat_abs, ◌-ℤ◌, +ℤ_idl}
use lib.ListN.{get_or, length}
use lib.Signed.{lt_z}
use Rattle.integer.specs.SignedParts.{pos_part, neg_part}
use Rattle.integer.proofs.Difference.{zz}
use borrow.Rule.Slice.PartMut.{put_mid}
use Rattle.linear.proofs.Slices.{placed_length, placed_at, placed_below, placed_above}
use Rattle.check_defects.specs.Sums.{half_of, SmallSums, Added}

-- ---- the two parts of a number
pub signs : (x : ℤ) → x ≡ pos (pos_part x) -ℤ pos (neg_part x)
unfolding pos_part neg_part
signs (pos a) = simp zz (omega arith)
signs (negsuc a) = sym (+ℤ_idl (negsuc a))

pub up_magnitude : (x : ℤ) → pos_part x ≤ nat_abs x
unfolding pos_part
up_magnitude (pos a) = omega arith
up_magnitude (negsuc a) = omega arith

pub down_magnitude : (x : ℤ) → neg_part x ≤ nat_abs x
unfolding neg_part
down_magnitude (pos a) = omega arith
down_magnitude (negsuc a) = omega arith

pub half_ends : (x : ℤ) {n : ℕ} → n ≤ 32 → half_of x + n ≤ 64
unfolding half_of
half_ends (pos a) h = omega arith
half_ends (negsuc a) h = omega arith

pub half_below : (x : ℤ) → lt_z x (pos 0) ≡ true → 32 ≡ half_of x
unfolding half_of
half_below (pos a) e = absurd (omega (arith, ltb-true a 0 e))
half_below (negsuc a) e = refl

pub half_above : (x : ℤ) → lt_z x (pos 0) ≡ false → 0 ≡ half_of x
unfolding half_of
half_above (pos a) e = refl
half_above (negsuc a) e = absurd (subst T e tt)

pub half_room : (x : ℤ) {sums : List ℕ} {n : ℕ} → SmallSums sums 0 n → SmallSums sums 32 n → SmallSums sums (half_of x) n
unfolding half_of
half_room (pos a) p q = p
half_room (negsuc a) p q = q

-- ---- one row more
pub added_none : (sums : List ℕ) (n : ℕ) (row : ℕ → ℕ) → Added sums sums n (pos 0) row
unfolding pos_part neg_part
added_none sums n row = record { long = refl; ups = λ j l. omega arith; downs = λ j l. omega arith }

module _ (sums items : List ℕ) (n : ℕ) (n_max : n ≤ 32) (long : length sums ≡ 64) (row : ℕ → ℕ) (same : length items ≡ n) where
  pub added_row : (x : ℤ) → ((j : ℕ) → j < n → get_or items j 0 ≡ get_or sums (half_of x + j) 0 + nat_abs x * row j) →
      Added sums (put_mid (half_of x) (half_of x + n - half_of x) sums items) n x row
  unfolding pos_part neg_part half_of
  added_row (pos a) h = record {
    long = placed_length sums items 0 n same (omega arith);
    ups = λ j l. let e : 0 + j ≡ j = omega arith in rw e at (placed_at sums items 0 n same (omega arith) 0 j l ∙ h j l);
    downs = λ j l. placed_above sums items 0 n same (omega arith) 0 (32 + j) (omega arith) ∙ omega arith;
  }
  added_row (negsuc a) h = record {
    long = placed_length sums items 32 n same (omega arith);
    ups = λ j l. placed_below sums items 32 n same (omega arith) 0 j (omega arith) ∙ omega arith;
    downs = λ j l. placed_at sums items 32 n same (omega arith) 0 j l ∙ h j l;
  }
