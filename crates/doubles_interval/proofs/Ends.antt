-- The doubles on either side of z units: `below z` and `above z` are what LowEnd and HighEnd say.
--   end_room     — magnitudes for which no end is an infinity; the units of every height in range are far below it
--   low_end, high_end_lem — LowEnd (below z) z and HighEnd (above z) z, over all finite doubles, signed
--   nothing_below, nothing_above — no double lies strictly between an end and the number it stands for
use mathlib.Core.Path.{◌≡◌, refl, sym, ap, ◌∙◌}
use mathlib.Core.Bool.{Bool, true, false}
use Prim.Native.Nat.{ℕ, suc, ◌+◌, ◌*◌, ◌/◌, ◌^◌, ◌≤◌, ◌<◌}
use native.Mathlib.Nat as NatL
use native.Mathlib.Omega.{arith}
use lib.Dec.{T}
use lib.IntN.{ℤ, pos, negsuc, neg_ℤ, nat_abs}
use lib.Pow.{pow-lt}
use lib.Signed.{◌≤ℤ◌, ◌<ℤ◌, clash_ℤ}
use lib.Ieee.{Float, binary64, fits}
use lib.Ieee.Exact.{HasValue}
use Rattle.integer.specs.Quotient.{ceil_div}
use Rattle.integer.proofs.Absolute.{abs_neg}
use Rattle.doubles_guess.specs.Units.{signed_by, whole, Double, plus_zero}
use Rattle.doubles_guess.proofs.Exact.{value_whole, some, same_value}
use Rattle.doubles_interval.specs.Ends.{LowEnd, HighEnd, dropped, toward, away, below, above}
use Rattle.doubles_interval.proofs.Cut.{Cut, cut}
use Rattle.integer.proofs.Difference.{neg_pos}
use Rattle.integer.proofs.Order.{le_pos, pos_le, le_neg, neg_le, pos_neg}
use Rattle.doubles_interval.proofs.Values.{units_double, units_value}

abbrev pub end_room : ℕ
end_room = 2 ^ 2097

-- a double's whole number, by its sign
by_double : (y : Float) → Double y → {Goal : Type 0} → ((q k : ℕ) → q < 2 ^ 53 → whole y ≡ pos (q * 2 ^ k) → Goal) → ((q k : ℕ) → q < 2 ^ 53 → whole y ≡ neg_ℤ (pos (q * 2 ^ k)) → Goal) → Goal
by_double y d {Goal} f g = let w = some y d in go w.0 w.1 w.2 w.3 (value_whole y w.0 (w.1 * 2 ^ w.2) w.4)
  where
    go : (s : Bool) (q k : ℕ) → q < 2 ^ 53 → whole y ≡ signed_by s (q * 2 ^ k) → Goal
    go false q k l e = f q k l e
    go true q k l e = g q k l e

zero_held : T (fits binary64 plus_zero)
unfolding fits
zero_held = tt

plus_zero_lem : (r : Float) (n : ℕ) → Double r → HasValue r false n (2 ^ 1074) → pos n ≡ pos 0 → r ≡ plus_zero
plus_zero_lem r n d v e = same_value r plus_zero false n d.held zero_held v (rw (ap nat_abs e) (refl, refl))

no_zero : (n : ℕ) → 0 < n → neg_ℤ (pos n) ≡ pos 0 → ⊥
no_zero n h e = let z : n ≡ 0 = sym (abs_neg (pos n)) ∙ ap nat_abs e in omega arith

-- ---- ±n units cut, and one up
module _ (s : Bool) (n : ℕ) (small : n < end_room) where
  abbrev k : ℕ
  k = dropped n

  abbrev low : ℕ
  low = n / 2 ^ k * 2 ^ k

  abbrev high : ℕ
  high = ceil_div n (2 ^ k) * 2 ^ k

  c : Cut n (n / 2 ^ k) (ceil_div n (2 ^ k)) k
  c = cut n

  low_room : low < 2 ^ 2098
  low_room = NatL.lt_of_le_of_lt c.low (NatL.lt_of_lt_of_le small (NatL.le_of_lt (pow-lt {i = 2097} {j = 2098} (omega arith))))

  high_room : high < 2 ^ 2098
  high_room =
      NatL.lt_of_le_of_lt (c.least 1 2097 (omega arith) (NatL.le_trans (NatL.le_of_lt small) (NatL.le_of_eq (sym (NatL.one-mul (2 ^ 2097))))))
      (NatL.lt_of_le_of_lt (NatL.le_of_eq (NatL.one-mul (2 ^ 2097))) (pow-lt {i = 2097} {j = 2098} (omega arith)))

  toward_value : HasValue (toward s n) s low (2 ^ 1074)
  unfolding toward
  toward_value = units_value s (n / 2 ^ k) k c.narrow low_room

  toward_double : Double (toward s n)
  unfolding toward
  toward_double = units_double s (n / 2 ^ k) k c.narrow low_room

  away_value : HasValue (away s n) s high (2 ^ 1074)
  unfolding away
  away_value = units_value s (ceil_div n (2 ^ k)) k c.digits_max high_room

  away_double : Double (away s n)
  unfolding away
  away_double = units_double s (ceil_div n (2 ^ k)) k c.digits_max high_room

  low_some : 0 < n → 0 < low
  low_some h = c.most 1 0 (omega arith) h

  high_some : 0 < n → 0 < high
  high_some h = NatL.lt_of_lt_of_le h c.high

-- ---- the ends
pub low_end : (z : ℤ) → nat_abs z < end_room → LowEnd (below z) z
unfolding below
low_end (pos n) small =
    let e : whole (toward false n) ≡ pos (low false n small) = value_whole (toward false n) false _ (toward_value false n small) in
    record {
      double = toward_double false n small;
      under = rw e (le_pos (c false n small).low);
      most = λ y d h. rw e (by_double y d
          (λ q k l w. rw w (le_pos ((c false n small).most q k l (pos_le (rw w at h)))))
          (λ q k l w. rw w (neg_pos (q * 2 ^ k) (low false n small))));
      plus = λ z. plus_zero_lem (toward false n) _ (toward_double false n small) (toward_value false n small) (sym e ∙ z);
    }
low_end (negsuc n) small =
    let e : whole (away true (suc n)) ≡ neg_ℤ (pos (high true (suc n) small)) = value_whole (away true (suc n)) true _ (away_value true (suc n) small) in
    record {
      double = away_double true (suc n) small;
      under = rw e (le_neg {n = suc n} (c true (suc n) small).high);
      most = λ y d h. rw e (by_double y d
          (λ q k l w. absurd (let f : q * 2 ^ k + suc n ≤ 0 = pos_neg (q * 2 ^ k) (suc n) (rw w at h) in omega arith))
          (λ q k l w. rw w (le_neg ((c true (suc n) small).least q k l (neg_le {n = suc n} (rw w at h))))));
      plus = λ z. absurd (no_zero _ (high_some true (suc n) small (omega arith)) (sym e ∙ z));
    }

pub high_end_lem : (z : ℤ) → nat_abs z < end_room → HighEnd (above z) z
unfolding above
high_end_lem (pos n) small =
    let e : whole (away false n) ≡ pos (high false n small) = value_whole (away false n) false _ (away_value false n small) in
    record {
      double = away_double false n small;
      over = rw e (le_pos (c false n small).high);
      least = λ y d h. rw e (by_double y d
          (λ q k l w. rw w (le_pos ((c false n small).least q k l (pos_le (rw w at h)))))
          (λ q k l w.
          let f : n + q * 2 ^ k ≤ 0 = pos_neg n (q * 2 ^ k) (rw w at h) in
          let g : high false n small ≤ q * 2 ^ k = (c false n small).least q k l (omega arith) in
          let m : q * 2 ^ k ≡ 0 = omega arith in
          rw (w, m) (le_pos (NatL.le_trans g (NatL.le_of_eq m)))));
      plus = λ z. plus_zero_lem (away false n) _ (away_double false n small) (away_value false n small) (sym e ∙ z);
    }
high_end_lem (negsuc n) small =
    let e : whole (toward true (suc n)) ≡ neg_ℤ (pos (low true (suc n) small)) = value_whole (toward true (suc n)) true _ (toward_value true (suc n) small) in
    record {
      double = toward_double true (suc n) small;
      over = rw e (le_neg {m = suc n} (c true (suc n) small).low);
      least = λ y d h. rw e (by_double y d
          (λ q k l w. rw w (neg_pos (low true (suc n) small) (q * 2 ^ k)))
          (λ q k l w. rw w (le_neg ((c true (suc n) small).most q k l (neg_le {m = suc n} (rw w at h))))));
      plus = λ z. absurd (no_zero _ (low_some true (suc n) small (omega arith)) (sym e ∙ z));
    }

-- ---- nothing between
pub nothing_below : (r : Float) (z : ℤ) → LowEnd r z → (y : Float) → Double y → whole r <ℤ whole y → whole y ≤ℤ z → ⊥
nothing_below r z h y d over under = clash_ℤ over (h.most y d under)

pub nothing_above : (r : Float) (z : ℤ) → HighEnd r z → (y : Float) → Double y → z ≤ℤ whole y → whole y <ℤ whole r → ⊥
nothing_above r z h y d over under = clash_ℤ under (h.least y d over)
