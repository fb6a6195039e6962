-- Outward: a height as a pair of doubles (02, Paper 11: "the largest double not above (X − E)/S and the smallest not below (X + E)/S").
--   units_of s z     — z steps, 2^s to one, in units of 2 ^ -1074
--   interval_of s x e — the two ends of the height x with the limit e
--   Outward s x e v — v is these ends, in 02's words
--   Between v N q   — the height N / q lies between the ends of v: q · low ≤ N ≤ q · high, in units
--   WithinLimit s x e N q — N / q lies within the limit e of x, in steps (01: "It lies within limit E_i if |S·N_i − q·X_i| is at most q·E_i")
--   Steps s x y     — the double y is exactly x steps
--   Returned s x y v — y, a double of x steps, went in as x and came back as v: both ends have its value and are one double, y itself but for minus zero, and
--     plus zero for a zero
use Rattle.std.specs.Prelude.{◌≡◌, ℕ, ◌*◌, ◌-◌, ◌^◌, ◌≤◌, ℤ, pos, nat_abs, ◌+ℤ◌, ◌-ℤ◌, ◌*ℤ◌, Float, ◌≤ℤ◌}
use Rattle.doubles_guess.specs.Guess.{guess_for}
use Rattle.doubles_guess.specs.Units.{whole, plus_zero}
use Rattle.doubles_interval.specs.Ends.{LowEnd, HighEnd, below, above}
use Rattle.doubles_interval.specs.declared.Interval.{Interval}

abbrev pub units_of : ℕ → ℤ → ℤ
units_of s z = pos (2 ^ (1074 - s)) *ℤ z

abbrev pub interval_of : ℕ → ℤ → ℕ → Interval
interval_of s x e = record { low = below (units_of s (x -ℤ pos e)); high = above (units_of s (x +ℤ pos e)) }

pub record Outward (s : ℕ) (x : ℤ) (e : ℕ) (v : Interval) : Type 0 where
  pub low : LowEnd v.low (units_of s (x -ℤ pos e))
  pub high : HighEnd v.high (units_of s (x +ℤ pos e))

pub record Between (v : Interval) (N : ℤ) (q : ℕ) : Type 0 where
  pub low : (pos q *ℤ whole v.low) ≤ℤ (pos (2 ^ 1074) *ℤ N)
  pub high : (pos (2 ^ 1074) *ℤ N) ≤ℤ (pos q *ℤ whole v.high)

abbrev pub WithinLimit : ℕ → ℤ → ℕ → ℤ → ℕ → Type 0
WithinLimit s x e N q = nat_abs (pos (2 ^ s) *ℤ N -ℤ pos q *ℤ x) ≤ q * e

abbrev pub Steps : ℕ → ℤ → Float → Type 0
Steps s x y = whole y *ℤ pos (2 ^ s) ≡ pos (2 ^ 1074) *ℤ x

pub record Returned (s : ℕ) (x : ℤ) (y : Float) (v : Interval) : Type 0 where
  pub inward : guess_for s y ≡ x
  pub value : whole v.low ≡ whole y
  pub one : v.low ≡ v.high
  pub same : (whole y ≡ pos 0 → ⊥) → v.low ≡ y
  pub plus : whole y ≡ pos 0 → v.low ≡ plus_zero
