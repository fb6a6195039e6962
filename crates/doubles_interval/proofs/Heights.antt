-- What 02, Paper 11, says of a height's two ends.
--   outward   — the ends that `interval_of` gives are those of 02's words
--   between   — whatever lies within the limit lies between the ends
--   ordered, wider — low is not above high, and a wider limit never narrows the interval
--   step_double — X/S is a double;  meets — so both ends of X with the limit 0 are X/S, and one double
--   again     — and X comes back from it
--   round_trip — a double that is a whole number of steps goes in and comes back: the same value, plus zero for minus zero, else the same double
use mathlib.Core.Path.{◌≡◌, sym, ap, ◌∙◌, subst}
use mathlib.Core.Bool.{Bool, true, false}
use Prim.Native.Nat.{ℕ, suc, ◌+◌, ◌-◌, ◌*◌, ◌^◌, ◌≤◌, ◌<◌}
use native.Mathlib.Nat as NatL
use native.Mathlib.Omega.{arith}
use lib.IntN.{ℤ, pos, negsuc, neg_ℤ, nat_abs, ◌+ℤ◌, ◌-ℤ◌, ◌*ℤ◌, +ℤ_idr, +ℤ_invr, pos-*ℤ-pos}
use lib.Pow.{pow_pos, pow_mono, pow-add, shl_lt}
use lib.Signed.{◌≤ℤ◌}
use lib.Ieee.{Float, binary64, units}
use Rattle.integer.proofs.Absolute.{abs-*, abs-+, abs_sub, abs_zero}
use Rattle.integer.proofs.Difference.{is, zz}
use Rattle.integer.proofs.Ring.{ring, by_zero, *-assoc, *-neg}
use Rattle.doubles_guess.specs.Guess.{guess_for}
use Rattle.doubles_guess.specs.Units.{signed_by, whole, Double}
use Rattle.doubles_guess.proofs.Exact.{value_whole}
use Rattle.doubles_guess.proofs.Steps.{guess_whole}
use Rattle.doubles_interval.specs.Ends.{LowEnd, HighEnd}
use Rattle.doubles_interval.specs.Interval.{units_of, interval_of, Outward, Between, WithinLimit, Steps, Returned}
use Rattle.doubles_interval.specs.declared.Interval.{Interval}
use Rattle.doubles_interval.proofs.Ends.{end_room, low_end, high_end_lem}
use Rattle.integer.proofs.Order.{le_trans, times, low_side, high_side}
use Rattle.doubles_interval.proofs.Unique.{same_whole, ends_meet}
use Rattle.doubles_interval.proofs.Values.{units_double, units_value, fine_magnitude}

-- z steps in units are few enough for a double
small_units : (s : ℕ) (z : ℤ) → nat_abs z < 2 ^ 61 → nat_abs (units_of s z) < end_room
small_units s z h =
    NatL.lt_of_le_of_lt (NatL.le_of_eq (abs-* (pos (2 ^ (1074 - s))) z ∙ NatL.mul_comm (2 ^ (1074 - s)) (nat_abs z)))
    (NatL.lt_of_lt_of_le (shl_lt 61 (1074 - s) h) (pow_mono {i = 61 + (1074 - s)} {j = 2097} (omega arith)))

pub outward : (s : ℕ) (x : ℤ) (e : ℕ) → nat_abs x ≤ 2 ^ 36 → e ≤ 2 ^ 60 → Outward s x e (interval_of s x e)
outward s x e hx he = record {
  low = low_end (units_of s (x -ℤ pos e)) (small_units s (x -ℤ pos e) (omega (arith, abs_sub x (pos e))));
  high = high_end_lem (units_of s (x +ℤ pos e)) (small_units s (x +ℤ pos e) (omega (arith, abs-+ x (pos e))));
}

-- a unit is 2 ^ -1074
unit : (s : ℕ) → s ≤ 1074 → 2 ^ (1074 - s) * 2 ^ s ≡ 2 ^ 1074
unit s h = let e : 1074 - s + s ≡ 1074 = omega arith in sym (pow-add 2 (1074 - s) s) ∙ ap (λ (i : ℕ). 2 ^ i) e

in_units : (s : ℕ) (N : ℤ) → s ≤ 1074 → pos (2 ^ (1074 - s)) *ℤ (pos (2 ^ s) *ℤ N) ≡ pos (2 ^ 1074) *ℤ N
in_units s N h =
    sym (*-assoc (pos (2 ^ (1074 - s))) (pos (2 ^ s)) N)
    ∙ ap (λ (z : ℤ). z *ℤ N) (pos-*ℤ-pos (2 ^ (1074 - s)) (2 ^ s) ∙ ap pos (unit s h))

module _ (s : ℕ) (x : ℤ) where
  pub between : (e : ℕ) (v : Interval) → s ≤ 1074 → Outward s x e v → (N : ℤ) (q : ℕ) → WithinLimit s x e N q → Between v N q
  between e v h o N q w = record {
    low = le_trans (times q o.low.under) (subst (λ (z : ℤ). (pos q *ℤ units_of s (x -ℤ pos e)) ≤ℤ z) (in_units s N h) (low_side q (2 ^ (1074 - s)) (2 ^ s) e N x w));
    high = le_trans (subst (λ (z : ℤ). z ≤ℤ (pos q *ℤ units_of s (x +ℤ pos e))) (in_units s N h) (high_side q (2 ^ (1074 - s)) (2 ^ s) e N x w)) (times q o.high.over);
  }

  less : (e e' : ℕ) → e ≤ e' → (x -ℤ pos e') ≤ℤ (x -ℤ pos e)
  less e e' h = rw (is x) (simp zz (omega arith))

  more : (e e' : ℕ) → e ≤ e' → (x +ℤ pos e) ≤ℤ (x +ℤ pos e')
  more e e' h = rw (is x) (simp zz (omega arith))

  pub ordered : (e : ℕ) (v : Interval) → Outward s x e v → whole v.low ≤ℤ whole v.high
  ordered e v o = le_trans o.low.under (le_trans (times (2 ^ (1074 - s)) apart) o.high.over)
    where
      apart : (x -ℤ pos e) ≤ℤ (x +ℤ pos e)
      apart = rw (is x) (simp zz (omega arith))

  pub wider : (e e' : ℕ) (v v' : Interval) → e ≤ e' → Outward s x e v → Outward s x e' v' → (whole v'.low ≤ℤ whole v.low) × (whole v.high ≤ℤ whole v'.high)
  wider e e' v v' h o o' = (
    o.low.most v'.low o'.low.double (le_trans o'.low.under (times (2 ^ (1074 - s)) (less e e' h))),
    o.high.least v'.high o'.high.double (le_trans (times (2 ^ (1074 - s)) (more e e' h)) o'.high.over),
  )

  -- ---- with the limit 0
  abbrev Exact : Interval → Type 0
  Exact v = (whole v.low ≡ units_of s x) × (v.low ≡ v.high)

  at_double : (v : Interval) → Outward s x 0 v → (y : Float) → Double y → whole y ≡ units_of s x → Exact v
  at_double v o y d e =
      ends_meet v.low v.high (units_of s x) (subst (λ (z : ℤ). LowEnd v.low (units_of s z)) (+ℤ_idr x) o.low)
      (subst (λ (z : ℤ). HighEnd v.high (units_of s z)) (+ℤ_idr x) o.high) y d e

  -- X/S by its sign, its digits and its shift
  pub step_double : nat_abs x < 2 ^ 53 → (y : Float) × Double y × (whole y ≡ units_of s x)
  step_double l =
      let g = signs x in
      let n = nat_abs x in
      let b : n ≤ 2 ^ 53 = omega arith in
      let f = fine_magnitude n (1074 - s) l (omega arith) in
      let y = units binary64 g.0 n (1074 - s) in
      (y, units_double g.0 n (1074 - s) b f, value_whole y g.0 (n * 2 ^ (1074 - s)) (units_value g.0 n (1074 - s) b f) ∙ sym g.1)
    where
      signs : (z : ℤ) → (neg : Bool) × (units_of s z ≡ signed_by neg (nat_abs z * 2 ^ (1074 - s)))
      signs (pos n) = (false, pos-*ℤ-pos (2 ^ (1074 - s)) n ∙ ap pos (NatL.mul_comm (2 ^ (1074 - s)) n))
      signs (negsuc n) =
          (true, *-neg (pos (2 ^ (1074 - s))) (pos (suc n)) ∙ ap neg_ℤ (pos-*ℤ-pos (2 ^ (1074 - s)) (suc n) ∙ ap pos (NatL.mul_comm (2 ^ (1074 - s)) (suc n))))

  pub meets : nat_abs x < 2 ^ 53 → (v : Interval) → Outward s x 0 v → Exact v
  meets h v o = let y = step_double h in at_double v o y.0 y.1 y.2

  -- ---- back
  steps_back : (y : Float) → s ≤ 1074 → whole y ≡ units_of s x → Steps s x y
  steps_back y h e = ap (λ (z : ℤ). z *ℤ pos (2 ^ s)) e ∙ turn (pos (2 ^ (1074 - s))) (pos (2 ^ s)) x ∙ in_units s x h
    where
      turn : (p t x : ℤ) → p *ℤ x *ℤ t ≡ p *ℤ (t *ℤ x)
      turn p t x = simp ring

  pub again : s ≤ 1074 → nat_abs x < 2 ^ 53 → (v : Interval) → Outward s x 0 v → guess_for s v.low ≡ x
  again h l v o = guess_whole s v.low x (steps_back v.low h (meets l v o).0)

pub round_trip : (s : ℕ) (x : ℤ) (y : Float) → s ≤ 1074 → Double y → Steps s x y → (v : Interval) → Outward s x 0 v → Returned s x y v
round_trip s x y h d e v o =
    let w : whole y ≡ units_of s x = cancel (2 ^ s) (pow_pos s) (whole y) (units_of s x) (e ∙ sym (in_units s x h) ∙ turn (pos (2 ^ (1074 - s))) (pos (2 ^ s)) x) in
    let m = at_double s x v o y d w in
    record {
      inward = guess_whole s y x e;
      value = m.0 ∙ sym w;
      one = m.1;
      same = λ n. same_whole v.low y o.low.double d (m.0 ∙ sym w) (λ z. n (w ∙ sym m.0 ∙ z));
      plus = λ z. o.low.plus (m.0 ∙ sym w ∙ z);
    }
  where
    turn : (p t x : ℤ) → p *ℤ (t *ℤ x) ≡ p *ℤ x *ℤ t
    turn p t x = simp ring

    cancel : (d : ℕ) → 0 < d → (a b : ℤ) → a *ℤ pos d ≡ b *ℤ pos d → a ≡ b
    cancel d p a b e =
        by_zero (abs_zero (a -ℤ b) (NatL.le_of_mul-le-mul_right (NatL.le_of_eq (sym (abs-* (a -ℤ b) (pos d)) ∙ ap nat_abs (factor a b (pos d) ∙ minus_self e) ∙ sym (NatL.zero-mul d))) p))
      where
        factor : (a b d : ℤ) → (a -ℤ b) *ℤ d ≡ a *ℤ d -ℤ b *ℤ d
        factor a b d = simp ring

        minus_self : {u w : ℤ} → u ≡ w → u -ℤ w ≡ pos 0
        minus_self {u} {w} e = rw e (+ℤ_invr w)
