-- What 02's Paper 11 promises of the two calls, from their contracts alone.
--   no_double_between — (a) "No double lies strictly between either end and the number it stands for", over all finite doubles
--   within_between    — (b) whatever lies within its limit lies between the ends that were written, in units
--   guess_at          — the guess that was written is the definition's
--   comes_back        — (c) a double that is a whole number of steps goes in and comes back with the limit 0
--   exact_at_0        — whatever the guess, with the limit 0 both ends are X/S, exactly, and one double, and X comes back from it
--   never_narrower    — (d) wider limits never narrow an interval;  ends_ordered — low is not above high
use mathlib.Core.Path.{◌≡◌, sym, ap, ◌∙◌}
use mathlib.Core.List.{List, []}
use Prim.Native.Nat.{ℕ, ◌≤◌, ◌<◌, ◌^◌}
use native.Mathlib.Omega.{arith}
use lib.IntN.{ℤ, pos, nat_abs, ◌+ℤ◌, ◌-ℤ◌}
use lib.ListN.{get_or}
use lib.Signed.{◌≤ℤ◌, ◌<ℤ◌}
use lib.Ieee.{Float}
use Rattle.linear.specs.Slice.{at}
use Rattle.rules.specs.Refusal.{code, Outcome}
use Rattle.doubles_guess.specs.Guess.{guess_for}
use Rattle.doubles_guess.specs.Units.{whole, Double}
use Rattle.doubles_guess.proofs.Steps.{guess_whole}
use Rattle.doubles_interval.specs.Interval.{units_of, Outward, Between, WithinLimit, Steps, Returned}
use Rattle.doubles_interval.proofs.Ends.{nothing_below, nothing_above}
use Rattle.doubles_interval.proofs.Heights.{between, ordered, wider, meets, again, round_trip}
use Rattle.doubles_lists.specs.Lists.{double_at}
use Rattle.doubles_lists.specs.Inward.{guesses_code, Incoming, GuessesOf, Guessed}
use Rattle.doubles_lists.specs.Outward.{Outgoing, outgoing, ends_in, IntervalsOf}
use Rattle.doubles_lists.proofs.Inward as inward
use Rattle.doubles_lists.proofs.Outward as outward

module _ (I : Outgoing) {r : Outcome} {low high : List Float} (c : IntervalsOf I r low high) (ok : code r ≡ []) (i : ℕ) (l : i < I.n) where
  abbrev X : ℤ
  X = at I.guess i

  abbrev E : ℕ
  E = get_or I.bounds i 0

  scale : I.s ≤ 1074
  scale = omega (arith, (outward.small_intervals I ((outward.code_nothing I).0 (sym c.says ∙ ok)).1).scale)

  pub no_double_between : (y : Float) → Double y →
      ((whole (double_at low i) <ℤ whole y) × (whole y ≤ℤ units_of I.s (X -ℤ pos E)) → ⊥)
      × ((units_of I.s (X +ℤ pos E) ≤ℤ whole y) × (whole y <ℤ whole (double_at high i)) → ⊥)
  no_double_between y d =
      let o = c.outward ok i l in (
        λ h. nothing_below (double_at low i) (units_of I.s (X -ℤ pos E)) o.low y d h.0 h.1,
        λ h. nothing_above (double_at high i) (units_of I.s (X +ℤ pos E)) o.high y d h.0 h.1,
      )

  pub within_between : (N : ℤ) (q : ℕ) → WithinLimit I.s X E N q → Between (ends_in low high i) N q
  within_between N q w = between I.s X E (ends_in low high i) scale (c.outward ok i l) N q w

  pub ends_ordered : whole (double_at low i) ≤ℤ whole (double_at high i)
  ends_ordered = ordered I.s X E (ends_in low high i) (c.outward ok i l)

  pub exact_at_0 : E ≡ 0 → (whole (double_at low i) ≡ units_of I.s X) × (double_at low i ≡ double_at high i) × (guess_for I.s (double_at low i) ≡ X)
  exact_at_0 e =
      let o : Outward I.s X 0 (ends_in low high i) = rw e at (c.outward ok i l) in
      let small : nat_abs X < 2 ^ 53 = omega (arith, (outward.small_intervals I ((outward.code_nothing I).0 (sym c.says ∙ ok)).1).guesses i l) in
      let m = meets I.s X small (ends_in low high i) o in
      (m.0, m.1, again I.s X scale small (ends_in low high i) o)

-- ---- there and back
pub guess_at : (I : Incoming) {r : Guessed} {guess : List ℤ} → GuessesOf I r guess → guesses_code r ≡ [] → (i : ℕ) → i < I.n →
    at guess i ≡ guess_for I.s (double_at I.values i)
guess_at I c ok i l = ap (λ (xs : List ℤ). at xs i) c.guesses ∙ inward.after_at I (sym c.says ∙ ok) i l

pub comes_back : (I : Incoming) {a : Guessed} {guess : List ℤ} → GuessesOf I a guess → guesses_code a ≡ [] →
    {bounds : List ℕ} {r : Outcome} {low₀ high₀ low high : List Float} → IntervalsOf (outgoing I.n I.s guess bounds low₀ high₀) r low high → code r ≡ [] →
    (i : ℕ) → i < I.n → get_or bounds i 0 ≡ 0 → (x : ℤ) → Steps I.s x (double_at I.values i) →
    (at guess i ≡ x) × Returned I.s x (double_at I.values i) (ends_in low high i)
comes_back I {a} {guess} g yes' {bounds} {r} {low₀} {high₀} {low} {high} c ok i l e x w =
    let y = double_at I.values i in
    let O = outgoing I.n I.s guess bounds low₀ high₀ in
    let is : at guess i ≡ x = guess_at I g yes' i l ∙ guess_whole I.s y x w in
    (is, round_trip I.s x y (scale O c ok i l) (g.doubles yes' i l) w (ends_in low high i) (rw (is, e) at (c.outward ok i l)))

-- ---- wider limits
pub never_narrower : (I J : Outgoing) {r r' : Outcome} {low high low' high' : List Float} → IntervalsOf I r low high → code r ≡ [] → IntervalsOf J r' low' high' → code r' ≡ [] →
    I.s ≡ J.s → (i : ℕ) → i < I.n → i < J.n → at I.guess i ≡ at J.guess i → get_or I.bounds i 0 ≤ get_or J.bounds i 0 →
    (whole (double_at low' i) ≤ℤ whole (double_at low i)) × (whole (double_at high i) ≤ℤ whole (double_at high' i))
never_narrower I J {r} {r'} {low} {high} {low'} {high'} a ok b ok' es i l l' ex h =
    wider J.s (at J.guess i) (get_or I.bounds i 0) (get_or J.bounds i 0) (ends_in low high i) (ends_in low' high' i) h (rw (es, ex) at (a.outward ok i l)) (b.outward ok' i l')
