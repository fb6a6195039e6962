-- V is X/S rounded to a whole unit, and the limit of a register entry (specs/Entry) is the least that covers.
--   entry_near   — X lies at most half a unit from V, and at just a half V lies farther from 0 than X
--   entry_limit  — it covers every fraction within E steps of the guess, and none below it does
--   entry_covers — the first part: |S·N − q·X| ≤ q·E gives |N − q·V| ≤ q·(entry limit)
--   paper_limit  — 02's own numbers, X = 24, s = 4, E = 10: the entry is 2, and its limit goes from E/S rounded up, 1, to 2; 14/16 lies within 10 steps of
--     24/16, and 1 does not cover it
use mathlib.Core.Path.{◌≡◌, refl}
use Prim.Native.Nat.{ℕ, ◌*◌, ◌≤◌, ◌<◌, ◌^◌}
use lib.Dec.{lit<, lit≤}
use lib.IntN.{ℤ, pos, nat_abs, ◌-ℤ◌, ◌*ℤ◌}
use lib.Pow.{pow_pos}
use Rattle.integer.specs.Quotient.{ceil_div, round_div}
use Rattle.integer.proofs.Rounding.{round_near, round_half}
use Rattle.integer.proofs.Covering.{covers, farthest, farthest_within, farthest_reached, least}
use Rattle.entry.specs.Entry.{entry_value, entry_bound}
use Rattle.entry.specs.Limit.{EntryLimit}

pub entry_near : (s : ℕ) (x : ℤ) → (2 * nat_abs (x -ℤ pos (2 ^ s) *ℤ entry_value s x) ≤ 2 ^ s) × (2 * nat_abs (x -ℤ pos (2 ^ s) *ℤ entry_value s x) ≡ 2 ^ s → nat_abs x < 2 ^ s * nat_abs (entry_value s x))
entry_near s x = (round_near x (2 ^ s) (pow_pos s), round_half x (2 ^ s) (pow_pos s))

pub entry_limit : (s : ℕ) (x : ℤ) (e : ℕ) → EntryLimit s x e (entry_bound s x e)
unfolding entry_bound
entry_limit s x e = record {
  covers = λ N q. covers (2 ^ s) q e N x (entry_value s x) (pow_pos s);
  far = farthest (2 ^ s) e x (entry_value s x);
  over = 2 ^ s;
  positive = pow_pos s;
  within = farthest_within (2 ^ s) e x (entry_value s x);
  reached = farthest_reached (2 ^ s) e x (entry_value s x);
  least = λ b. least (2 ^ s) e x (entry_value s x) b (pow_pos s);
}

pub entry_covers : (s : ℕ) (x : ℤ) (e : ℕ) (N : ℤ) (q : ℕ) → nat_abs (pos (2 ^ s) *ℤ N -ℤ pos q *ℤ x) ≤ q * e →
    nat_abs (N -ℤ pos q *ℤ entry_value s x) ≤ q * entry_bound s x e
entry_covers s x e = (entry_limit s x e).covers

pub paper_limit :
    ((entry_value 4 (pos 24) ≡ pos 2) × ((ceil_div 10 16 ≡ 1) × (entry_bound 4 (pos 24) 10 ≡ 2)))
    × ((nat_abs (pos 16 *ℤ pos 14 -ℤ pos 16 *ℤ pos 24) ≤ 16 * 10) × (16 * ceil_div 10 16 < nat_abs (pos 14 -ℤ pos 16 *ℤ entry_value 4 (pos 24))))
unfolding entry_bound ceil_div round_div
paper_limit = ((refl, (refl, refl)), (lit≤ tt, lit< tt))
