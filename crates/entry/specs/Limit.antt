-- The limit of an entry is the least that covers (02, Paper 2: "An entry must cover its own rounding").
--   EntryLimit s x e c — c is the least limit that covers. A fraction N / q lies within E steps of X if |S·N − q·X| is at most q·E. Every one of these lies
--     within c units of V, and one of them, `far` over `over`, lies just (E + |X − S·V|)/S units from V, so that nothing below c covers it
use Rattle.std.specs.Prelude.{◌≡◌, ℕ, ◌+◌, ◌*◌, ◌≤◌, ◌^◌, ℤ, pos, nat_abs, ◌-ℤ◌, ◌*ℤ◌}
use Rattle.entry.specs.Entry.{entry_value}

pub record EntryLimit (s : ℕ) (x : ℤ) (e c : ℕ) : Type 0 where
  pub covers : (N : ℤ) (q : ℕ) → nat_abs (pos (2 ^ s) *ℤ N -ℤ pos q *ℤ x) ≤ q * e → nat_abs (N -ℤ pos q *ℤ entry_value s x) ≤ q * c
  pub far : ℤ
  pub over : ℕ
  pub positive : 1 ≤ over
  pub within : nat_abs (pos (2 ^ s) *ℤ far -ℤ pos over *ℤ x) ≤ over * e
  pub reached : 2 ^ s * nat_abs (far -ℤ pos over *ℤ entry_value s x) ≡ over * (e + nat_abs (x -ℤ pos (2 ^ s) *ℤ entry_value s x))
  pub least : (b : ℕ) → nat_abs (far -ℤ pos over *ℤ entry_value s x) ≤ over * b → c ≤ b
