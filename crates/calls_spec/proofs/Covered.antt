-- The register entry for C, in the words of 02's Paper 2.
--   entry_written — the number 0 is said of an entry alone: value and limit are V and its limit
--   entry_covers  — every fraction N / q within the guess's limit of the guess lies within the entry's limit of the entry, in whole units
--   entry_least   — and no smaller limit would do
use mathlib.Core.Bool.{Bool, true, false}
use mathlib.Core.List.{List}
use mathlib.Core.Path.{◌≡◌, refl}
use Prim.Native.Nat.{ℕ, ◌*◌, ◌≤◌, ◌^◌}
use native.Mathlib.Omega.{arith}
use lib.IntN.{ℤ, pos, nat_abs, ◌-ℤ◌, ◌*ℤ◌}
use Rattle.entry.specs.Entry.{entry_value, entry_bound}
use Rattle.entry.specs.Limit.{EntryLimit}
use Rattle.entry.proofs.Limit.{entry_limit}
use Rattle.entry.specs.Register as entry
use Rattle.calls_spec.specs.Exported.{EntryExported}
use Rattle.calls_spec.proofs.Meaning.{entry_zero, entry_three}

module _ {x : ℤ} {e s : ℕ} {v₀ : ℤ} {b₀ number : ℕ} {places : List ℕ} {v : ℤ} {b : ℕ} (y : EntryExported x e s v₀ b₀ number places v b) (z : number ≡ 0) where
  pub entry_written : (v ≡ entry_value s x) × (b ≡ entry_bound s x e)
  entry_written = go (entry.can_enter x s) refl
    where
      go : (inside : Bool) → entry.can_enter x s ≡ inside → (v ≡ entry_value s x) × (b ≡ entry_bound s x e)
      go true h = (entry_zero y h).1
      go false h = absurd (omega (arith, (entry_three y h).0, z))

  pub entry_covers : (N : ℤ) (q : ℕ) → nat_abs (pos (2 ^ s) *ℤ N -ℤ pos q *ℤ x) ≤ q * e → nat_abs (N -ℤ pos q *ℤ v) ≤ q * b
  entry_covers = rw (entry_written.0, entry_written.1) (entry_limit s x e).covers

  pub entry_least : EntryLimit s x e b
  entry_least = rw entry_written.1 (entry_limit s x e)
