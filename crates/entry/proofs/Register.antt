-- Laws of the register entry.
--   entry_fits — numbers in range are small enough to compute with
--   registered, not_registered — the contract, where the numbers are in range and where one is not
use mathlib.Core.Path.{◌≡◌, ap₂}
use mathlib.Core.Bool.{true, false}
use Prim.Native.Nat.{ℕ, ◌≤◌, ◌^◌}
use Rattle.std.proofs.Common.{Err}
use lib.IntN.{ℤ, pos, nat_abs}
use Rattle.rules.specs.Range.{in_range}
use Rattle.rules.specs.declared.Kind.TheVariants as kind
use Rattle.rules.specs.declared.Refusal.TheVariants.{OutOfRange}
use Rattle.rules.proofs.Ranges.{both_left, both_right, guess_range, solution_scale_range}
use Rattle.rules.proofs.Verdicts.{nothing_is_not}
use Rattle.entry.specs.Entry.{entry_value, entry_bound}
use Rattle.entry.specs.Register.{can_enter, entry_with, RegisteredAs}

module _ (x : ℤ) (s : ℕ) where
  pub entry_fits : can_enter x s ≡ true → ((nat_abs x ≤ 2 ^ 36) × (s ≤ 20))
  entry_fits h = (
    guess_range x (both_left (in_range kind.Guess x) (in_range kind.SolutionScale (pos s)) h),
    solution_scale_range s (both_right (in_range kind.Guess x) (in_range kind.SolutionScale (pos s)) h),
  )

  pub registered : {v : ℤ} {b : ℕ} (e : ℕ) → can_enter x s ≡ true → v ≡ entry_value s x → b ≡ entry_bound s x e → RegisteredAs x e s (entry_with v b)
  registered e h p q = record { says = rw h; entry = λ z. ap₂ entry_with p q }

  pub not_registered : (e : ℕ) → can_enter x s ≡ false → RegisteredAs x e s (Err OutOfRange)
  not_registered e h = record { says = rw h; entry = λ z. absurd (nothing_is_not z) }
