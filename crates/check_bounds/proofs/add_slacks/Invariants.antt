use mathlib.Core.Path.{◌≡◌}
use Prim.Native.Nat.{ℕ, ◌+◌, ◌*◌, ◌≤◌}
use lib.IntN.{nat_abs}
use lib.ListN.{length, get_or}
use Rattle.integer.specs.Finite.{sumℕ}
use Rattle.linear.specs.Place.{Carried}
use Rattle.check_biased_rows.specs.Biased.{unbiased_rows}
use Rattle.check_arrays.specs.Arrays.{PrefixIs}
use Rattle.check_bounds.proofs.add_slacks.Given as goal

abbrev pub invariant-loop-m : goal.invariant-loop-m
invariant-loop-m l = (l.m ≤ l.n) × (Carried 0 (l.n + 1) l.m l.row × ((length l.magnitudes ≡ 32)
    × (PrefixIs 0 l.magnitudes l.m (λ (i : ℕ). get_or l.initial.magnitudes i 0 + sumℕ l.n (λ (j : ℕ). nat_abs (unbiased_rows l.rows l.n i j) * get_or l.slacks j 0)) × ((i : ℕ) → l.m ≤ i → get_or l.magnitudes i 0 ≡ get_or l.initial.magnitudes i 0))))
