use mathlib.Core.Path.{◌≡◌}
use Prim.Native.Nat.{ℕ, ◌+◌, ◌≤◌, ◌-◌}
use lib.ListN.{length}
use Rattle.linear.specs.Place.{Carried}
use Rattle.linear.specs.Written.{written}
use Rattle.check_arrays.specs.Arrays.{PrefixIs}
use Rattle.check_bounds.specs.Limits.{column_magnitude}
use Rattle.check_inverse_bounds.proofs.work_out.Given as goal

abbrev pub invariant-loop-m : goal.invariant-loop-m
invariant-loop-m l = ((l.known ≤ l.m) × (l.m ≤ l.n)) × ((Carried l.to 1 (l.m - l.known) l.along × Carried 0 (l.n + 1) l.m l.row) × ((length l.out ≡ 32)
    × (PrefixIs 0 l.out l.m (λ (i : ℕ). column_magnitude l.rows l.residuals l.n i 0) × (l.list ≡ written l.initial.list l.to 1 (λ (i : ℕ). column_magnitude l.rows l.residuals l.n (l.known + i) 0) (l.m - l.known)))))
