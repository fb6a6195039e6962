use mathlib.Core.Bool.{true}
use mathlib.Core.Path.{◌≡◌}
use Prim.Native.Nat.{ℕ, ◌+◌, ◌*◌, ◌≤◌}
use lib.ListN.{length}
use Rattle.linear.specs.Slice.{at}
use Rattle.linear.specs.Place.{Carried}
use Rattle.check_arrays.specs.Arrays.{columns_written}
use Rattle.check_bounds.specs.Limits.{limits_of}
use Rattle.check_inverse_bounds.specs.SymmetricRows.{KnownHalf}
use Rattle.check_inverse_bounds.proofs.store_columns.Given as goal

abbrev pub invariant-loop-j : goal.invariant-loop-j
invariant-loop-j l = (l.j ≤ l.n) × ((Carried 0 (l.n + 1) l.j l.place × Carried 0 l.n l.j l.start) × (((length l.list ≡ length l.initial.list) × ((length l.magnitudes ≡ 32) × (length l.biased ≡ 33)))
    × ((l.symmetric ≡ true → KnownHalf l.list l.n l.j l.rows l.residuals) × (l.dst ≡ columns_written l.initial.dst l.n (λ (i k : ℕ). limits_of l.n l.rows (λ (a : ℕ). at l.residuals (k * l.n + a)) (λ (a : ℕ). 0) l.margins l.weights i) l.j))))
