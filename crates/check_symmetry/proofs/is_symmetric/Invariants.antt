use mathlib.Core.Path.{◌≡◌}
use Prim.Native.Nat.{ℕ, ◌+◌, ◌*◌, ◌≤◌, ◌<◌}
use Rattle.linear.specs.Slice.{at}
use Rattle.linear.specs.Place.{Carried}
use Rattle.check_symmetry.proofs.is_symmetric.Given as goal

abbrev pub invariant-loop-i : goal.invariant-loop-i
invariant-loop-i l = (l.i ≤ l.n) × (Carried 0 l.n l.i l.start × ((k : ℕ) → k < l.i → (j : ℕ) → j < k → at l.xs (k * l.n + j) ≡ at l.xs (j * l.n + k)))
