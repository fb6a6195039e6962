use mathlib.Core.Path.{◌≡◌}
use Prim.Native.Nat.{ℕ, ◌*◌, ◌/◌, ◌%◌, ◌≤◌}
use lib.IntN.{nat_abs}
use lib.ListN.{length}
use Rattle.check_arrays.specs.Arrays.{PrefixIs}
use Rattle.check_arrays.specs.Parts.{column_residual}
use Rattle.weights_steps.proofs.defect_magnitudes.Given as goal

abbrev pub invariant-loop-i : goal.invariant-loop-i
invariant-loop-i l = (l.i ≤ l.n * l.n) × ((length l.out ≡ 1024) × PrefixIs 0 l.out l.i (λ (k : ℕ). nat_abs (column_residual l.n l.t l.inverse l.matrix (k / l.n) (k % l.n))))
