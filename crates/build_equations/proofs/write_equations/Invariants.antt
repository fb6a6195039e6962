use Rattle.build_equations.specs.Kept.{kept_matrix, kept_right}
use Rattle.build_equations.specs.Written.{width_of, rows_written}
use Rattle.integer.specs.Finite.{sumℕ}
use Rattle.linear.specs.Written.{written}
use lib.ListN.{length}
use Prim.Native.Nat.{◌≤◌}
use mathlib.Core.Path.{◌≡◌}
use Rattle.build_equations.proofs.write_equations.Given as goal

abbrev pub invariant-loop-i : goal.invariant-loop-i
invariant-loop-i l = (l.i ≤ l.n) × (l.start ≡ sumℕ l.i (width_of l.layout l.n)) × (length l.matrix ≡ length l.initial.matrix) × (length l.right ≡ length l.initial.right)
    × (l.matrix ≡ rows_written (width_of l.layout l.n) l.i (kept_matrix l.g) l.initial.matrix) × (l.right ≡ written l.initial.right 0 1 (kept_right l.g) l.i)
