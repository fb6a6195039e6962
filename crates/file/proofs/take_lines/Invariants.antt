use mathlib.Core.Path.{◌≡◌}
use Prim.Native.Nat.{◌-◌}
use lib.ListN.{length}
use Rattle.loader_lists.specs.Lists.{lists}
use Rattle.file.proofs.Turns.{ReadUpTo}
use Rattle.file.proofs.take_lines.Given as goal

abbrev pub invariant-loop-at : goal.invariant-loop-at
invariant-loop-at l = (length l.matrix ≡ length l.initial.matrix) × (length l.right ≡ length l.initial.right) × (length l.tolerance ≡ length l.initial.tolerance) × (length l.guess ≡ length l.initial.guess) × (length l.inverse ≡ length l.initial.inverse) × (length l.weights ≡ length l.initial.weights)
    × ReadUpTo l.file (lists l.initial.matrix l.initial.right l.initial.tolerance l.initial.guess l.initial.inverse l.initial.weights) l.line l.at l.loader (lists l.matrix l.right l.tolerance l.guess l.inverse l.weights)

abbrev pub decreases-loop-at : goal.decreases-loop-at
decreases-loop-at l = length l.file - l.at
