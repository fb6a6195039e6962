use mathlib.Core.Path.{◌≡◌}
use Prim.Native.Nat.{◌≤◌, ◌-◌, ◌+◌}
use lib.ListN.{length}
use Rattle.line_form.specs.Reading.{others_at}
use Rattle.line_form.specs.ListAt.{listed_at}
use Rattle.line_form.proofs.Turns.{listed}
use Rattle.line_form.proofs.list_at.Given as goal

abbrev pub invariant-loop-count : goal.invariant-loop-count
invariant-loop-count l = (l.count ≤ length l.s + 1) × (length l.values ≡ 32) × (listed l.kind (record { count = l.count; inside = l.inside; values = l.values }) (others_at l.s (length l.s + 1 - l.count) l.next) ≡ listed_at l.kind l.s l.at)

abbrev pub decreases-loop-count : goal.decreases-loop-count
decreases-loop-count l = length l.s + 1 - l.count
