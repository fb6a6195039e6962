use mathlib.Core.Path.{◌≡◌}
use Prim.Native.Nat.{ℕ, ◌+◌, ◌*◌, ◌≤◌}
use lib.ListN.{length}
use Rattle.linear.specs.Slice.{at}
use Rattle.linear.specs.Place.{Carried}
use Rattle.check_biased_rows.specs.Biased.{RowsOf}
use Rattle.check_biased_rows.proofs.bias_all.Given as goal

abbrev pub invariant-loop-i : goal.invariant-loop-i
invariant-loop-i l = (l.i ≤ l.n) × ((Carried 0 (l.n + 1) l.i l.place) × ((Carried 0 l.step l.i l.start) × ((length l.out ≡ length l.initial.out) × RowsOf l.out l.n l.i (λ (a k : ℕ). at l.xs (a * l.step + k * l.stride)))))
