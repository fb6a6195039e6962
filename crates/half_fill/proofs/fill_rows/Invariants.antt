use mathlib.Core.Path.{◌≡◌}
use Prim.Native.Nat.{◌*◌, ◌≤◌}
use Rattle.half_fill.specs.Half.{lower_place, filled_rows}
use Rattle.half_fill.proofs.fill_rows.Given as goal

abbrev pub invariant-loop-i : goal.invariant-loop-i
invariant-loop-i l = (l.i ≤ l.n) × ((l.to ≡ l.i * l.n) × ((l.from ≡ lower_place l.i 0) × (l.out ≡ filled_rows l.n l.half l.i)))
