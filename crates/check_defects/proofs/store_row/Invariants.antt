use mathlib.Core.Path.{◌≡◌}
use Prim.Native.Nat.{ℕ, ◌≤◌}
use Rattle.linear.specs.Place.{Carried}
use Rattle.linear.specs.Written.{written}
use Rattle.check_defects.specs.Difference.{number_less}
use Rattle.check_defects.proofs.store_row.Given as goal

abbrev pub invariant-loop-j : goal.invariant-loop-j
invariant-loop-j l = (l.j ≤ l.n) × (Carried l.m l.n l.j l.place × (l.out ≡ written l.initial.out l.m l.n (λ (i : ℕ). number_less l.t l.xs l.start l.stride l.rows l.n l.m i) l.j))
