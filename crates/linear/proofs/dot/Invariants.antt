use mathlib.Core.Path.{◌≡◌}
use Prim.Native.Nat.{◌≤◌}
use Rattle.linear.specs.Place.{Carried}
use Rattle.linear.specs.Reach.{dot_of}
use Rattle.linear.proofs.dot.Given as goal

abbrev pub invariant-loop-j : goal.invariant-loop-j
invariant-loop-j l = (l.j ≤ l.n) × ((Carried l.p l.s l.j l.at_a × Carried l.q l.u l.j l.at_x) × (l.sum ≡ dot_of l.a l.p l.s l.x l.q l.u l.j))
