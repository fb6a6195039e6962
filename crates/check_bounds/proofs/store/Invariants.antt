use mathlib.Core.Path.{◌≡◌}
use Prim.Native.Nat.{ℕ, ◌+◌, ◌*◌, ◌≤◌}
use lib.ListN.{get_or}
use Rattle.linear.specs.Written.{written}
use Rattle.check_bounds.proofs.store.Given as goal

abbrev pub invariant-loop-i : goal.invariant-loop-i
invariant-loop-i l = (l.i ≤ l.n) × ((l.place ≡ l.start + l.i * l.stride) × (l.dst ≡ written l.initial.dst l.start l.stride (λ (k : ℕ). get_or l.column k 0) l.i))
