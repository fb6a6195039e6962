use mathlib.Core.Path.{◌≡◌}
use Prim.Native.Nat.{ℕ, ◌≤◌}
use lib.IntN.{pos}
use lib.ListN.{get_or}
use Rattle.linear.specs.Written.{written}
use Rattle.weights_search.proofs.write_weights.Given as goal

abbrev pub invariant-loop-i : goal.invariant-loop-i
invariant-loop-i l = (l.i ≤ l.n) × (l.dst ≡ written l.initial.dst 0 1 (λ (k : ℕ). pos (get_or l.list k 0)) l.i)
