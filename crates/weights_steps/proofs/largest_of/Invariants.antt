use mathlib.Core.Path.{◌≡◌}
use Prim.Native.Nat.{ℕ, ◌≤◌}
use lib.ListN.{get_or}
use Rattle.integer.specs.Finite.{largest}
use Rattle.weights_steps.proofs.largest_of.Given as goal

abbrev pub invariant-loop-load : goal.invariant-loop-load
invariant-loop-load l = (l.load-index ≤ l.n) × (l.best ≡ largest l.load-index (λ (k : ℕ). get_or l.loads k 0))
