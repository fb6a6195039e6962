use mathlib.Core.Path.{◌≡◌}
use mathlib.Core.Bool.{false}
use mathlib.Core.List.{[]}
use Prim.Native.Nat.{ℕ, ◌≤◌, ◌<◌}
use Rattle.enclosure.specs.Problem.{problem_of}
use Rattle.check_arrays.specs.Arrays.{PrefixIs}
use Rattle.weights_spec.specs.Sequence.{tried, good}
use Rattle.weights_search.proofs.search.Given as goal

abbrev pub invariant-loop-passed : goal.invariant-loop-passed
invariant-loop-passed l = (l.passed ≤ l.allowance)
    × (PrefixIs 0 l.weights l.n (tried (problem_of l.n 0 l.t l.matrix [] [] [] l.inverse []) l.passed)
    × ((k : ℕ) → k < l.passed → good (problem_of l.n 0 l.t l.matrix [] [] [] l.inverse []) (tried (problem_of l.n 0 l.t l.matrix [] [] [] l.inverse []) k) ≡ false))
