use Rattle.linear.specs.Written.{written}
use mathlib.Core.Path.{◌≡◌}
use Prim.Native.Nat.{ℕ, ◌≤◌}
use lib.IntN.{pos}
use lib.ListN.{get_or}
use Rattle.doubles_interval.specs.Interval.{interval_of}
use Rattle.doubles_lists.proofs.write_intervals.Given as goal

abbrev pub invariant-loop-i : goal.invariant-loop-i
invariant-loop-i l = (l.i ≤ l.n)
    × ((l.low ≡ written l.initial.low 0 1 (λ (j : ℕ). (interval_of l.s (get_or l.guess j (pos 0)) (get_or l.bounds j 0)).low) l.i)
    × (l.high ≡ written l.initial.high 0 1 (λ (j : ℕ). (interval_of l.s (get_or l.guess j (pos 0)) (get_or l.bounds j 0)).high) l.i))
