use Rattle.linear.specs.Written.{written}
use Prim.Native.Nat.{◌≤◌}
use mathlib.Core.Path.{◌≡◌}
use Rattle.common_ends.specs.Met.{lows_of, highs_of}
use Rattle.common_ends.proofs.write_ends.Given as goal

abbrev pub invariant-loop-i : goal.invariant-loop-i
invariant-loop-i l = (l.i ≤ l.n) × ((l.low ≡ written l.initial.low 0 1 (lows_of l.k1 l.first.guess.now l.first.limits.now l.k2 l.second.guess.now l.second.limits.now) l.i) × (l.high ≡ written l.initial.high 0 1 (highs_of l.k1 l.first.guess.now l.first.limits.now l.k2 l.second.guess.now l.second.limits.now) l.i))
