use mathlib.Core.Path.{◌≡◌}
use Prim.Native.Nat.{ℕ, ◌≤◌}
use Rattle.linear.specs.Written.{written}
use Rattle.doubles_guess.specs.Guess.{guess_for}
use Rattle.doubles_lists.specs.Lists.{double_at}
use Rattle.doubles_lists.proofs.write_guesses.Given as goal

abbrev pub invariant-loop-i : goal.invariant-loop-i
invariant-loop-i l = (l.i ≤ l.n) × (l.guess ≡ written l.initial.guess 0 1 (λ (j : ℕ). guess_for l.s (double_at l.values j)) l.i)
