use mathlib.Core.Bool.{false}
use mathlib.Core.Path.{◌≡◌}
use Prim.Native.Nat.{ℕ, ◌*◌, ◌%◌, ◌<◌}
use Rattle.linear.specs.Slice.{at}
use Rattle.check_arrays.specs.Parts.{above_allowed}
use Rattle.check_residuals.proofs.first_above_in_columns.Given as goal

abbrev pub invariant-loop : goal.invariant-loop
invariant-loop l =
    record {
      start : l.start ≡ l.counter * l.n;
      none : (i : ℕ) → i < l.counter * l.n → above_allowed (at l.allowed (i % l.n)) (at l.columns i) ≡ false;
    }
