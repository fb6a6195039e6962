use mathlib.Core.Path.{◌≡◌}
use Prim.Native.Nat.{ℕ, ◌+◌, ◌*◌}
use lib.ListN.{get_or}
use Rattle.integer.specs.Finite.{sumℕ}
use Rattle.linear.specs.Place.{Carried}
use Rattle.weights_steps.proofs.load_of.Given as goal

abbrev pub invariant-loop-w : goal.invariant-loop-w
invariant-loop-w l =
    record {
      place : Carried l.m l.n l.w-index l.place;
      sum : l.sum ≡ sumℕ l.w-index (λ (k : ℕ). get_or l.magnitudes (k * l.n + l.m) 0 * get_or l.weights k 0);
    }
