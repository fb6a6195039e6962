use mathlib.Core.Path.{◌≡◌}
use Prim.Native.Nat.{ℕ, ◌≤◌}
use Rattle.linear.specs.Slice.{at}
use Rattle.linear.specs.Written.{written}
use Rattle.half_fill.specs.Half.{half_place}
use Rattle.half_fill.proofs.fill_row.Given as goal

abbrev pub invariant-loop-j : goal.invariant-loop-j
invariant-loop-j l =
    record {
      in_row : l.j ≤ l.n;
      place : l.place ≡ half_place l.i l.j;
      written : l.out ≡ written l.initial.out l.to 1 (λ (k : ℕ). at l.half (half_place l.i k)) l.j;
    }
