use mathlib.Core.Path.{◌≡◌}
use Prim.Native.Nat.{ℕ, ◌+◌, ◌*◌, ◌≤◌}
use lib.ListN.{get_or, length}
use Rattle.integer.specs.Finite.{sum}
use Rattle.linear.specs.Slice.{at}
use Rattle.linear.specs.Place.{Carried}
use Rattle.check_biased_rows.specs.Place.{biased_place}
use Rattle.check_defects.specs.Sums.{SumsOf}
use Rattle.check_defects.proofs.add_rows.Given as goal

abbrev pub invariant-loop-k : goal.invariant-loop-k
invariant-loop-k l = (l.k ≤ l.n) × ((Carried l.start l.stride l.k l.from × Carried 0 (l.n + 1) l.k l.row)
    × ((l.total ≡ sum l.k (λ (i : ℕ). at l.xs (l.start + i * l.stride))) × ((length l.sums ≡ 64) × SumsOf l.sums l.n l.k (λ (i : ℕ). at l.xs (l.start + i * l.stride)) (λ (i j : ℕ). get_or l.rows (biased_place l.n i j) 0))))
