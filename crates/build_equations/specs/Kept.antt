-- The sums over the kept lines; cited by the contracts of the code alone.
--   kept_matrix g, kept_right g — the equations of the kept lines
--   RowSums seen k p r — r has the sums of the row of mark k over the first p lines of seen, at every mark from 0 to 32, and its right side
--   Grown k l r r' — r' is r with what the line l adds
--   SmallRow r    — the numbers of r are small enough for one line more
use Rattle.std.specs.Prelude.{◌≡◌, ℕ, ◌+◌, ◌≤◌, ◌^◌, nat_abs, ◌+ℤ◌, length}
use Rattle.integer.specs.Finite.{sum}
use Rattle.linear.specs.Matrix.{Vec, Mat}
use Rattle.linear.specs.Slice.{at}
use Rattle.build_lines.specs.declared.Observation.{Observation}
use Rattle.build_lines.specs.Distinct.{weight_at, gain}
use Rattle.build_gathering.specs.declared.Gathered.{Gathered}
use Rattle.build_gathering.specs.declared.KeptLines.{KeptLines}
use Rattle.build_gathering.specs.Gathered.{line_at, kept_sum}
use Rattle.build_equations.specs.declared.Row.{Row}

abbrev pub kept_matrix : Gathered → Mat
kept_matrix g i j = kept_sum (weight_at (i + 1) (j + 1)) g

abbrev pub kept_right : Gathered → Vec
kept_right g i = kept_sum (gain (i + 1)) g

pub record RowSums (seen : KeptLines) (k p : ℕ) (r : Row) : Type 0 where
  pub long : length r.sums ≡ 33
  pub sums : (m : ℕ) → m ≤ 32 → at r.sums m ≡ sum p (λ (i : ℕ). weight_at k m (line_at seen i))
  pub right : r.right ≡ sum p (λ (i : ℕ). gain k (line_at seen i))

pub record Grown (k : ℕ) (l : Observation) (r r' : Row) : Type 0 where
  pub long : length r'.sums ≡ 33
  pub sums : (m : ℕ) → m ≤ 32 → at r'.sums m ≡ at r.sums m +ℤ weight_at k m l
  pub right : r'.right ≡ r.right +ℤ gain k l

pub record SmallRow (r : Row) : Type 0 where
  pub long : length r.sums ≡ 33
  pub sums : (m : ℕ) → m ≤ 32 → nat_abs (at r.sums m) ≤ 2 ^ 30
  pub right : nat_abs r.right ≤ 2 ^ 30
