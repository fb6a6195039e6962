-- The common interval of each height (document 02, Paper 13: "From two accepted proposals give each height's common interval, in the finer of the two steps:
-- the larger lower end and the smaller upper end.").
--   maxℤ, minℤ  — the larger and the smaller of two whole numbers
--   finer I J   — s of the finer of the two steps, the larger of both: S = 2^s steps make one unit
--   in_steps s I z — z of I's own steps, in steps of 2^s to a unit
--   low_of s I i, high_of s I i — X − E and X + E of height i, of one proposal
--   low_end I J i, high_end I J i — the ends of its common interval
--   WithinEnds I J low high N q — q·low_i ≤ S·N_i ≤ q·high_i for every height N_i / q, with S = 2^s of the finer step
--   Contains I J low high — "It contains the exact height for every right side within the tolerance, and its lower end is never above its upper"
use Rattle.std.specs.Prelude.{cond, ℕ, ◌-◌, ◌<◌, ◌^◌, max, ℤ, pos, ◌+ℤ◌, ◌-ℤ◌, ◌*ℤ◌, ◌≤ℤ◌}
use Rattle.std.specs.Int.Signed.{le_z}
use Rattle.linear.specs.Matrix.{Vec}
use Rattle.linear.specs.Slice.{at}
use Rattle.enclosure.specs.Demand.{RightSide, ExactSolution, ExactSolutionOf}
use Rattle.enclosure.specs.Reckoning.{bound}
use Rattle.check_spec.specs.Input.{Input, problem}

abbrev pub maxℤ : ℤ → ℤ → ℤ
maxℤ x y = cond (le_z x y) y x

abbrev pub minℤ : ℤ → ℤ → ℤ
minℤ x y = cond (le_z x y) x y

abbrev pub finer : Input → Input → ℕ
finer I J = max I.s J.s

abbrev pub in_steps : ℕ → Input → ℤ → ℤ
in_steps s I z = pos (2 ^ (s - I.s)) *ℤ z

abbrev pub low_of : ℕ → Input → ℕ → ℤ
low_of s I i = in_steps s I (at I.guess i -ℤ pos (bound (problem I) i))

abbrev pub high_of : ℕ → Input → ℕ → ℤ
high_of s I i = in_steps s I (at I.guess i +ℤ pos (bound (problem I) i))

unfoldable pub low_end : Input → Input → ℕ → ℤ
low_end I J i = maxℤ (low_of (finer I J) I i) (low_of (finer I J) J i)

unfoldable pub high_end : Input → Input → ℕ → ℤ
high_end I J i = minℤ (high_of (finer I J) I i) (high_of (finer I J) J i)

abbrev pub WithinEnds : Input → Input → (ℕ → ℤ) → (ℕ → ℤ) → Vec → ℕ → Type 0
WithinEnds I J low high N q =
    (i : ℕ) → i < I.n → ((pos q *ℤ low i) ≤ℤ (pos (2 ^ finer I J) *ℤ N i)) × ((pos (2 ^ finer I J) *ℤ N i) ≤ℤ (pos q *ℤ high i))

pub record Contains (I J : Input) (low high : ℕ → ℤ) : Type 0 where
  pub height : (β : Vec) (ρ : ℕ) → RightSide (problem I) β ρ → (N : Vec) (q : ℕ) → ExactSolutionOf (problem I) β ρ N q → WithinEnds I J low high N q
  -- of b itself
  pub at_b : (N : Vec) (q : ℕ) → ExactSolution (problem I) N q → WithinEnds I J low high N q
  pub ordered : (i : ℕ) → i < I.n → low i ≤ℤ high i
