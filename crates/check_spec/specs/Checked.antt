-- What a check on lists says and leaves.
--   solution_after code I, inverse_after code I — the limit lists where this is said: the limits of the reckoning where it is nothing, as
--     before where it is a refusal
--   solution_bounds_after, inverse_bounds_after — the limit lists after a check
--   Checked — the contract of `check`: what is said, the two lists, and both halves of demand 3 for the limits that the call wrote
use Rattle.std.specs.Prelude.{true, false, List, [], ◌≡◌, ℕ, ◌+◌, ◌*◌, ◌/◌, ◌%◌, get_or}
use Rattle.linear.specs.Matrix.{Vec, Mat}
use Rattle.linear.specs.Written.{written}
use Rattle.rules.specs.Order.{if_accepted}
use Rattle.rules.specs.Refusal.{code, Outcome}
use Rattle.enclosure.specs.Demand.{Encloses, RoundedExact}
use Rattle.enclosure.specs.Reckoning.{bound, inverse_bound}
use Rattle.check_spec.specs.Input.{Input, problem, short, in_ranges}
use Rattle.check_spec.specs.Order.{answer}

abbrev pub solution_after : List ℕ → Input → List ℕ
solution_after code I = if_accepted code (written I.solution_bounds 0 1 (bound (problem I)) I.n) I.solution_bounds

abbrev pub inverse_after : List ℕ → Input → List ℕ
inverse_after code I =
    if_accepted code (written I.inverse_bounds 0 1 (λ (k : ℕ). inverse_bound (problem I) (k / I.n) (k % I.n)) (I.n * I.n)) I.inverse_bounds

unfoldable pub solution_bounds_after : Input → List ℕ
solution_bounds_after I = solution_after (answer I) I

unfoldable pub inverse_bounds_after : Input → List ℕ
inverse_bounds_after I = inverse_after (answer I) I

pub record Checked (I : Input) (r : Outcome) (E L : List ℕ) : Type 0 where
  pub says : code r ≡ answer I
  pub solution_bounds : E ≡ solution_bounds_after I
  pub inverse_bounds : L ≡ inverse_bounds_after I
  pub encloses : code r ≡ [] → Encloses (problem I) (λ (i : ℕ). get_or E i 0) (λ (i j : ℕ). get_or L (i * I.n + j) 0)
  pub accepts : (N : Vec) (q : ℕ) (H : Mat) (q' : ℕ) → short I ≡ false → in_ranges I ≡ true → RoundedExact (problem I) N q H q' → code r ≡ []
