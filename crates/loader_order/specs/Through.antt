-- A check through a loader (01: "Order for a check: 8, 15 (desk only), 3, 5, 6, 7"). The input has the loader's n, s and t and the lists that are handed in now.
--   order_through s I  — the tests in their order, s being how far the loader has come;  answer_through — what is said: nothing where it is accepted
--   solution_bounds_through, inverse_bounds_through — the limit lists afterwards: the limits of the reckoning where it is accepted, as before where it is refused
--   CheckedThrough    — the contract of `Loader::check`: what is said, the two lists, and both halves of demand 3 for the limits that the call wrote
use Rattle.std.specs.Prelude.{true, false, not, List, [], ◌∷◌, ◌≡◌, ℕ, ◌+◌, ◌*◌, get_or}
use Rattle.rules.specs.Order.{Test, number, verdict}
use Rattle.rules.specs.Refusal.{code, Outcome}
use Rattle.linear.specs.Matrix.{Vec, Mat}
use Rattle.enclosure.specs.Demand.{Encloses, RoundedExact}
use Rattle.check_spec.specs.Input.{Input, problem, short, in_ranges}
use Rattle.check_spec.specs.Order.{computed_of}
use Rattle.check_spec.specs.Checked.{solution_after, inverse_after}
use Rattle.loader_progress.specs.Progress.{ended}
use Rattle.loader_progress.specs.declared.Stage.{Stage}

abbrev pub order_through : Stage → Input → List Test
order_through s I =
    number 8 (short I)
    ∷ number 15 (not (ended s))
    ∷ number 3 (not (in_ranges I))
    ∷ computed_of (problem I)

unfoldable pub answer_through : Stage → Input → List ℕ
answer_through s I = verdict (order_through s I)

unfoldable pub solution_bounds_through : Stage → Input → List ℕ
solution_bounds_through s I = solution_after (answer_through s I) I

unfoldable pub inverse_bounds_through : Stage → Input → List ℕ
inverse_bounds_through s I = inverse_after (answer_through s I) I

pub record CheckedThrough (s : Stage) (I : Input) (r : Outcome) (E L : List ℕ) : Type 0 where
  pub says : code r ≡ answer_through s I
  pub solution_bounds : E ≡ solution_bounds_through s I
  pub inverse_bounds : L ≡ inverse_bounds_through s I
  pub encloses : code r ≡ [] → Encloses (problem I) (λ (i : ℕ). get_or E i 0) (λ (i j : ℕ). get_or L (i * I.n + j) 0)
  pub accepts : (N : Vec) (q : ℕ) (H : Mat) (q' : ℕ) → short I ≡ false → ended s ≡ true → in_ranges I ≡ true → RoundedExact (problem I) N q H q' → code r ≡ []
