-- The check of a matrix that is handed in by its lower half (document 02, Paper 10).
--   with_matrix H A — the input H with another matrix list
--   filled_input H — the square input: that of H, an input whose matrix list is a half, with the matrix filled out
--   CheckedHalf — the contract of `check_half`: 8 and both limit lists as before where the half is too short; else the contract of the check on lists
--                 for the filled-out matrix, with its outcome, its limit lists and both halves of demand 3
use Rattle.std.specs.Prelude.{true, false, List, [], ◌∷◌, ◌≡◌, ℕ, ℤ, length}
use Rattle.rules.specs.Refusal.{code, Outcome}
use Rattle.check_spec.specs.Checked.{Checked}
use Rattle.check_spec.specs.Input.{Input, input}
use Rattle.half_fill.specs.Half.{short_half, filled_out}

abbrev pub with_matrix : Input → List ℤ → Input
with_matrix H A =
    input H.n H.s H.t A H.right H.tolerance H.guess H.inverse H.weights H.solution_bounds H.inverse_bounds

abbrev pub filled_input : Input → Input
filled_input H = with_matrix H (filled_out H.n H.matrix)

-- 02: "Where the lent lists are long enough, its outcome for every input equals that of the square entry on the filled-out matrix, refusals and written limits
-- included." "(8 for a list under 528.)"
pub record CheckedHalf (H : Input) (r : Outcome) (E L : List ℕ) : Type 0 where
  pub short_half_lem : short_half (length H.matrix) ≡ true → (code r ≡ 8 ∷ []) × ((E ≡ H.solution_bounds) × (L ≡ H.inverse_bounds))
  pub as_square : short_half (length H.matrix) ≡ false → Checked (filled_input H) r E L
