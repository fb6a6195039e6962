-- What is said of a check by halves, each refusal in its stated case.
--   HalfStated H code — the case that is stated for what is said: 8 for a half under 528; else the case that document 01 states (check_spec/specs/Stated)
--     for the filled-out matrix, which is long enough, so its 8 is that of another list
use Rattle.std.specs.Prelude.{true, false, List, [], ◌∷◌, ◌≡◌, ℕ, length}
use Rattle.check_spec.specs.Input.{Input}
use Rattle.check_spec.specs.Stated.{Stated}
use Rattle.half_fill.specs.Half.{short_half}
use Rattle.half_check.specs.Checked.{filled_input}

pub data HalfStated (H : Input) : List ℕ → Type 0 where
  -- 8: the half too short
  half_too_short : short_half (length H.matrix) ≡ true → HalfStated H (8 ∷ [])
  -- 8 of another list, 3, 5, 6, 7, or accepted
  as_stated : {code : List ℕ} → short_half (length H.matrix) ≡ false → Stated (filled_input H) code → HalfStated H code
