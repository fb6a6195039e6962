-- What can be said of a file, in the numbers of the refusal's line (01: "In the inner brackets: the line number from 1 for 1 to 4, 11, 12 and 14; the row
-- for 5 and 6; column and row for 7; the count for 13; 0 for 15"). The program never meets 8: its own lists are long enough.
--   Alone k   — the refusals of a line that give their number alone
--   Answers l — nothing, where the file is accepted, or one of these refusals
use Rattle.std.specs.Prelude.{List, [], ◌∷◌, ℕ, ◌≤◌}

pub data Alone : ℕ → Type 0 where
  too_long : Alone 1
  no_form : Alone 2
  out_of_range : Alone 3
  wrong_count : Alone 4
  too_early : Alone 11
  repeated : Alone 12
  after_end : Alone 14

pub data Answers : List ℕ → Type 0 where
  accepted : Answers []
  of_line : {k : ℕ} → Alone k → (line : ℕ) → 1 ≤ line → Answers (k ∷ line ∷ [])
  margin : (row : ℕ) → 1 ≤ row → Answers (5 ∷ row ∷ [])
  residual : (row : ℕ) → 1 ≤ row → Answers (6 ∷ row ∷ [])
  inverse_residual_lem : (column row : ℕ) → 1 ≤ column → 1 ≤ row → Answers (7 ∷ column ∷ row ∷ [])
  missing : (count : ℕ) → Answers (13 ∷ count ∷ [])
  not_ended : Answers (15 ∷ 0 ∷ [])
