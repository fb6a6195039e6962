-- What is said of a file, each refusal written out, in the numbers of the refusal's line (01: "It stops at its first refusal"): that of the first line that is
-- refused, 15, and the check's. Nothing here reads a line: that it is one of the eight forms is known by its spelling.
--   TakenLines u lines v — at u the lines are accepted, one after another, and leave v: each is the spelling of a form
--   FileStated file w — the case that is stated for w;  `Stated` is that of a check on lists (check_spec/specs/Stated), `input_at` what a loader and its lists hand to it
use Rattle.std.specs.Prelude.{true, false, List, [], ◌∷◌, ◌++◌, ◌≡◌, ℕ, ◌+◌, length}
use Rattle.check_spec.specs.Stated.{Stated}
use Rattle.line_form.specs.Form.{Form}
use Rattle.line_form.specs.Spelling.{spell}
use Rattle.loader_progress.specs.Progress.{ended}
use Rattle.loader_runs.specs.Accepts.{after_form}
use Rattle.loader_runs.specs.Lines.{lines_of}
use Rattle.loader_runs.specs.Read.{zeros}
use Rattle.loader_runs.specs.Run.{State, from_new}
use Rattle.loader_stated.specs.Stated.{LineStated}
use Rattle.listing_refusal.specs.Refused.{printed}
use Rattle.file_check.specs.Shown.{input_at}

pub data TakenLines : State → List (List ℕ) → State → Type 0 where
  none : {u : State} → TakenLines u [] u
  next : {u v : State} (f : Form) (lines : List (List ℕ)) → LineStated u.loader u.lists (spell f) [] → TakenLines (after_form u f) lines v → TakenLines u (spell f ∷ lines) v

pub data FileStated (file : List ℕ) : List ℕ → Type 0 where
  -- 1 to 4 and 11 to 14: the first line that is refused, with its number from 1, or what the refusal gives
  line_refused : (first : List (List ℕ)) (line : List ℕ) (rest : List (List ℕ)) (u : State) (k : ℕ) (vs : List ℕ) →
      lines_of file ≡ first ++ (line ∷ rest) → TakenLines (from_new zeros) first u → LineStated u.loader u.lists line (k ∷ vs) →
      FileStated file (printed (length first + 1) (k ∷ vs))
  -- 15: every line is accepted, and none is an end
  not_ended : (u : State) → TakenLines (from_new zeros) (lines_of file) u → ended u.loader.stage ≡ false → FileStated file (15 ∷ 0 ∷ [])
  -- 5, 6 and 7, and acceptance: every line is accepted, the last is an end, and the check says it of the numbers given
  checked : (u : State) (w : List ℕ) → TakenLines (from_new zeros) (lines_of file) u → ended u.loader.stage ≡ true → Stated (input_at u) w → FileStated file (printed 0 w)
