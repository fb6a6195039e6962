-- What a check through a loader gives, as lines; cited by the contract inside. It is what a file's listing shows, once its lines are all accepted.
--   input_at u — what a loader and its lists hand to a check, with limit lists of zeros
--   code_of u  — what the check says, in the numbers of the refusal's line, which has no line of the file to name
--   shown_of u — that line, or the report
use Rattle.std.specs.Prelude.{List, ℕ, replicate}
use Rattle.check_spec.specs.Input.{Input, problem}
use Rattle.loader_order.specs.Through.{answer_through}
use Rattle.loader_runs.specs.Run.{State}
use Rattle.loader_runs.specs.Holds.{input_of}
use Rattle.listing_refusal.specs.Refused.{printed}
use Rattle.file_check.specs.Judged.{reported_of, line_or}

abbrev pub input_at : State → Input
input_at u = input_of u (replicate 32 0) (replicate 1024 0)

abbrev pub code_of : State → List ℕ
code_of u = printed 0 (answer_through u.loader.stage (input_at u))

abbrev pub shown_of : State → List ℕ
shown_of u = line_or (code_of u) (reported_of (problem (input_at u)))
