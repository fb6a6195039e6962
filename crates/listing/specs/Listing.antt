-- The listing of a file (01: "A whole file" and the program): one line for the first refusal, or the report of the problem that its forms give.
--   problem_in file — the problem that the file's forms give
--   answer_of file  — what is said of the file, in the numbers of the refusal's line: the first refusal of a line; 15, with 0, where the file stops before an end;
--     else what is said of its problem. None where it is accepted. No complete file gives 3: its forms were tested
--   listing_of file — that line, or the report
--   ListedAs         — the contract of `listing`: the bytes written are the listing, the others as before
--   AnsweredAs     — the contract of `answer_file`: what is said, with the listing
use Rattle.std.specs.Prelude.{cond, List, [], ◌∷◌, ◌≡◌, ℕ, ◌≤◌, length, take, drop}
use Rattle.enclosure.specs.Problem.{Problem}
use Rattle.check_spec.specs.Order.{checked_of}
use Rattle.rules.specs.Order.{or_else}
use Rattle.loader_progress.specs.Progress.{ended}
use Rattle.loader_runs.specs.Run.{forms}
use Rattle.listing_refusal.specs.Refused.{printed}
use Rattle.listing_refusal.specs.Reply.{reply_of}
use Rattle.listing_refusal.specs.declared.FileAnswer.{FileAnswer}
use Rattle.file_check.specs.Judged.{reported_of, line_or, problem_from}
use Rattle.loader_runs.specs.Lines.{lines_of}
use Rattle.loader_runs.specs.Read.{reading_of}

abbrev pub problem_in : List ℕ → Problem
problem_in file = problem_from (forms (lines_of file))

unfoldable pub answer_of : List ℕ → List ℕ
answer_of file =
    let r = reading_of file in
    or_else (printed r.line r.code) (printed 0 (cond (ended r.state.loader.stage) (checked_of (problem_in file)) (15 ∷ [])))

unfoldable pub listing_of : List ℕ → List ℕ
listing_of file = line_or (answer_of file) (reported_of (problem_in file))

pub record ListedAs (file old new : List ℕ) (count : ℕ) : Type 0 where
  pub size : count ≡ length (listing_of file)
  pub bytes : take count new ≡ listing_of file
  pub others : drop count new ≡ drop count old
  pub fits : count ≤ 32768

pub record AnsweredAs (file old new : List ℕ) (r : FileAnswer) : Type 0 where
  pub reply : r.reply ≡ reply_of (answer_of file)
  pub listed : ListedAs file old new r.length
