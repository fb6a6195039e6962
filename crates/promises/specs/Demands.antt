-- The demands of the mission, each sentence above the statements that say it. A statement is a closed proposition; proofs/Demands has a theorem of its name.
use Rattle.std.specs.Prelude.{true, false, List, [], ◌↔◌, ◌≡◌, ℕ, ◌<◌, pos, take}
use Rattle.linear.specs.Matrix.{Vec, Mat}
use Rattle.rules.specs.Range.{in_range}
use Rattle.rules.specs.Refusal.{code, Outcome}
use Rattle.rules.specs.declared.Kind.TheVariants.{Size}
use Rattle.enclosure.specs.Problem.{Problem}
use Rattle.enclosure.specs.Reckoning.{bound, inverse_bound}
use Rattle.enclosure.specs.Demand.{Encloses, RoundedExact}
use Rattle.check_spec.specs.Input.{Input, problem, short, in_ranges}
use Rattle.check_spec.specs.Checked.{Checked}
use Rattle.check_spec.specs.Stated.{Stated}
use Rattle.half_check.specs.Checked.{CheckedHalf}
use Rattle.half_check.specs.Stated.{HalfStated}
use Rattle.loader_progress.specs.Progress.{ended, sized}
use Rattle.loader_progress.specs.declared.Stage.{Stage}
use Rattle.loader_order.specs.Through.{CheckedThrough}
use Rattle.loader_lists.specs.Lists.{Lists}
use Rattle.loader.specs.Taken.{TakenAs}
use Rattle.loader.specs.declared.Loader.{Loader}
use Rattle.loader.specs.declared.Taken.{Taken}
use Rattle.loader_runs.specs.Accepts.{Made}
use Rattle.loader_runs.specs.OwnSize.{OwnSize}
use Rattle.loader_stated.specs.Stated.{LineStated, OtherStated}
use Rattle.line_form.specs.Form.{bytes}
use Rattle.listing_report.specs.Report.{report_of}
use Rattle.listing_refusal.specs.Reply.{reply_of}
use Rattle.listing_refusal.specs.declared.FileAnswer.{FileAnswer}
use Rattle.file_check.specs.Judged.{reported_of, line_or}
use Rattle.file_stated.specs.Stated.{FileStated}
use Rattle.listing.specs.Listing.{problem_in, ListedAs, AnsweredAs}
use Rattle.listing.specs.Complete.{Complete}
use Rattle.promises.specs.Ways.{Refused, Accepted, StatedThrough}

-- ---- Demand 1. That no call stops short, runs on, wraps or reads outside its lists, no contract says: the prover shows it of every function with a body,
-- and no call that others may use has a `requires`.
-- "no refused call changes a bound, a list or the desk" (the desk is handed to a check by value, so that it cannot change it)
abbrev pub RefusedCheckLeaves : Type 0
RefusedCheckLeaves =
    (I : Input) (r : Outcome) (E L : List ℕ) → Checked I r E L → Refused (code r) → (E ≡ I.solution_bounds) × (L ≡ I.inverse_bounds)

abbrev pub RefusedThroughLeaves : Type 0
RefusedThroughLeaves =
    (s : Stage) (I : Input) (r : Outcome) (E L : List ℕ) → CheckedThrough s I r E L → Refused (code r) →
    (E ≡ I.solution_bounds) × (L ≡ I.inverse_bounds)

abbrev pub RefusedLineLeaves : Type 0
RefusedLineLeaves =
    (d : Loader) (line : List ℕ) (l : Lists) (r : Taken) (l' : Lists) → TakenAs d line l r l' → Refused (code r.outcome) →
    (r.loader ≡ d) × (l' ≡ l)

-- ---- Demand 2: "Each limit is the whole number that Schröder's theorem, in the reckoning of document 01, fixes for that place"
abbrev pub LimitsComputed : Type 0
LimitsComputed =
    (P : Problem) (E : ℕ → ℕ) (L : ℕ → ℕ → ℕ) → Accepted P E L →
    ((i : ℕ) → i < P.n → E i ≡ bound P i) × ((i j : ℕ) → i < P.n → j < P.n → L i j ≡ inverse_bound P i j)

-- of a file these are the limits in the bytes of its listing, whose first bytes say that it is accepted
abbrev pub FileShowsLimits : Type 0
FileShowsLimits =
    (file old new : List ℕ) (r : FileAnswer) → AnsweredAs file old new r → r.reply.number ≡ 0 →
    let P = problem_in file in take r.length new ≡ report_of P.n P.s P.X (bound P) (inverse_bound P)

abbrev pub ListingShowsLimits : Type 0
ListingShowsLimits =
    (file old new : List ℕ) (count : ℕ) → ListedAs file old new count → take 8 (take count new) ≡ bytes "(bounds " →
    let P = problem_in file in take count new ≡ report_of P.n P.s P.X (bound P) (inverse_bound P)

-- and these bytes determine the limits: listings of accepted files with equal bytes have equal guesses and limits
abbrev pub EqualListingsEqualLimits : Type 0
EqualListingsEqualLimits =
    (file old new file' old' new' : List ℕ) (count count' : ℕ) → ListedAs file old new count → ListedAs file' old' new' count' → take 8 (take count new) ≡ bytes "(bounds " →
    take count new ≡ take count' new' → let P = problem_in file in let P' = problem_in file' in
    (P.n ≡ P'.n) × ((i : ℕ) → i < P.n → (P.X i ≡ P'.X i) × (bound P i ≡ bound P' i)) × ((i j : ℕ) → i < P.n → j < P.n → inverse_bound P i j ≡ inverse_bound P' i j)

-- "and each refusal comes in its stated case and in no other": on lists, through a loader, by half the matrix
abbrev pub CheckRefusesAsStated : Type 0
CheckRefusesAsStated = (I : Input) (r : Outcome) (E L : List ℕ) → Checked I r E L → (w : List ℕ) → (code r ≡ w) ↔ Stated I w

abbrev pub ThroughRefusesAsStated : Type 0
ThroughRefusesAsStated =
    (s : Stage) (I : Input) (r : Outcome) (E L : List ℕ) → CheckedThrough s I r E L → (w : List ℕ) → (code r ≡ w) ↔ StatedThrough s I w

abbrev pub HalfRefusesAsStated : Type 0
HalfRefusesAsStated = (H : Input) (r : Outcome) (E L : List ℕ) → CheckedHalf H r E L → (w : List ℕ) → (code r ≡ w) ↔ HalfStated H w

-- of a line, at every loader that `new` and `take` make, and at any other, made up by a caller
abbrev pub LineRefusesAsStated : Type 0
LineRefusesAsStated =
    (d : Loader) (line : List ℕ) (l : Lists) (r : Taken) (l' : Lists) → TakenAs d line l r l' → Made d →
    (w : List ℕ) → (code r.outcome ≡ w) ↔ LineStated d l line w

abbrev pub OtherLineRefusesAsStated : Type 0
OtherLineRefusesAsStated =
    (d : Loader) (line : List ℕ) (l : Lists) (r : Taken) (l' : Lists) → TakenAs d line l r l' →
    (OwnSize d → (w : List ℕ) → (code r.outcome ≡ w) ↔ LineStated d l line w)
    × (sized d.stage ≡ true → in_range Size (pos d.n) ≡ false → (w : List ℕ) → (code r.outcome ≡ w) ↔ OtherStated d l line w)

-- of a file, in numbers and as the bytes of its listing
abbrev pub FileRefusesAsStated : Type 0
FileRefusesAsStated =
    (file old new : List ℕ) (r : FileAnswer) → AnsweredAs file old new r → (w : List ℕ) → FileStated file w →
    (r.reply ≡ reply_of w) × (take r.length new ≡ line_or w (reported_of (problem_in file)))

abbrev pub FileHasOneCase : Type 0
FileHasOneCase = (file : List ℕ) → (w : List ℕ) × (FileStated file w × ((v : List ℕ) → FileStated file v → v ≡ w))

-- ---- Demand 3, first half: whatever is accepted, every exact solution lies within its limits of the guess and every exact inverse within its own, and the
-- kernel is zero (`Encloses`, with the tolerances of 02's Paper 5, the entries of Paper 2 and the height of Paper 12)
abbrev pub AcceptedEncloses : Type 0
AcceptedEncloses = (P : Problem) (E : ℕ → ℕ) (L : ℕ → ℕ → ℕ) → Accepted P E L → Encloses P E L

-- second half: a rounded exact proposal with a two-sided inverse, weights 1 and a sum of absolute values below 2T (`RoundedExact`) is always accepted; 01: "The second
-- half presumes that no lent list is too short (8) and, through a desk, an accepted end"; and numbers in their ranges, since 3 comes before 5, 6 and 7
abbrev pub CheckAccepts : Type 0
CheckAccepts =
    (I : Input) (r : Outcome) (E L : List ℕ) → Checked I r E L → short I ≡ false → in_ranges I ≡ true →
    (N : Vec) (q : ℕ) (H : Mat) (q' : ℕ) → RoundedExact (problem I) N q H q' → code r ≡ []

abbrev pub ThroughAccepts : Type 0
ThroughAccepts =
    (s : Stage) (I : Input) (r : Outcome) (E L : List ℕ) → CheckedThrough s I r E L → short I ≡ false → ended s ≡ true → in_ranges I ≡ true →
    (N : Vec) (q : ℕ) (H : Mat) (q' : ℕ) → RoundedExact (problem I) N q H q' → code r ≡ []

abbrev pub FileAccepts : Type 0
FileAccepts =
    (file old new : List ℕ) (r : FileAnswer) → AnsweredAs file old new r → Complete file →
    (N : Vec) (q : ℕ) (H : Mat) (q' : ℕ) → RoundedExact (problem_in file) N q H q' → r.reply.number ≡ 0

abbrev pub ListingAccepts : Type 0
ListingAccepts =
    (file old new : List ℕ) (count : ℕ) → ListedAs file old new count → Complete file →
    (N : Vec) (q : ℕ) (H : Mat) (q' : ℕ) → RoundedExact (problem_in file) N q H q' → take 8 (take count new) ≡ bytes "(bounds "
