-- The calls for C: a number and two places that stand for what is said (`ReplyIs`), and the promises above for each entry point. The contracts of
-- the other calls for C (calls_spec/specs: `EntryExported`, `BuildExported`, `SearchExported`, `GuessesExported`, `IntervalsExported`, `DependentExported`,
-- `CommonExported`, `QualityExported`, `ConvertExported`) have the contract that the papers' statements are over as a field.
use Rattle.std.specs.Prelude.{true, false, List, ◌≡◌, ℕ, ◌+◌, ◌*◌, ◌≤◌, get_or, length}
use Rattle.enclosure.specs.Reckoning.{bound, inverse_bound}
use Rattle.check_spec.specs.Input.{Input, problem}
use Rattle.check_spec.specs.Stated.{Stated}
use Rattle.half_check.specs.Checked.{filled_input}
use Rattle.half_check.specs.Stated.{HalfStated}
use Rattle.loader_lists.specs.Lists.{Lists, short_lists}
use Rattle.loader_progress.specs.Progress.{ended}
use Rattle.loader_progress.specs.declared.Stage.{Stage}
use Rattle.loader.specs.Taken.{numbers_of_loader, loader_of, fresh}
use Rattle.loader_runs.specs.Holds.{input_of}
use Rattle.loader_runs.specs.Lines.{lines_of}
use Rattle.file_stated.specs.Stated.{FileStated}
use Rattle.listing.specs.Listing.{problem_in}
use Rattle.reply.specs.ReplyIs.{ReplyIs}
use Rattle.calls_spec.specs.Exported.{CheckExported, ListingExported, LoaderTakeExported, LoaderCheckExported}
use Rattle.calls_spec.specs.Half.{HalfExported}
use Rattle.calls_spec.specs.Turns.{Turns, kept_lines}
use Rattle.promises.specs.Ways.{Accepted, StatedThrough}

-- what number and places stand for has its stated case
abbrev pub CheckStatus : Type 0
CheckStatus = (I : Input) (number : ℕ) (places E L : List ℕ) → CheckExported I number places E L → (w : List ℕ) × (Stated I w × ReplyIs w number places)

abbrev pub HalfStatus : Type 0
HalfStatus = (H : Input) (number : ℕ) (places E L : List ℕ) → HalfExported H number places E L → (w : List ℕ) × (HalfStated H w × ReplyIs w number places)

abbrev pub ThroughStatus : Type 0
ThroughStatus =
    (s : Stage) (I : Input) (number : ℕ) (places E L : List ℕ) → LoaderCheckExported s I number places E L → (w : List ℕ) × (StatedThrough s I w × ReplyIs w number places)

abbrev pub ListingStatus : Type 0
ListingStatus =
    (file old : List ℕ) (number : ℕ) (places new : List ℕ) (count : ℕ) → ListingExported file old number places new count → (w : List ℕ) × (FileStated file w × ReplyIs w number places)

-- 0 is acceptance and nothing else, so that all that is stated of `Accepted` holds
abbrev pub CheckZeroAccepted : Type 0
CheckZeroAccepted =
    (I : Input) (number : ℕ) (places E L : List ℕ) → CheckExported I number places E L → number ≡ 0 → Accepted (problem I) (λ (i : ℕ). get_or E i 0) (λ (i j : ℕ). get_or L (i * I.n + j) 0)

abbrev pub HalfZeroAccepted : Type 0
HalfZeroAccepted =
    (H : Input) (number : ℕ) (places E L : List ℕ) → HalfExported H number places E L → number ≡ 0 →
    Accepted (problem (filled_input H)) (λ (i : ℕ). get_or E i 0) (λ (i j : ℕ). get_or L (i * H.n + j) 0)

abbrev pub ThroughZeroAccepted : Type 0
ThroughZeroAccepted =
    (s : Stage) (I : Input) (number : ℕ) (places E L : List ℕ) → LoaderCheckExported s I number places E L → number ≡ 0 →
    Accepted (problem I) (λ (i : ℕ). get_or E i 0) (λ (i j : ℕ). get_or L (i * I.n + j) 0)

abbrev pub ListingZeroAccepted : Type 0
ListingZeroAccepted =
    (file old : List ℕ) (number : ℕ) (places new : List ℕ) (count : ℕ) → ListingExported file old number places new count → number ≡ 0 →
    Accepted (problem_in file) (bound (problem_in file)) (inverse_bound (problem_in file))

-- a refused line leaves the loader's nine numbers and its lists, whatever the numbers were
abbrev pub RefusedTakeLeaves : Type 0
RefusedTakeLeaves =
    (w line : List ℕ) (l : Lists) (number : ℕ) (places w' : List ℕ) (l' : Lists) → LoaderTakeExported w line l number places w' l' → (number ≡ 0 → ⊥) → (w' ≡ w) × (l' ≡ l)

-- line by line as by the whole file: the lines that were taken with 0 (`kept_lines`), an accepted end and a check give the number and the places of the listing's call
abbrev pub LineByLineAsListing : Type 0
LineByLineAsListing =
    (l : Lists) → short_lists l ≡ false → (lines : List (List ℕ)) (numbers w' : List ℕ) (l' : Lists) → Turns (numbers_of_loader fresh) l lines numbers w' l' →
    ended (loader_of w').stage ≡ true → (file : List ℕ) → lines_of file ≡ kept_lines lines numbers → (E L : List ℕ) → 32 ≤ length E → 1024 ≤ length L →
    (number : ℕ) (places E' L' : List ℕ) → LoaderCheckExported (loader_of w').stage (input_of (record { loader = loader_of w'; lists = l' }) E L) number places E' L' →
    (old : List ℕ) (listed : ℕ) (shown new : List ℕ) (count : ℕ) → ListingExported file old listed shown new count → (number ≡ listed) × (places ≡ shown)
