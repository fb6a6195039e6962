-- The loader beside the listing: from a new loader, after an accepted end, its check and the listing of a file of the accepted lines give one answer.
--   answer_any, loader_any — what is said of a line, and the loader after it, do not depend on what lists that are long enough hold
--   read_any      — so lines that are accepted with some such lists are read with any others, to the same loader
--   turns_listing — number and places of `kodarfi_loader_check` and of `kodarfi_listing` are the same
use mathlib.Core.Bool.{true, false}
use mathlib.Core.List.{List, [], ◌∷◌}
use mathlib.Core.Path.{◌≡◌, refl, sym, ap, subst, ◌∙◌}
use Prim.Native.Nat.{ℕ, ◌+◌, ◌≤◌}
use lib.ListN.{get_or, length}
use Rattle.check_spec.specs.Order.{checked_of}
use Rattle.loader_lists.specs.Lists.{Lists, short_lists}
use Rattle.loader_progress.specs.Progress.{ended}
use Rattle.loader.specs.declared.Loader.{Loader}
use Rattle.loader.specs.Answer.{line_answer}
use Rattle.loader.specs.Taken.{fresh, loader_after, lists_after, loader_of, numbers_of_loader}
use Rattle.loader_runs.specs.Run.{State, state_with, from_new, step, forms}
use Rattle.loader_runs.specs.Accepts.{run, Accepts}
use Rattle.loader_runs.specs.Lines.{lines_of}
use Rattle.loader_runs.specs.Read.{zeros, read_from}
use Rattle.loader_runs.specs.Holds.{input_of}
use Rattle.loader_runs.proofs.Passing.{step_long}
use Rattle.loader_runs.proofs.Read.{read_none, read_accepted}
use Rattle.listing_refusal.specs.Refused.{printed}
use Rattle.file_check.specs.Judged.{problem_from}
use Rattle.listing.specs.Listing.{answer_of}
use Rattle.listing.specs.Complete.{Complete}
use Rattle.listing.proofs.Entire.{zeros_long, answer_judged}
use Rattle.reply.specs.ReplyIs.{ReplyIs}
use Rattle.calls_spec.specs.Exported.{ListingExported, LoaderCheckExported}
use Rattle.calls_spec.specs.Turns.{Turns, kept_lines}
use Rattle.calls_spec.proofs.LoaderRuns.{turns_kept, turns_check}

module _ (d : Loader) (l m : Lists) (line : List ℕ) (same : short_lists l ≡ short_lists m) where
  pub answer_any : line_answer d l line ≡ line_answer d m line
  unfolding line_answer
  answer_any = rw same

  pub loader_any : loader_after d l line ≡ loader_after d m line
  unfolding loader_after
  loader_any = rw answer_any

pub record ReadTo (k : ℕ) (u : State) (lines : List (List ℕ)) (d : Loader) : Type 0 where
  pub code : (read_from k u lines).code ≡ []
  pub loader : (read_from k u lines).state.loader ≡ d

pub read_any : (k : ℕ) (d : Loader) (l m : Lists) (lines : List (List ℕ)) → short_lists l ≡ false → short_lists m ≡ false → Accepts (state_with d l) lines
    → ReadTo k (state_with d m) lines (run (state_with d l) lines).loader
unfolding run
read_any k d l m [] hl hm a = record { code = rw (read_none k (state_with d m)); loader = rw (read_none k (state_with d m)) }
read_any k d l m (line ∷ lines) hl hm a =
    let e : line_answer d m line ≡ [] = sym (answer_any d l m line (hl ∙ sym hm)) ∙ a.0 in
    let rest : ReadTo (k + 1) (state_with (loader_after d l line) (lists_after d m line)) lines (run (step (state_with d l) line) lines).loader =
    read_any (k + 1) (loader_after d l line) (lists_after d l line) (lists_after d m line) lines (step_long (state_with d l) line a.0 hl) (step_long (state_with d m) line e hm) a.1 in
    let own : ReadTo (k + 1) (step (state_with d m) line) lines (run (step (state_with d l) line) lines).loader =
    subst (λ (x : Loader). ReadTo (k + 1) (state_with x (lists_after d m line)) lines (run (step (state_with d l) line) lines).loader) (loader_any d l m line (hl ∙ sym hm)) rest in
    record { code = rw (read_accepted k (state_with d m) line lines e) own.code; loader = rw (read_accepted k (state_with d m) line lines e) own.loader }

-- a refusal that gives its number alone stands with 0
status_printed : (x : List ℕ) {number : ℕ} {places : List ℕ} → ReplyIs (printed 0 x) number places → ReplyIs x number places
status_printed [] t = record { number_is = t.number_is; places_are = t.places_are }
status_printed (k ∷ []) t = record { number_is = t.number_is; places_are = t.places_are }
status_printed (k ∷ v ∷ vs) t = record { number_is = t.number_is; places_are = t.places_are }

module _ (l : Lists) (long : short_lists l ≡ false) (lines : List (List ℕ)) {numbers w' : List ℕ} {l' : Lists} (t : Turns (numbers_of_loader fresh) l lines numbers w' l')
    (e : ended (loader_of w').stage ≡ true) (file : List ℕ) (own : lines_of file ≡ kept_lines lines numbers) where
  complete : Complete file
  complete =
      let r : ReadTo 0 (from_new zeros) (lines_of file) (run (from_new l) (kept_lines lines numbers)).loader =
      subst (λ (ls : List (List ℕ)). ReadTo 0 (from_new zeros) ls (run (from_new l) (kept_lines lines numbers)).loader) (sym own)
      (read_any 0 fresh l zeros (kept_lines lines numbers) long zeros_long (turns_kept t).accepts) in
      record { lines = r.code; end = ap (λ (d : Loader). ended d.stage) (r.loader ∙ sym (ap (λ (u : State). u.loader) (turns_kept t).state)) ∙ e }

  pub turns_listing : (E L : List ℕ) → 32 ≤ length E → 1024 ≤ length L → {number : ℕ} {places E' L' : List ℕ}
      → LoaderCheckExported (loader_of w').stage (input_of (state_with (loader_of w') l') E L) number places E' L'
      → {old : List ℕ} {listed : ℕ} {shown new : List ℕ} {written : ℕ} → ListingExported file old listed shown new written → (number ≡ listed) × (places ≡ shown)
  turns_listing E L column-long matrix-long x {listed = listed} {shown} y =
      let a = turns_check l long lines t e E L column-long matrix-long x in
      let q : answer_of file ≡ printed 0 (checked_of (problem_from (forms (kept_lines lines numbers)))) =
      answer_judged file complete.lines complete.end ∙ ap (λ (ls : List (List ℕ)). printed 0 (checked_of (problem_from (forms ls)))) own in
      let b = status_printed (checked_of (problem_from (forms (kept_lines lines numbers)))) (subst (λ (z : List ℕ). ReplyIs z listed shown) q y.status) in
      (a.number_is ∙ sym b.number_is, a.places_are ∙ sym b.places_are)
