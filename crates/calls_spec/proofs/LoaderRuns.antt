-- Lines at the exported loader, one after another.
--   turns_run     — lines taken one after another, some of them refused, leave the state of the run of all lines
--   turns_zero    — all results are 0 where all lines are accepted
--   turns_kept    — they leave what the accepted ones leave by themselves: a refused line is as if it had not been handed over
--   turns_check   — after an accepted end the check says what the reckoning says of the problem that the forms of the accepted lines give
--   whole_turns, whole_check — 01's whole file, line by line from a new loader, with any lists that are long enough: every line is accepted, and so is the check
use mathlib.Core.Bool.{Bool, true, false, cond}
use mathlib.Core.List.{List, [], ◌∷◌}
use mathlib.Core.Path.{◌≡◌, refl, sym, ap, subst, ◌∙◌}
use Prim.Native.Nat.{ℕ, ◌≤◌}
use native.Mathlib.Omega.{arith}
use borrow.Author.Tests.{eqb-true, eqb-false, eq-eqb}
use lib.Dec.{eqb}
use lib.ListN.{get_or, length, replicate}
use Rattle.rules.proofs.Ranges.{both}
use Rattle.check_spec.specs.Input.{short, in_ranges}
use Rattle.check_spec.specs.Order.{checked_of}
use Rattle.check_spec.proofs.Contract.{answer_ready}
use Rattle.loader_lists.specs.Lists.{Lists, short_lists}
use Rattle.loader_progress.specs.Progress.{ended}
use Rattle.loader_order.specs.Through.{answer_through}
use Rattle.loader_order.proofs.Through.{answer_ended}
use Rattle.loader.specs.Taken.{fresh, loader_of, numbers_of_loader}
use Rattle.loader_runs.specs.Run.{State, state_with, from_new, forms}
use Rattle.loader_runs.specs.Accepts.{run, Accepts}
use Rattle.loader_runs.specs.Holds.{InRange, input_of}
use Rattle.loader_runs.specs.Lines.{lines_of}
use Rattle.loader_runs.specs.Read.{read_from}
use Rattle.loader_runs.proofs.Check.{run_long, enough}
use Rattle.loader_runs.proofs.End.{FromForms, from_forms, in_range_lem}
use Rattle.loader_runs.proofs.Passing.{forms_spelled, pass_all}
use Rattle.loader_runs.proofs.Whole.{all_accepted, all_run}
use Rattle.file_check.specs.Judged.{problem_from}
use Rattle.file_check.specs.Shown.{input_at}
use Rattle.file_check.proofs.Forms.{answer_forms}
use Rattle.listing.specs.Cases.{whole_file}
use Rattle.listing.proofs.Table.{whole_forms, whole_spelled, whole_passes, whole_checked}
use Rattle.reply.specs.ReplyIs.{ReplyIs}
use Rattle.calls_spec.specs.Exported.{LoaderTakeExported, LoaderCheckExported}
use Rattle.calls_spec.specs.Turns.{Turns, kept_lines, none, next}
use Rattle.calls_spec.proofs.Loader.{take_zero, take_accepted, take_refused, step_is, check_status}

-- ---- line by line
abbrev pub AllZero : List ℕ → Type 0
AllZero [] = Unit
AllZero (k ∷ ks) = (k ≡ 0) × AllZero ks

pub turns_run : {w : List ℕ} {l : Lists} {lines : List (List ℕ)} {numbers w' : List ℕ} {l' : Lists} → Turns w l lines numbers w' l'
    → state_with (loader_of w') l' ≡ run (state_with (loader_of w) l) lines
unfolding run
turns_run none = refl
turns_run (next {lines = lines} x t) = turns_run t ∙ ap (λ (u : State). run u lines) (step_is x)

pub turns_zero : {w : List ℕ} {l : Lists} {lines : List (List ℕ)} {numbers w' : List ℕ} {l' : Lists} → Turns w l lines numbers w' l'
    → Accepts (state_with (loader_of w) l) lines → AllZero numbers
turns_zero none a = tt
turns_zero (next {lines = lines} x t) a = (take_accepted x a.0, turns_zero t (subst (λ (u : State). Accepts u lines) (sym (step_is x)) a.1))

-- the lines whose result is 0 are accepted where the others are left out, and leave the same
pub record KeptRun (u : State) (lines : List (List ℕ)) (u' : State) : Type 0 where
  pub accepts : Accepts u lines
  pub state : u' ≡ run u lines

-- a line before others
kept_before : {w line : List ℕ} {l : Lists} {number : ℕ} {places w₁ : List ℕ} {l₁ : Lists} (lines : List (List ℕ)) (u' : State) → LoaderTakeExported w line l number places w₁ l₁
    → KeptRun (state_with (loader_of w₁) l₁) lines u' → KeptRun (state_with (loader_of w) l) (cond (eqb number 0) (line ∷ lines) lines) u'
unfolding run
kept_before {w} {line} {l} {number} {w₁ = w₁} {l₁} lines u' x rest = go (eqb number 0) refl
  where
    go : (b : Bool) → eqb number 0 ≡ b → KeptRun (state_with (loader_of w) l) (cond b (line ∷ lines) lines) u'
    go true e = record {
      accepts = (take_zero x (eqb-true number 0 e), subst (λ (u : State). Accepts u lines) (step_is x) rest.accepts);
      state = rest.state ∙ ap (λ (u : State). run u lines) (step_is x);
    }
    go false e =
        let r = take_refused x (eqb-false number 0 e) in
        subst (λ (u : State). KeptRun u lines u') (ap (λ (v : List ℕ). state_with (loader_of v) l₁) r.0 ∙ ap (state_with (loader_of w)) r.1) rest

pub turns_kept : {w : List ℕ} {l : Lists} {lines : List (List ℕ)} {numbers w' : List ℕ} {l' : Lists} → Turns w l lines numbers w' l'
    → KeptRun (state_with (loader_of w) l) (kept_lines lines numbers) (state_with (loader_of w') l')
unfolding run
turns_kept none = record { accepts = tt; state = refl }
turns_kept (next {lines = lines} {numbers} {w'} {l'} x t) = kept_before (kept_lines lines numbers) (state_with (loader_of w') l') x (turns_kept t)

pub zeros_kept : {w : List ℕ} {l : Lists} {lines : List (List ℕ)} {numbers w' : List ℕ} {l' : Lists} → Turns w l lines numbers w' l' → AllZero numbers
    → kept_lines lines numbers ≡ lines
zeros_kept none z = refl
zeros_kept (next {line = line} {number = number} {lines = lines} {numbers} x t) z = rw (eq-eqb number 0 z.0) (ap (λ (ls : List (List ℕ)). line ∷ ls) (zeros_kept t z.1))

-- ---- lines from a new loader, with lists that are long enough, and the check after them
module _ (l : Lists) (long : short_lists l ≡ false) (lines : List (List ℕ)) {numbers w' : List ℕ} {l' : Lists} (t : Turns (numbers_of_loader fresh) l lines numbers w' l')
    (e : ended (loader_of w').stage ≡ true) (E L : List ℕ) (column-long : 32 ≤ length E) (matrix-long : 1024 ≤ length L) where
  abbrev last : State
  last = state_with (loader_of w') l'

  abbrev given : List (List ℕ)
  given = kept_lines lines numbers

  run_is : last ≡ run (from_new l) given
  run_is = (turns_kept t).state

  accepts : Accepts (from_new l) given
  accepts = (turns_kept t).accepts

  run_ended : ended (run (from_new l) given).loader.stage ≡ true
  run_ended = subst (λ (u : State). ended u.loader.stage ≡ true) run_is e

  from : FromForms (forms given) last
  from = subst (FromForms (forms given)) (sym run_is) (from_forms l given accepts run_ended)

  inside : InRange last
  inside = subst InRange (sym run_is) (in_range_lem l given accepts run_ended)

  lists_long : short_lists l' ≡ false
  lists_long = subst (λ (u : State). short_lists u.lists ≡ false) (sym run_is) (run_long (from_new l) given accepts long)

  ranges : in_ranges (input_of last E L) ≡ true
  ranges =
      let h = inside in
      both (both h.size (both h.solution h.inverse_scale)) (both h.matrix (both h.right (both h.tolerance (both h.guess (both h.inverse h.weights)))))

  own_long : short (input_at last) ≡ false
  own_long = enough last (replicate 32 0) (replicate 1024 0) lists_long (omega arith) (omega arith)

  says : answer_through (loader_of w').stage (input_of last E L) ≡ checked_of (problem_from (forms given))
  says =
      answer_ended (loader_of w').stage (input_of last E L) e
      ∙ answer_ready (input_of last E L) (enough last E L lists_long column-long matrix-long) ranges
      ∙ sym (answer_ready (input_at last) own_long ranges)
      ∙ answer_forms last (forms given) from inside own_long

  pub turns_check : {number : ℕ} {places E' L' : List ℕ} → LoaderCheckExported (loader_of w').stage (input_of last E L) number places E' L'
      → ReplyIs (checked_of (problem_from (forms (kept_lines lines numbers)))) number places
  turns_check {number} {places} x = subst (λ (a : List ℕ). ReplyIs a number places) says (check_status x)

-- ---- 01's whole file
module _ (l : Lists) (long : short_lists l ≡ false) {numbers w' : List ℕ} {l' : Lists} (t : Turns (numbers_of_loader fresh) l (lines_of whole_file) numbers w' l') where
  whole_read : ((read_from 0 (from_new l) (lines_of whole_file)).code ≡ []) × (ended (read_from 0 (from_new l) (lines_of whole_file)).state.loader.stage ≡ true)
  whole_read = rw whole_spelled (pass_all 0 (from_new l) whole_forms long whole_passes)

  pub whole_turns : AllZero numbers × (ended (loader_of w').stage ≡ true)
  whole_turns =
      let code = whole_read.0 in
      let run_is : (read_from 0 (from_new l) (lines_of whole_file)).state ≡ state_with (loader_of w') l' = all_run 0 (from_new l) (lines_of whole_file) code ∙ sym (turns_run t) in
      (turns_zero t (all_accepted 0 (from_new l) (lines_of whole_file) code), subst (λ (u : State). ended u.loader.stage ≡ true) run_is whole_read.1)

  whole_quiet : checked_of (problem_from (forms (kept_lines (lines_of whole_file) numbers))) ≡ []
  whole_quiet = ap (λ (z : List (List ℕ)). checked_of (problem_from (forms z))) (zeros_kept t whole_turns.0 ∙ whole_spelled) ∙ ap (λ fs. checked_of (problem_from fs)) (forms_spelled whole_forms) ∙ whole_checked

  pub whole_check : (E L : List ℕ) → 32 ≤ length E → 1024 ≤ length L → {number : ℕ} {places E' L' : List ℕ}
      → LoaderCheckExported (loader_of w').stage (input_of (state_with (loader_of w') l') E L) number places E' L' → number ≡ 0
  whole_check E L column-long matrix-long x =
      (turns_check l long (lines_of whole_file) t whole_turns.1 E L column-long matrix-long x).number_is ∙ ap (λ (a : List ℕ). get_or a 0 0) whole_quiet
