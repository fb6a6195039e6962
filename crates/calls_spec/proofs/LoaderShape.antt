-- Files of the right shape at the exported loader, line by line.
--   shape_turns — the lines of forms of the shape, from a new loader with any lists that are long enough: every result is 0, and the last line is an accepted end
--   turns_shape — the converse: lines whose results are all 0 and after which an end was accepted are the lines of forms of the shape
--   kept_shape  — where some were refused, so are those whose result is 0
--   shape_check — after the lines of such forms the check says what the reckoning says of the problem that they give; so nothing, 5, 6 or 7
--   shape_exact — demand 3's second half: with a rounded exact proposal it says nothing
use mathlib.Core.Bool.{true, false}
use mathlib.Core.List.{List, [], ◌∷◌}
use mathlib.Core.Path.{◌≡◌, refl, sym, ap, subst, ◌∙◌}
use Prim.Native.Nat.{ℕ, ◌≤◌}
use lib.ListN.{get_or, length}
use Rattle.linear.specs.Matrix.{Vec, Mat}
use Rattle.rules.proofs.Verdicts.{nothing_is_not}
use Rattle.enclosure.specs.Demand.{RoundedExact}
use Rattle.check_spec.specs.Order.{checked_of}
use Rattle.line_form.specs.Form.{Form}
use Rattle.loader_lists.specs.Lists.{Lists, short_lists}
use Rattle.loader_progress.specs.Progress.{ended}
use Rattle.loader.specs.Taken.{fresh, loader_of, numbers_of_loader}
use Rattle.loader_runs.specs.Run.{State, state_with, from_new, forms}
use Rattle.loader_runs.specs.Accepts.{run}
use Rattle.loader_runs.specs.Holds.{input_of}
use Rattle.loader_runs.proofs.Passing.{spelled, forms_spelled}
use Rattle.listing_refusal.specs.Refused.{printed}
use Rattle.loader_spelled.specs.Ones.{text_of}
use Rattle.file_check.specs.Judged.{problem_from}
use Rattle.file_shape.specs.Shape.{Shape, fed}
use Rattle.file_shape.proofs.Answers.{shape_answer, shape_accepted}
use Rattle.file_shape.proofs.Loader.{ShapedLines, shape_ends, ends_shape}
use Rattle.reply.specs.ReplyIs.{ReplyIs}
use Rattle.calls_spec.specs.Exported.{LoaderCheckExported}
use Rattle.calls_spec.specs.Turns.{Turns, kept_lines}
use Rattle.calls_spec.proofs.LoaderRuns.{AllZero, turns_run, turns_zero, turns_kept, zeros_kept, turns_check}

printed_none : (w : List ℕ) → printed 0 w ≡ [] → w ≡ []
printed_none [] e = refl
printed_none (k ∷ []) e = absurd (nothing_is_not e)
printed_none (k ∷ v ∷ vs) e = absurd (nothing_is_not e)

-- ---- lines that come to an accepted end
module _ (l : Lists) (lines : List (List ℕ)) {numbers w' : List ℕ} {l' : Lists} (t : Turns (numbers_of_loader fresh) l lines numbers w' l') (e : ended (loader_of w').stage ≡ true) where
  pub kept_shape : ShapedLines (kept_lines lines numbers)
  kept_shape =
      let k = turns_kept t in
      ends_shape l (kept_lines lines numbers) (k.accepts, subst (λ (u : State). ended u.loader.stage ≡ true) k.state e)

  pub turns_shape : AllZero numbers → ShapedLines lines
  turns_shape z = subst ShapedLines (zeros_kept t z) kept_shape

-- ---- the lines of forms of the shape
module _ (l : Lists) (long : short_lists l ≡ false) {n s t : ℕ} {fs : List Form} (h : Shape n s t fs) {numbers w' : List ℕ} {l' : Lists}
    (x : Turns (numbers_of_loader fresh) l (spelled fs) numbers w' l') where
  pub shape_turns : AllZero numbers × (ended (loader_of w').stage ≡ true)
  shape_turns =
      let e = shape_ends l long h in
      (turns_zero x e.0, subst (λ (u : State). ended u.loader.stage ≡ true) (sym (turns_run x)) e.1)

  module _ (E L : List ℕ) (column-long : 32 ≤ length E) (matrix-long : 1024 ≤ length L) {number : ℕ} {places E' L' : List ℕ}
      (c : LoaderCheckExported (loader_of w').stage (input_of (state_with (loader_of w') l') E L) number places E' L') where
    pub shape_check : ReplyIs (checked_of (problem_from fs)) number places
    shape_check =
        subst (λ (gs : List Form). ReplyIs (checked_of (problem_from gs)) number places) (ap forms (zeros_kept x shape_turns.0) ∙ forms_spelled fs)
        (turns_check l long (spelled fs) x shape_turns.1 E L column-long matrix-long c)

    pub shape_exact : (N : Vec) (q : ℕ) (H : Mat) (q' : ℕ) → RoundedExact (problem_from fs) N q H q' → number ≡ 0
    shape_exact N q H q' e =
        shape_check.number_is
        ∙ ap (λ (w : List ℕ). get_or w 0 0) (printed_none (checked_of (problem_from fs)) (sym (shape_answer h {file = text_of fs} (fed refl)) ∙ shape_accepted h {file = text_of fs} (fed refl) N q H q' e))
