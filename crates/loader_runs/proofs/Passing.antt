-- Lines that spell forms, and are accepted: computed without the numbers that they put into their lists.
--   spelled fs   — the lines of the forms fs;  forms_spelled — their forms
--   passes d fs  — at the loader d the line of every form is accepted where no lent list is too short, and the last is an end
--   Whole R      — every line is accepted, and the last is an end
--   pass_all     — so it is at a loader with such lists
use mathlib.Core.Path.{◌≡◌, refl, sym, ap, subst, ◌∙◌}
use mathlib.Core.Bool.{Bool, true, false, not, ◌&&◌}
use mathlib.Core.List.{List, [], ◌∷◌}
use Prim.Native.Nat.{ℕ, ◌+◌}
use borrow.Author.Tests.{not-true}
use lib.Dec.{T, ltb}
use lib.ListN.{length}
use Rattle.rules.proofs.Ranges.{both_left, both_right}
use Rattle.line_form.specs.Form.{Form}
use Rattle.line_form.specs.Spelling.{spell}
use Rattle.line_form.proofs.Spelling.{read_spelled}
use Rattle.loader_values.specs.Item.{item_of}
use Rattle.loader_lists.specs.Lists.{short_lists}
use Rattle.loader_progress.specs.Progress.{ended}
use Rattle.loader.specs.declared.Loader.{Loader}
use Rattle.loader.specs.Answer.{line_answer}
use Rattle.loader.specs.Taken.{after, loader_after}
use Rattle.loader.proofs.Exact.{form_code, answer_form}
use Rattle.loader_runs.specs.Read.{Reading, read_from}
use Rattle.loader_runs.specs.Run.{State, step, forms}
use Rattle.loader_runs.specs.Accepts.{run}
use Rattle.loader_runs.proofs.Check.{run_long}
use Rattle.loader_runs.proofs.Read.{read_none, read_accepted}
use Rattle.loader_runs.proofs.Runs.{forms_next}

abbrev pub spelled : List Form → List (List ℕ)
spelled [] = []
spelled (f ∷ fs) = spell f ∷ spelled fs

no_forms_lem : forms [] ≡ []
unfolding forms
no_forms_lem = refl

pub forms_spelled : (fs : List Form) → forms (spelled fs) ≡ fs
forms_spelled [] = no_forms_lem
forms_spelled (f ∷ fs) = forms_next (spell f) (spelled fs) (read_spelled f) ∙ ap (λ (gs : List Form). f ∷ gs) (forms_spelled fs)

abbrev no_code : List ℕ → Bool
no_code [] = true
no_code (k ∷ ks) = false

unfoldable pub passes : Loader → List Form → Bool
passes d [] = ended d.stage
passes d (f ∷ fs) = not (ended d.stage) && (not (ltb 320 (length (spell f))) && (no_code (form_code d f) && passes (after d (item_of f)) fs))

-- every line is accepted, and the last is an end
abbrev pub Whole : Reading → Type 0
Whole R = (R.code ≡ []) × (ended R.state.loader.stage ≡ true)

is_none : (l : List ℕ) → no_code l ≡ true → l ≡ []
is_none [] e = refl
is_none (k ∷ ks) e = absurd (subst T (sym e) tt)

pub step_long : (u : State) (line : List ℕ) → line_answer u.loader u.lists line ≡ [] → short_lists u.lists ≡ false → short_lists (step u line).lists ≡ false
unfolding run
step_long u line e h = run_long u (line ∷ []) (e, tt) h

pub pass_all : (k : ℕ) (u : State) (fs : List Form) → short_lists u.lists ≡ false → passes u.loader fs ≡ true → Whole (read_from k u (spelled fs))
unfolding passes loader_after
pass_all k u [] h p = rw (read_none k u) (refl, p)
pass_all k u (f ∷ fs) h p =
    let d = u.loader in
    let going = both_left (not (ended d.stage)) _ p in
    let q = both_right (not (ended d.stage)) _ p in
    let length_max = both_left (not (ltb 320 (length (spell f)))) _ q in
    let r = both_right (not (ltb 320 (length (spell f)))) _ q in
    let e : line_answer d u.lists (spell f) ≡ [] =
    answer_form d u.lists (spell f) f h (not-true _ going) (not-true _ length_max) (read_spelled f) ∙ is_none (form_code d f) (both_left (no_code (form_code d f)) _ r) in
    let next : loader_after d u.lists (spell f) ≡ after d (item_of f) = rw (e, read_spelled f) in
    rw (read_accepted k u (spell f) (spelled fs) e)
    (pass_all (k + 1) (step u (spell f)) fs (step_long u (spell f) e h) (rw next (both_right (no_code (form_code d f)) _ r)))
