-- In its stated case a refusal is said (specs/Stated).
--   own_placed — where the loader's own n is in range the test of the place asks whether i is 1 to n, and nothing else;  Placing — so it asks of the line
--   code_form, code_early, unread, code_2, code_place, code_again, code_first — what is said, by the tests
--   code_by    — what is stated for a line is said of it
use mathlib.Core.Path.{◌≡◌, refl, ◌∙◌}
use mathlib.Core.Bool.{Bool, true, false, not}
use mathlib.Core.List.{List, [], ◌∷◌}
use mathlib.Core.Option.{Option, none, some}
use Prim.Native.Nat.{ℕ, ◌≤◌}
use borrow.Author.Tests.{lt-ltb, le-ltb}
use lib.ListN.{length, drop}
use Rattle.rules.specs.Order.{verdict}
use Rattle.line_form.specs.Form.{Form}
use Rattle.line_form.specs.Spelling.{spell}
use Rattle.line_form.specs.Reading.{reading}
use Rattle.line_form.proofs.Spelling.{reads_as, spelled_read}
use Rattle.loader_values.specs.Item.{item_of, placed}
use Rattle.loader_values.specs.declared.Item.{Item}
use Rattle.loader_lists.specs.Lists.{Lists, short_lists}
use Rattle.loader_progress.specs.Progress.{sized, ended, early, misplaced, repeated}
use Rattle.loader_order.specs.Order.{line_order}
use Rattle.loader.specs.declared.Loader.{Loader}
use Rattle.loader.specs.Answer.{line_answer}
use Rattle.loader.proofs.Exact.{form_case, form_code, answer_form}
use Rattle.loader_runs.specs.OwnSize.{OwnSize}
use Rattle.loader_stated.specs.Stated.{Formed, Unrepeated, LineStated, too_short, after_end, too_long, no_form, too_early, i_outside, again, value_outside, wrong_count, forms_missing, accepted}

pub own_placed : (d : Loader) → OwnSize d → (x : Item) → misplaced d.stage d.n x ≡ not (placed d.n x)
unfolding misplaced
own_placed d own x = go (sized d.stage) refl
  where
    go : (b : Bool) → sized d.stage ≡ b → misplaced d.stage d.n x ≡ not (placed d.n x)
    go true e = rw (e, own e)
    go false e = rw e

module _ (d : Loader) (l : Lists) (line : List ℕ) where
  -- ---- by the tests of a form
  pub code_form : {f : Form} → Formed d l line f → line_answer d l line ≡ form_code d f
  code_form {f} h = answer_form d l line f h.long h.going (le-ltb 320 (length line) h.length_max) (reads_as line f h.spelled)

  code_early : {f : Form} → Formed d l line f → early d.stage (item_of f) ≡ true → line_answer d l line ≡ 11 ∷ []
  code_early h e = code_form h ∙ unfold form_code in rw e

  unread : ((f : Form) → line ≡ spell f → ⊥) → reading line ≡ none
  unread h = go (reading line) refl
    where
      go : (o : Option Form) → reading line ≡ o → o ≡ none
      go none e = refl
      go (some f) e = absurd (h f (spelled_read line f e))

  code_2 : short_lists l ≡ false → ended d.stage ≡ false → length line ≤ 320 → reading line ≡ none → line_answer d l line ≡ 2 ∷ []
  unfolding line_answer
  code_2 a b c e = rw (a, b, le-ltb 320 (length line) c, e)

  abbrev pub Placing : Type 0
  Placing = (f : Form) → Formed d l line f → early d.stage (item_of f) ≡ false → misplaced d.stage d.n (item_of f) ≡ not (placed d.n (item_of f))

  module _ (placing : Placing) where
    code_place : {f : Form} → Formed d l line f → early d.stage (item_of f) ≡ false → placed d.n (item_of f) ≡ false → line_answer d l line ≡ 3 ∷ []
    code_place {f} h t p = code_form h ∙ unfold form_code in rw (t, placing f h t, p)

    code_again : {f : Form} → Formed d l line f → early d.stage (item_of f) ≡ false → placed d.n (item_of f) ≡ true → repeated d.stage d.sets (item_of f) ≡ true → line_answer d l line ≡ 12 ∷ []
    code_again {f} h t p r = code_form h ∙ unfold form_code in rw (t, placing f h t, p, r)

    -- the tests after that of repetition
    code_first : {f : Form} → Unrepeated d l line f → line_answer d l line ≡ verdict (drop 7 (line_order (form_case d f)))
    code_first {f} h = code_form h.formed ∙ unfold form_code in rw (h.timely, placing f h.formed h.timely, h.place, h.first)

    pub code_by : {w : List ℕ} → LineStated d l line w → line_answer d l line ≡ w
    code_by (too_short a) = unfold line_answer in rw a
    code_by (after_end a b) = unfold line_answer in rw (a, b)
    code_by (too_long a b c) = unfold line_answer in rw (a, b, lt-ltb 320 (length line) c)
    code_by (no_form a b c h) = code_2 a b c (unread h)
    code_by (too_early f h e) = code_early h e
    code_by (i_outside f h t p) = code_place h t p
    code_by (again f h t p r) = code_again h t p r
    code_by (value_outside f h o) = code_first h ∙ rw o
    code_by (wrong_count f h o m) = code_first h ∙ rw (o, m)
    code_by (forms_missing f h o m c) = code_first h ∙ rw (o, m, c)
    code_by (accepted f h o m c) = code_first h ∙ rw (o, m, c)
