-- An accepted line is a form, which no test refuses, and leaves what that form gives.
--   Accepted, accepted_form
use mathlib.Core.Path.{◌≡◌, refl, sym, subst, ◌∙◌}
use mathlib.Core.Bool.{true, false}
use mathlib.Core.List.{List, []}
use mathlib.Core.Option.{Option, none, some}
use Prim.Native.Nat.{ℕ}
use lib.Dec.{T}
use Rattle.line_form.specs.Form.{Form}
use Rattle.line_form.specs.Reading.{reading}
use Rattle.loader_values.specs.Item.{item_of}
use Rattle.loader_lists.specs.Lists.{Lists, short_lists}
use Rattle.loader_progress.specs.Progress.{ended}
use Rattle.loader.specs.declared.Loader.{Loader}
use Rattle.loader.specs.Answer.{case_of, line_answer, of_form}
use Rattle.loader.specs.Taken.{after, lists_with, loader_after, lists_after}
use Rattle.loader_order.proofs.CodeLaws.{Passed, passed}
use Rattle.loader.proofs.Exact.{form_case, form_code, answer_form}

pub record AcceptedLine (d : Loader) (l : Lists) (line : List ℕ) (f : Form) : Type 0 where
  pub reads : reading line ≡ some f
  pub long : short_lists l ≡ false
  pub going : ended d.stage ≡ false
  pub fine : Passed (form_case d f)
  pub loader : loader_after d l line ≡ after d (item_of f)
  pub lists : lists_after d l line ≡ lists_with d f l

pub accepted_form : (d : Loader) (l : Lists) (line : List ℕ) → line_answer d l line ≡ [] → (f : Form) × AcceptedLine d l line f
unfolding line_answer loader_after lists_after form_code
accepted_form d l line e = go (reading line) refl h.unspelled
  where
    h : Passed (case_of d l line)
    h = passed (case_of d l line) e

    go : (o : Option Form) → reading line ≡ o → of_form o true (λ (f : Form). false) ≡ false → (f : Form) × AcceptedLine d l line f
    go none r u = absurd (subst T u tt)
    go (some f) r u = (
      f,
      record {
        reads = r;
        long = h.short;
        going = h.ended;
        fine = passed (form_case d f) (sym (answer_form d l line f h.short h.ended h.long r) ∙ e);
        loader = rw (e, r);
        lists = rw (e, r);
      },
    )
