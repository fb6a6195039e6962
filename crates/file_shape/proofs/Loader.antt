-- The lines that a loader takes to an accepted end are exactly the spellings of forms of the shape, whatever lists it is lent that are long enough.
--   shape_ends   — the lines of such forms are accepted, and the last is an end
--   ShapedLines, ends_shape — lines that are accepted, the last of them an end, are the lines of such forms
--   loader_exactly — both
use mathlib.Core.Path.{◌≡◌, sym, subst}
use mathlib.Core.Bool.{false}
use mathlib.Core.List.{List}
use mathlib.Core.Logic.{◌↔◌}
use Prim.Native.Nat.{ℕ}
use Rattle.line_form.specs.Form.{Form}
use Rattle.loader_lists.specs.Lists.{Lists, short_lists}
use Rattle.loader_runs.specs.Run.{from_new}
use Rattle.loader_runs.proofs.Passing.{spelled}
use Rattle.file_shape.specs.Shape.{Shape}
use Rattle.file_shape.proofs.Forms.{shape_takes, takes_shape}
use Rattle.file_shape.proofs.Takes.{AcceptsToEnd, takes_ends, ends_takes}

pub record ShapedLines (lines : List (List ℕ)) : Type 0 where
  pub n : ℕ
  pub s : ℕ
  pub t : ℕ
  pub forms : List Form
  pub shape : Shape n s t forms
  pub lines_are : lines ≡ spelled forms

pub shape_ends : (l : Lists) → short_lists l ≡ false → {n s t : ℕ} {fs : List Form} → Shape n s t fs → AcceptsToEnd (from_new l) (spelled fs)
shape_ends l long {fs} h = takes_ends (from_new l) fs long (shape_takes h)

pub ends_shape : (l : Lists) (lines : List (List ℕ)) → AcceptsToEnd (from_new l) lines → ShapedLines lines
ends_shape l lines h =
    let r = ends_takes (from_new l) lines h in
    let x = takes_shape r.forms r.takes in
    record { n = x.n; s = x.s; t = x.t; forms = r.forms; shape = x.shape; lines_are = r.lines_are }

pub loader_exactly : (l : Lists) → short_lists l ≡ false → (lines : List (List ℕ)) → AcceptsToEnd (from_new l) lines ↔ ShapedLines lines
loader_exactly l long lines = (ends_shape l lines, λ x. subst (λ (ls : List (List ℕ)). AcceptsToEnd (from_new l) ls) (sym x.lines_are) (shape_ends l long x.shape))
