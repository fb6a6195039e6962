-- Complete files are exactly the spelled files of the shape.
--   ends_complete — a file whose lines are all accepted, the last of them an end, is complete
--   front, shape_lines, shape_forms — the forms before the end; the lines of a file that spells forms of the shape are the spellings of these, and its forms are these
--   shape_complete — such a file is complete, with its last line feed and without
--   text_complete, unfed_complete — so there are both: the text of the forms, and that text without its last line feed
--   complete_shape — every complete file is, byte for byte, such a file
--   exactly        — so a file is complete exactly where it is one
use mathlib.Core.Path.{◌≡◌, refl, sym, ap, subst, ◌∙◌}
use mathlib.Core.Bool.{true}
use mathlib.Core.List.{List, [], ◌∷◌, ◌++◌}
use mathlib.Core.Logic.{◌↔◌}
use Prim.Native.Nat.{ℕ}
use lib.IntN.{pos}
use Rattle.line_form.specs.Form.{Form, problem, scale, end}
use Rattle.line_form.specs.Spelling.{spell}
use Rattle.loader_progress.specs.Progress.{ended}
use Rattle.loader_runs.specs.Lines.{lines_of}
use Rattle.loader_runs.specs.Read.{zeros}
use Rattle.loader_runs.specs.Run.{State, from_new, forms}
use Rattle.loader_runs.proofs.Passing.{spelled, forms_spelled}
use Rattle.loader_spelled.specs.Ones.{text_of}
use Rattle.loader_spelled.proofs.Runs.{read_run}
use Rattle.listing.specs.Complete.{Complete}
use Rattle.listing.proofs.Entire.{zeros_long, accepts, ended_run}
use Rattle.file_shape.specs.Shape.{Shape, Spells, fed, unfed, Shaped}
use Rattle.file_shape.proofs.Loader.{shape_ends, ends_shape}
use Rattle.file_shape.proofs.Lines.{text_last, spells_lines, lines_spell}
use Rattle.file_shape.proofs.Takes.{AcceptsToEnd}

-- every line is accepted, and the last is an end
ends_complete : (file : List ℕ) → AcceptsToEnd (from_new zeros) (lines_of file) → Complete file
ends_complete file h =
    let r = read_run 0 (from_new zeros) (lines_of file) h.0 in
    record { lines = r.0; end = subst (λ (u : State). ended u.loader.stage ≡ true) (sym r.1) h.1 }

-- ---- the shape is complete
module _ {n s t : ℕ} {fs : List Form} (h : Shape n s t fs) where
  abbrev front : List Form
  front = problem (pos n) ∷ scale (pos s) (pos t) ∷ h.others

  module _ {file : List ℕ} (x : Spells fs file) where
    pub shape_lines : lines_of file ≡ spelled fs
    shape_lines = spells_lines front (subst (λ (gs : List Form). Spells gs file) h.order x) ∙ ap spelled (sym h.order)

    pub shape_forms : forms (lines_of file) ≡ fs
    shape_forms = ap forms shape_lines ∙ forms_spelled fs

    pub shape_complete : Complete file
    shape_complete = ends_complete file (subst (λ (ls : List (List ℕ)). AcceptsToEnd (from_new zeros) ls) (sym shape_lines) (shape_ends zeros zeros_long h))

  pub text_complete : Complete (text_of fs)
  text_complete = shape_complete (fed refl)

  pub unfed_complete : (file : List ℕ) × (file ++ (10 ∷ []) ≡ text_of fs) × Complete file
  unfed_complete =
      let e : (text_of front ++ spell end) ++ (10 ∷ []) ≡ text_of fs = sym (ap text_of h.order ∙ text_last front) in
      (text_of front ++ spell end, e, shape_complete (unfed e))

-- ---- what is complete has the shape
pub complete_shape : (file : List ℕ) → Complete file → Shaped file
complete_shape file c =
    let x = ends_shape zeros (lines_of file) (accepts file c.lines, ended_run file c.lines c.end) in
    record { n = x.n; s = x.s; t = x.t; forms = x.forms; shape = x.shape; spells = lines_spell file x.forms x.lines_are }

pub exactly : (file : List ℕ) → Complete file ↔ Shaped file
exactly file = (complete_shape file, λ x. shape_complete x.shape x.spells)
