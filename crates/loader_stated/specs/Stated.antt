-- What is said of a line at a loader, each refusal written out in the order 8, 14, 1, 2, 11, 3 for i, 12, 3 for values, 4, 13 (02, Paper 6): each case holds
-- only where no earlier one does. Nothing here reads a line: that it is one of the eight forms, spelled exactly, is line ≡ spell f.
--   Formed d l line f      — the line is the form f: none of 8, 14, 1 and 2
--   Unrepeated d l line f  — and it comes neither too early, nor with its i out of range, nor a second time: none of 11, 3 for i and 12 either
--   LineStated d l line w  — the case that is stated for w, at a loader d with its own n in range
--   OtherStated d l line w — the same at any other loader: every form is 3 there that is not 11
use Rattle.std.specs.Prelude.{true, false, List, [], ◌∷◌, ◌≡◌, ℕ, ◌≤◌, ◌<◌, length}
use Rattle.line_form.specs.Form.{Form}
use Rattle.line_form.specs.Spelling.{spell}
use Rattle.loader_values.specs.Item.{item_of, placed, outside, miscounted}
use Rattle.loader_lists.specs.Lists.{Lists, short_lists}
use Rattle.loader_progress.specs.Progress.{missing, ended, early, repeated, incomplete}
use Rattle.loader.specs.declared.Loader.{Loader}

pub record Formed (d : Loader) (l : Lists) (line : List ℕ) (f : Form) : Type 0 where
  pub long : short_lists l ≡ false
  pub going : ended d.stage ≡ false
  pub length_max : length line ≤ 320
  pub spelled : line ≡ spell f

pub record Unrepeated (d : Loader) (l : Lists) (line : List ℕ) (f : Form) : Type 0 where
  pub formed : Formed d l line f
  pub timely : early d.stage (item_of f) ≡ false
  pub place : placed d.n (item_of f) ≡ true
  pub first : repeated d.stage d.sets (item_of f) ≡ false

pub data LineStated (d : Loader) (l : Lists) (line : List ℕ) : List ℕ → Type 0 where
  -- 8: a lent list too short
  too_short : short_lists l ≡ true → LineStated d l line (8 ∷ [])
  -- 14: any line after an accepted end
  after_end : short_lists l ≡ false → ended d.stage ≡ true → LineStated d l line (14 ∷ [])
  -- 1: a line above 320 bytes
  too_long : short_lists l ≡ false → ended d.stage ≡ false → 320 < length line → LineStated d l line (1 ∷ [])
  -- 2: not one of the eight forms, spelled exactly
  no_form : short_lists l ≡ false → ended d.stage ≡ false → length line ≤ 320 → ((f : Form) → line ≡ spell f → ⊥) → LineStated d l line (2 ∷ [])
  -- 11: a form other than problem first, or other than problem or scale before the scale
  too_early : (f : Form) → Formed d l line f → early d.stage (item_of f) ≡ true → LineStated d l line (11 ∷ [])
  -- 3: i is not 1 to n
  i_outside : (f : Form) → Formed d l line f → early d.stage (item_of f) ≡ false → placed d.n (item_of f) ≡ false → LineStated d l line (3 ∷ [])
  -- 12: a form given already: problem, scale, or this kind and i
  again : (f : Form) → Formed d l line f → early d.stage (item_of f) ≡ false → placed d.n (item_of f) ≡ true →
      repeated d.stage d.sets (item_of f) ≡ true → LineStated d l line (12 ∷ [])
  -- 3: another number of it is outside its range
  value_outside : (f : Form) → Unrepeated d l line f → outside f ≡ true → LineStated d l line (3 ∷ [])
  -- 4: a row or inverse list with other than n numbers
  wrong_count : (f : Form) → Unrepeated d l line f → outside f ≡ false → miscounted d.n f ≡ true → LineStated d l line (4 ∷ [])
  -- 13: end with forms outstanding; the count of those still missing
  forms_missing : (f : Form) → Unrepeated d l line f → outside f ≡ false → miscounted d.n f ≡ false → incomplete d.n d.sets (item_of f) ≡ true →
      LineStated d l line (13 ∷ missing d.n d.sets ∷ [])
  -- accepted: none of them
  accepted : (f : Form) → Unrepeated d l line f → outside f ≡ false → miscounted d.n f ≡ false → incomplete d.n d.sets (item_of f) ≡ false → LineStated d l line []

pub data OtherStated (d : Loader) (l : Lists) (line : List ℕ) : List ℕ → Type 0 where
  -- 3: the loader's own n
  own_size : (f : Form) → Formed d l line f → early d.stage (item_of f) ≡ false → OtherStated d l line (3 ∷ [])
  -- 8, 14, 1, 2 and 11
  no_such_form : (w : List ℕ) → ((f : Form) → Formed d l line f → early d.stage (item_of f) ≡ true) → LineStated d l line w → OtherStated d l line w
