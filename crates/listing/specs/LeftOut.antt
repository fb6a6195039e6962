-- 02, Paper 1: "A file without weights whose every line the desk accepts, end among them, and the same file with 1 everywhere, get equal listings". What its
-- theorem (proofs/LeftOut) asks of two files, through the forms fs and gs that they give.
--   EqualNumbers fs gs — n, s and t are equal, and every number of the lists other than the weights
--   OnlyOnes fs   — every weight that is given is 1;  NoWeights fs — none is given
--   SameOthers fs gs — both have the same forms other than weights, in whatever order
use Rattle.std.specs.Prelude.{List, ◌↔◌, ◌≡◌, ℕ, ◌≤◌, ◌<◌, ℤ, pos}
use Rattle.line_form.specs.Form.{Form, weight}
use Rattle.loader_lists.specs.Slot.{Slot, Weight, width}
use Rattle.loader_runs.specs.Given.{size_from, scales_from, value_from}
use Rattle.integer.specs.Among.{Among}

pub record EqualNumbers (fs gs : List Form) : Type 0 where
  pub size : size_from fs ≡ size_from gs
  pub solution : (scales_from fs).solution ≡ (scales_from gs).solution
  pub inverse : (scales_from fs).inverse ≡ (scales_from gs).inverse
  pub values : (s : Slot) → (s ≡ Weight → ⊥) → (k j : ℕ) → 1 ≤ k → k ≤ size_from fs → j < width s (size_from fs) → value_from fs s k j ≡ value_from gs s k j

abbrev pub OnlyOnes : List Form → Type 0
OnlyOnes fs = (i w : ℤ) → Among (weight i w) fs → w ≡ pos 1

abbrev pub NoWeights : List Form → Type 0
NoWeights fs = (i w : ℤ) → Among (weight i w) fs → ⊥

abbrev pub SameOthers : List Form → List Form → Type 0
SameOthers fs gs = (f : Form) → ((i w : ℤ) → f ≡ weight i w → ⊥) → Among f fs ↔ Among f gs
