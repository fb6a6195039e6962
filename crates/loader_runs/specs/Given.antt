-- What forms give, whatever their order.
--   Scales       — s and t
--   size_from, scales_from fs — n, and s and t, that the forms fs give;  size_by, scale_by — that one form gives, or those of the others
--   is_of p k x   — x is the form of the part p for the number k
--   absent s     — what stands for a number of the list s that no form gave (02, Paper 1: "A weight not given stands for 1"); the other lists are given whole
--   value_from fs s k j — the number j, from 0, that they give of the list s for the number k
use Rattle.std.specs.Prelude.{Bool, false, ◌&&◌, cond, List, [], ◌∷◌, ℕ, eqb, ℤ, pos, nat_abs, get_or}
use Rattle.line_form.specs.Form.{Form}
use Rattle.loader_values.specs.Item.{item_of, part_index}
use Rattle.loader_values.specs.declared.Item.{Item}
use Rattle.loader_values.specs.declared.Item.TheVariants.{Problem, Scale, Of, End}
use Rattle.loader_values.specs.declared.Part.{Part}
use Rattle.loader_lists.specs.Slot.{Slot, Matrix, Right, Tolerance, Guess, Inverse, Weight, part_of, values_for}

pub record Scales : Type 0 where
  pub solution : ℕ
  pub inverse : ℕ

abbrev pub is_of : Part → ℕ → Item → Bool
is_of p k (Problem n) = false
is_of p k (Scale s t) = false
is_of p k (Of q i) = eqb (part_index p) (part_index q) && eqb k (nat_abs i)
is_of p k End = false

abbrev pub absent : Slot → ℤ
absent Matrix = pos 0
absent Right = pos 0
absent Tolerance = pos 0
absent Guess = pos 0
absent Inverse = pos 0
absent Weight = pos 1

unfoldable pub value_from : List Form → Slot → ℕ → ℕ → ℤ
value_from [] s k j = absent s
value_from (f ∷ fs) s k j = cond (is_of (part_of s) k (item_of f)) (get_or (values_for s f) j (pos 0)) (value_from fs s k j)

abbrev pub size_by : Item → ℕ → ℕ
size_by (Problem n) other = nat_abs n
size_by (Scale s t) other = other
size_by (Of p i) other = other
size_by End other = other

unfoldable pub size_from : List Form → ℕ
size_from [] = 0
size_from (f ∷ fs) = size_by (item_of f) (size_from fs)

abbrev pub scale_by : Item → Scales → Scales
scale_by (Problem n) other = other
scale_by (Scale s t) other = record { solution = nat_abs s; inverse = nat_abs t }
scale_by (Of p i) other = other
scale_by End other = other

unfoldable pub scales_from : List Form → Scales
scales_from [] = record { solution = 0; inverse = 0 }
scales_from (f ∷ fs) = scale_by (item_of f) (scales_from fs)
