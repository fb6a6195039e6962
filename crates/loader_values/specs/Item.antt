-- What a form gives, and the two refusals that are said of its numbers.
--   item_of f       — which form it is: problem with n, scale with s and t, end, or the form of a part for the number i; both forms of right are of the part right
--   part_index p    — the place of the part p among the five
--   placed n x     — the number i is 1 to n
--   outside f      — 3: a number of it other than i is outside its range
--   miscounted n f — 4: a row or inverse list with other than n numbers
use Rattle.std.specs.Prelude.{Bool, true, false, not, ◌&&◌, ◌∷◌, ℕ, eqb, pos, length}
use Rattle.std.specs.Int.Signed.{le_z}
use Rattle.rules.specs.Range.{in_range}
use Rattle.rules.specs.declared.Kind.TheVariants as kind
use Rattle.line_form.specs.Form.{Form, problem, scale, row, right, right_within, guess, inverse, weight, end}
use Rattle.line_form.specs.List.{all_inside}
use Rattle.loader_values.specs.declared.Item.{Item}
use Rattle.loader_values.specs.declared.Item.TheVariants.{Problem, Scale, Of, End}
use Rattle.loader_values.specs.declared.Part.{Part}
use Rattle.loader_values.specs.declared.Part.TheVariants.{Row, Right, Guess, Inverse, Weight}

abbrev pub item_of : Form → Item
item_of (problem n) = Problem n
item_of (scale s t) = Scale s t
item_of (row i a others) = Of Row i
item_of (right i b) = Of Right i
item_of (right_within i b d) = Of Right i
item_of (guess i x) = Of Guess i
item_of (inverse i g others) = Of Inverse i
item_of (weight i w) = Of Weight i
item_of end = End

abbrev pub part_index : Part → ℕ
part_index Row = 0
part_index Right = 1
part_index Guess = 2
part_index Inverse = 3
part_index Weight = 4

abbrev pub placed : ℕ → Item → Bool
placed n (Problem m) = true
placed n (Scale s t) = true
placed n (Of p i) = le_z (pos 1) i && le_z i (pos n)
placed n End = true

abbrev pub outside : Form → Bool
outside (problem n) = not (in_range kind.Size n)
outside (scale s t) = not (in_range kind.SolutionScale s && in_range kind.InverseScale t)
outside (row i a others) = not (all_inside kind.Matrix (a ∷ others))
outside (right i b) = not (in_range kind.Right b)
outside (right_within i b d) = not (in_range kind.Right b && in_range kind.Tolerance d)
outside (guess i x) = not (in_range kind.Guess x)
outside (inverse i g others) = not (all_inside kind.Inverse (g ∷ others))
outside (weight i w) = not (in_range kind.Weight w)
outside end = false

abbrev pub miscounted : ℕ → Form → Bool
miscounted n (problem m) = false
miscounted n (scale s t) = false
miscounted n (row i a others) = not (eqb (length (a ∷ others)) n)
miscounted n (right i b) = false
miscounted n (right_within i b d) = false
miscounted n (guess i x) = false
miscounted n (inverse i g others) = not (eqb (length (g ∷ others)) n)
miscounted n (weight i w) = false
miscounted n end = false
