-- The same of a form as the code has it, its numbers capped and those of a list beside it; cited by the contracts inside. Laws in
-- proofs/Capped.antt tie them to the exact form: the tests say the same of both, and a form that no test refuses is its capped form.
--   item_in m      — item_of
--   outside_in m b — outside, b telling whether the numbers of a list are in their range
--   miscounted_in n m c — miscounted, c being the count of a list
--   values_in m vs — 32 numbers, of which the first are those that it gives for a list; of a right side the second is its tolerance
use Rattle.std.specs.Prelude.{Bool, false, not, ◌&&◌, List, ℕ, eqb, ℤ, set}
use Rattle.rules.specs.Range.{in_range}
use Rattle.rules.specs.declared.Kind.TheVariants as kind
use Rattle.line_parts.specs.declared.CappedForm.{CappedForm}
use Rattle.line_parts.specs.declared.CappedForm.TheVariants as form
use Rattle.loader_values.specs.declared.Item.{Item}
use Rattle.loader_values.specs.declared.Item.TheVariants.{Problem, Scale, Of, End}
use Rattle.loader_values.specs.declared.Part.TheVariants.{Row, Right, Guess, Inverse, Weight}

abbrev pub item_in : CappedForm → Item
item_in (form.Problem n) = Problem n
item_in (form.Scale s t) = Scale s t
item_in (form.Row i) = Of Row i
item_in (form.Right i b d) = Of Right i
item_in (form.Guess i x) = Of Guess i
item_in (form.Inverse i) = Of Inverse i
item_in (form.Weight i w) = Of Weight i
item_in form.End = End

abbrev pub outside_in : CappedForm → Bool → Bool
outside_in (form.Problem n) inside = not (in_range kind.Size n)
outside_in (form.Scale s t) inside = not (in_range kind.SolutionScale s && in_range kind.InverseScale t)
outside_in (form.Row i) inside = not inside
outside_in (form.Right i b d) inside = not (in_range kind.Right b && in_range kind.Tolerance d)
outside_in (form.Guess i x) inside = not (in_range kind.Guess x)
outside_in (form.Inverse i) inside = not inside
outside_in (form.Weight i w) inside = not (in_range kind.Weight w)
outside_in form.End inside = false

abbrev pub miscounted_in : ℕ → CappedForm → ℕ → Bool
miscounted_in n (form.Problem m) c = false
miscounted_in n (form.Scale s t) c = false
miscounted_in n (form.Row i) c = not (eqb c n)
miscounted_in n (form.Right i b d) c = false
miscounted_in n (form.Guess i x) c = false
miscounted_in n (form.Inverse i) c = not (eqb c n)
miscounted_in n (form.Weight i w) c = false
miscounted_in n form.End c = false

abbrev pub values_in : CappedForm → List ℤ → List ℤ
values_in (form.Problem n) vs = vs
values_in (form.Scale s t) vs = vs
values_in (form.Row i) vs = vs
values_in (form.Right i b d) vs = set (set vs 0 b) 1 d
values_in (form.Guess i x) vs = set vs 0 x
values_in (form.Inverse i) vs = vs
values_in (form.Weight i w) vs = set vs 0 w
values_in form.End vs = vs
