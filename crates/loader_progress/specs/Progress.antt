-- How far a loader has come (01: the desk), and the refusals that depend on it. z are its five sets of given forms, one for each part.
--   set_of z p     — the set of a part; the number i, from 1, is its place i − 1
--   given z p i   — the form of the part p for the number i was given
--   marked z p i  — the sets with that form
--   counted_parts  — the parts whose forms count as missing (02, Paper 1: "makes the weight form optional"): all but the weights
--   total_over ps f — the sum of f over the parts ps
--   missing n z   — how many forms are still missing (02, Paper 1: "The count of forms still missing is now out of 4n"): each i from 1 to n not given, once
--                   for each counted part
--   sized, scaled, ended — whether problem, whether scale was given; 14: whether the end was accepted
--   early s x     — 11: a form other than problem first, or other than problem or scale before the scale
--   misplaced s n x — 3 for the place: i is not 1 to n; or n itself is out of range, which it is at no loader made by `new` and `take`
--   repeated s z x — 12: a form given already: problem, scale, or this part and i
--   incomplete n z x — 13: end with forms outstanding
-- A stage as a number.
--   stage_number s — 0: nothing given, 1: problem, 2: scale, 3: an accepted end
--   stage_of k     — the stage of a number; one above 3, which is that of no stage, stands for nothing given
use Rattle.std.specs.Prelude.{Bool, true, false, not, ◌&&◌, ◌||◌, cond, List, [], ◌∷◌, ℕ, ◌+◌, ◌-◌, ltb, eqb, pos, nat_abs, get_or, set}
use Rattle.rules.specs.Range.{in_range}
use Rattle.rules.specs.declared.Kind.TheVariants.{Size}
use Rattle.loader_bit_set.specs.Places.{has_place, with_place, lacking}
use Rattle.loader_values.specs.Item.{part_index, placed}
use Rattle.loader_values.specs.declared.Item.{Item}
use Rattle.loader_values.specs.declared.Item.TheVariants.{Problem, Scale, Of, End}
use Rattle.loader_values.specs.declared.Part.{Part}
use Rattle.loader_values.specs.declared.Part.TheVariants.{Row, Right, Guess, Inverse}
use Rattle.loader_progress.specs.declared.Stage.{Stage}
use Rattle.loader_progress.specs.declared.Stage.TheVariants.{Start, Sized, Scaled, Ended}

abbrev pub set_of : List ℕ → Part → ℕ
set_of z p = get_or z (part_index p) 0

abbrev pub given : List ℕ → Part → ℕ → Bool
given z p i = has_place (set_of z p) (i - 1)

abbrev pub marked : List ℕ → Part → ℕ → List ℕ
marked z p i = set z (part_index p) (with_place (set_of z p) (i - 1))

abbrev pub counted_parts : List Part
counted_parts = Row ∷ Right ∷ Guess ∷ Inverse ∷ []

abbrev pub total_over : List Part → (Part → ℕ) → ℕ
total_over [] f = 0
total_over (p ∷ ps) f = f p + total_over ps f

unfoldable pub missing : ℕ → List ℕ → ℕ
missing n z = total_over counted_parts (λ (p : Part). lacking (set_of z p) n)

abbrev pub sized : Stage → Bool
sized Start = false
sized Sized = true
sized Scaled = true
sized Ended = true

abbrev pub scaled : Stage → Bool
scaled Start = false
scaled Sized = false
scaled Scaled = true
scaled Ended = true

abbrev pub ended : Stage → Bool
ended Start = false
ended Sized = false
ended Scaled = false
ended Ended = true

abbrev pub early : Stage → Item → Bool
early s (Problem n) = false
early s (Scale u v) = not (sized s)
early s (Of p i) = not (scaled s)
early s End = not (scaled s)

unfoldable pub misplaced : Stage → ℕ → Item → Bool
misplaced s n x = (sized s && not (in_range Size (pos n))) || not (placed n x)

abbrev pub repeated : Stage → List ℕ → Item → Bool
repeated s z (Problem n) = sized s
repeated s z (Scale u v) = scaled s
repeated s z (Of p i) = given z p (nat_abs i)
repeated s z End = false

abbrev pub incomplete : ℕ → List ℕ → Item → Bool
incomplete n z (Problem m) = false
incomplete n z (Scale u v) = false
incomplete n z (Of p i) = false
incomplete n z End = ltb 0 (missing n z)

abbrev pub stage_number : Stage → ℕ
stage_number Start = 0
stage_number Sized = 1
stage_number Scaled = 2
stage_number Ended = 3

abbrev pub stage_of : ℕ → Stage
stage_of k = cond (eqb k 1) Sized (cond (eqb k 2) Scaled (cond (eqb k 3) Ended Start))
