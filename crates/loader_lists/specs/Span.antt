-- What the code writes of a form into one list, its numbers capped; cited by the contracts inside.
--   Narrow w x    — the item x, if it is of a part, has i in 1 to 32 and at most 32 numbers, w; at an end w is at most 32
--   Room w k x    — the same, in a list of length k that has room for 32 · w
--   FillRoom n k x — an end's first n places, at most 32, are in a list of length k
--   nowhere       — no place;  span_of p x w — the places of the item x in a list of the part p, of w numbers a form: none where it is of another part
--   pasted_at       — a list after the first of 32 numbers were written there
--   second_of vs    — 32 times the second of 32 numbers, which is a right side's tolerance
use Rattle.std.specs.Prelude.{true, cond, List, ◌≡◌, ℕ, ◌*◌, ◌-◌, ◌≤◌, eqb, ℤ, pos, nat_abs, get_or, replicate}
use Rattle.std.proofs.Math.Seq.{paste}
use Rattle.loader_values.specs.Item.{part_index, placed}
use Rattle.loader_values.specs.declared.Item.{Item}
use Rattle.loader_values.specs.declared.Item.TheVariants.{Problem, Scale, Of, End}
use Rattle.loader_values.specs.declared.Part.{Part}
use Rattle.loader_lists.specs.declared.Span.{Span}

abbrev pub Narrow : ℕ → Item → Type 0
Narrow w (Problem n) = Unit
Narrow w (Scale s t) = Unit
Narrow w (Of p i) = (w ≤ 32) × (placed 32 (Of p i) ≡ true)
Narrow w End = w ≤ 32

abbrev pub Room : ℕ → ℕ → Item → Type 0
Room w k (Problem n) = Unit
Room w k (Scale s t) = Unit
Room w k (Of p i) = (w ≤ 32) × (32 * w ≤ k) × (placed 32 (Of p i) ≡ true)
Room w k End = w ≤ 32

abbrev pub FillRoom : ℕ → ℕ → Item → Type 0
FillRoom n k (Problem m) = Unit
FillRoom n k (Scale s t) = Unit
FillRoom n k (Of p i) = Unit
FillRoom n k End = (n ≤ 32) × (n ≤ k)

abbrev pub nowhere : Span
nowhere = record { at = 0; count = 0 }

abbrev pub span_of : Part → Item → ℕ → Span
span_of p (Problem n) w = nowhere
span_of p (Scale s t) w = nowhere
span_of p (Of q i) w = cond (eqb (part_index p) (part_index q)) (record { at = (nat_abs i - 1) * w; count = w }) nowhere
span_of p End w = nowhere

abbrev pub pasted_at : Span → List ℤ → List ℤ → List ℤ
pasted_at s vs l = paste l s.at vs s.count

abbrev pub second_of : List ℤ → List ℤ
second_of vs = replicate 32 (get_or vs 1 (pos 0))
