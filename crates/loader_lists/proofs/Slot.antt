-- A list and the part whose forms give its numbers.
--   slot_of p — the list of a part, of the part right that of b
--   of_part — a list of the part p, if p is not right, is that list;  of_right — a list of the part right is one of two
--   other_part — two parts that differ are not equal
use mathlib.Core.Path.{◌≡◌, refl, sym, ap, subst, ◌∙◌}
use mathlib.Core.Bool.{Bool, not}
use borrow.Author.Tests.{eq-eqb}
use lib.Dec.{T, eqb}
use Rattle.loader_values.specs.Item.{part_index}
use Rattle.loader_values.specs.declared.Part.{Part}
use Rattle.loader_values.specs.declared.Part.TheVariants as part
use Rattle.loader_lists.specs.Slot.{Slot, Matrix, Right, Tolerance, Guess, Inverse, Weight, part_of}

abbrev pub slot_of : Part → Slot
slot_of part.Row = Matrix
slot_of part.Right = Right
slot_of part.Guess = Guess
slot_of part.Inverse = Inverse
slot_of part.Weight = Weight

slot_of_lem : (s : Slot) → (part_of s ≡ part.Right → ⊥) → slot_of (part_of s) ≡ s
slot_of_lem Matrix n = refl
slot_of_lem Right n = refl
slot_of_lem Tolerance n = absurd (n refl)
slot_of_lem Guess n = refl
slot_of_lem Inverse n = refl
slot_of_lem Weight n = refl

pub of_part : (s : Slot) {p : Part} → part_of s ≡ p → (p ≡ part.Right → ⊥) → s ≡ slot_of p
of_part s e n = sym (slot_of_lem s (λ x. n (sym e ∙ x))) ∙ ap slot_of e

pub other_part : {p q : Part} → p ≡ q → T (not (eqb (part_index p) (part_index q))) → ⊥
other_part {p} {q} e h = absurd (subst (λ (b : Bool). T (not b)) (eq-eqb (part_index p) (part_index q) (ap (λ (r : Part). part_index r) e)) h)

pub of_right : (P : Slot → Type 0) → P Right → P Tolerance → (s : Slot) → part_of s ≡ part.Right → P s
of_right P b d Matrix e = absurd (other_part e tt)
of_right P b d Right e = b
of_right P b d Tolerance e = d
of_right P b d Guess e = absurd (other_part e tt)
of_right P b d Inverse e = absurd (other_part e tt)
of_right P b d Weight e = absurd (other_part e tt)
