-- Where the numbers of a form go (01: "its form's other numbers at their own places in the lent lists, and changes no other number in those
-- lists"). Row i of an n-wide matrix starts at (i − 1)·n.
--   put_item s n x vs l — the list l of the slot s after the item x with the values vs; `sets l k vs` is l with vs from the place k on
--   put s n f l  — that list after the form f, at a loader of size n;  put_all n f l — all lists
--   closed n z x l — all lists after the item x, where z is the set of the weights that were given: an end fills in the others, and every other list stays as it is
-- What an accepted end writes (02, Paper 1: "A weight not given stands for 1, and an accepted end writes 1 into every such place of the lent list").
-- z is the set of the weights that were given, one place for each i from 1 to n: the number i is the place i − 1.
--   filled_at z k l — the list l with 1 at the place k, where that place is not in the set z
--   filled n z l   — the same at every place below n
--   closed_weights n z x l — the weight list l after the item x: an end fills it in, any other item leaves it
use Rattle.std.specs.Prelude.{cond, List, ℕ, ◌*◌, ◌-◌, zero, suc, eqb, ℤ, nat_abs, pos, set}
use Rattle.std.proofs.lemmas.List.Edits.{sets}
use Rattle.line_form.specs.Form.{Form}
use Rattle.loader_values.specs.Item.{item_of, part_index}
use Rattle.loader_values.specs.declared.Item.{Item}
use Rattle.loader_values.specs.declared.Item.TheVariants.{Problem, Scale, Of, End}
use Rattle.loader_bit_set.specs.Places.{has_place}
use Rattle.loader_lists.specs.Slot.{Slot, Matrix, Right, Tolerance, Guess, Inverse, Weight, part_of, width, values_for}
use Rattle.loader_lists.specs.Lists.{Lists, lists}

abbrev pub filled_at : ℕ → ℕ → List ℤ → List ℤ
filled_at z k l = cond (has_place z k) l (set l k (pos 1))

unfoldable pub filled : ℕ → ℕ → List ℤ → List ℤ
filled zero z l = l
filled (suc k) z l = filled_at z k (filled k z l)

abbrev pub closed_weights : ℕ → ℕ → Item → List ℤ → List ℤ
closed_weights n z (Problem m) l = l
closed_weights n z (Scale s t) l = l
closed_weights n z (Of p i) l = l
closed_weights n z End l = filled n z l

abbrev pub put_item : Slot → ℕ → Item → List ℤ → List ℤ → List ℤ
put_item s n (Problem m) vs l = l
put_item s n (Scale u v) vs l = l
put_item s n (Of p i) vs l = cond (eqb (part_index (part_of s)) (part_index p)) (sets l ((nat_abs i - 1) * width s n) vs) l
put_item s n End vs l = l

abbrev pub put : Slot → ℕ → Form → List ℤ → List ℤ
put s n f l = put_item s n (item_of f) (values_for s f) l

abbrev pub put_all : ℕ → Form → Lists → Lists
put_all n f l = record {
  matrix = put Matrix n f l.matrix;
  right = put Right n f l.right;
  tolerance = put Tolerance n f l.tolerance;
  guess = put Guess n f l.guess;
  inverse = put Inverse n f l.inverse;
  weights = put Weight n f l.weights;
}

abbrev pub closed : ℕ → ℕ → Item → Lists → Lists
closed n z x l = lists l.matrix l.right l.tolerance l.guess l.inverse (closed_weights n z x l.weights)
