-- What the code writes of a form into all lists, its numbers capped; cited by the contracts inside. proofs/Exact.antt ties it to `put`.
--   Rooms n x l    — every list has room for the item x
--   written_to s vs — the numbers whose first are for the list s
--   pasted_all n x vs l — all lists after the item x
use Rattle.std.specs.Prelude.{List, ℕ, ℤ, length}
use Rattle.loader_values.specs.declared.Item.{Item}
use Rattle.loader_values.specs.declared.Part.TheVariants.{Row, Right, Guess, Inverse, Weight}
use Rattle.loader_lists.specs.Span.{Room, FillRoom, span_of, pasted_at, second_of}
use Rattle.loader_lists.specs.Slot as slot
use Rattle.loader_lists.specs.Slot.{Slot}
use Rattle.loader_lists.specs.Lists.{Lists}

pub record Rooms (n : ℕ) (x : Item) (l : Lists) : Type 0 where
  pub matrix : Room n (length l.matrix) x
  pub right : Room 1 (length l.right) x
  pub tolerance : Room 1 (length l.tolerance) x
  pub guess : Room 1 (length l.guess) x
  pub inverse : Room n (length l.inverse) x
  pub weights : Room 1 (length l.weights) x
  pub filled : FillRoom n (length l.weights) x

abbrev pub written_to : Slot → List ℤ → List ℤ
written_to slot.Matrix vs = vs
written_to slot.Right vs = vs
written_to slot.Tolerance vs = second_of vs
written_to slot.Guess vs = vs
written_to slot.Inverse vs = vs
written_to slot.Weight vs = vs

abbrev pub pasted_all : ℕ → Item → List ℤ → Lists → Lists
pasted_all n x vs l = record {
  matrix = pasted_at (span_of Row x n) vs l.matrix;
  right = pasted_at (span_of Right x 1) vs l.right;
  tolerance = pasted_at (span_of Right x 1) (second_of vs) l.tolerance;
  guess = pasted_at (span_of Guess x 1) vs l.guess;
  inverse = pasted_at (span_of Inverse x n) vs l.inverse;
  weights = pasted_at (span_of Weight x 1) vs l.weights;
}
