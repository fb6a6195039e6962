-- One of the lent lists.
--   list_of s l — the list of the slot s
use Rattle.std.specs.Prelude.{List, ℤ}
use Rattle.loader_lists.specs.Slot.{Slot, Matrix, Right, Tolerance, Guess, Inverse, Weight}
use Rattle.loader_lists.specs.Lists.{Lists}

abbrev pub list_of : Slot → Lists → List ℤ
list_of Matrix l = l.matrix
list_of Right l = l.right
list_of Tolerance l = l.tolerance
list_of Guess l = l.guess
list_of Inverse l = l.inverse
list_of Weight l = l.weights
