-- Document 01's number for each refusal, with the places or the count that it names; rows and columns are counted from 1.
--   number_of r — the number of the refusal r
--   values_of r — the places or the count that it gives: a row for 5 and 6, column and row for 7, the count of missing forms for 13
--   Outcome    — acceptance with nothing beside it, or a refusal
--   code o     — what an outcome says: nothing where it is accepted, else the number and then the values
use Rattle.std.specs.Prelude.{List, [], ◌∷◌, ℕ, Result, Ok, Err, ⊤}
use Rattle.rules.specs.declared.Refusal.{Refusal}
use Rattle.rules.specs.declared.Refusal.TheVariants.{TooLong, NoForm, OutOfRange, WrongCount, Margin, Residual, InverseResidual, TooShort, TooEarly, Repeated, Missing, AfterEnd, NotEnded}

abbrev pub number_of : Refusal → ℕ
number_of TooLong = 1
number_of NoForm = 2
number_of OutOfRange = 3
number_of WrongCount = 4
number_of (Margin row) = 5
number_of (Residual row) = 6
number_of (InverseResidual column row) = 7
number_of TooShort = 8
number_of TooEarly = 11
number_of Repeated = 12
number_of (Missing count) = 13
number_of AfterEnd = 14
number_of NotEnded = 15

abbrev pub values_of : Refusal → List ℕ
values_of TooLong = []
values_of NoForm = []
values_of OutOfRange = []
values_of WrongCount = []
values_of (Margin row) = row ∷ []
values_of (Residual row) = row ∷ []
values_of (InverseResidual column row) = column ∷ row ∷ []
values_of TooShort = []
values_of TooEarly = []
values_of Repeated = []
values_of (Missing count) = count ∷ []
values_of AfterEnd = []
values_of NotEnded = []

abbrev pub Outcome : Type 0
Outcome = Result ⊤ Refusal

abbrev pub code : Outcome → List ℕ
code (Ok done) = []
code (Err r) = number_of r ∷ values_of r
