-- What is said, as numbers for C.
--   ReplyIs l number places — 01's number, 0 where nothing is said, and its two values, 0 where there is none
use Rattle.std.specs.Prelude.{List, [], ◌∷◌, ◌≡◌, ℕ, get_or}

pub record ReplyIs (l : List ℕ) (number : ℕ) (places : List ℕ) : Type 0 where
  pub number_is : number ≡ get_or l 0 0
  pub places_are : places ≡ get_or l 1 0 ∷ get_or l 2 0 ∷ []
