-- What 02's Paper 9 changes in a check on lists, exactly, against the check before it (specs/Before). Rows and places count from 0 here, a place of the inverse
-- being column · n + row, and from 1 in what is said.
--   exceeds_row_at P i — the residual of the inverse's column and row at the place i is above the sum along its row
--   RowsKept P k, PlacesKept P i — no residual of the guess in a row before k, none of the inverse at a place before i, is above that sum
--   FirstRow P k, FirstPlace P i — row k, place i is the first where one is
--   at_row k, at_place n i — 6 at row k, 7 at the place i
--   Tightened I before now — what was said before, what is said now, and when: 8, 3 and 5 stay; a 6 stays, or becomes a 6 of a lower row; a 7 stays, or
--     becomes a 7 of a lower place, or a 6; what was accepted stays so, or becomes a 6 or a 7
use Rattle.std.specs.Prelude.{Bool, true, false, List, [], ◌∷◌, ◌≡◌, ℕ, ◌+◌, ◌*◌, ◌/◌, ◌%◌, ◌<◌}
use Rattle.enclosure.specs.Problem.{Problem, column_of}
use Rattle.enclosure.specs.Reckoning.{exceeds_row}
use Rattle.check_spec.specs.Input.{Input, problem}

abbrev pub exceeds_row_at : Problem → ℕ → Bool
exceeds_row_at P i = exceeds_row (column_of P (i / P.n)) (i % P.n)

abbrev pub RowsKept : Problem → ℕ → Type 0
RowsKept P k = (i : ℕ) → i < k → exceeds_row P i ≡ false

abbrev pub PlacesKept : Problem → ℕ → Type 0
PlacesKept P i = (k : ℕ) → k < i → exceeds_row_at P k ≡ false

pub record FirstRow (P : Problem) (k : ℕ) : Type 0 where
  pub fails : exceeds_row P k ≡ true
  pub before : RowsKept P k

pub record FirstPlace (P : Problem) (i : ℕ) : Type 0 where
  pub fails : exceeds_row_at P i ≡ true
  pub before : PlacesKept P i

abbrev pub at_row : ℕ → List ℕ
at_row k = 6 ∷ (k + 1) ∷ []

abbrev pub at_place : ℕ → ℕ → List ℕ
at_place n i = 7 ∷ (i / n + 1) ∷ (i % n + 1) ∷ []

pub data Tightened (I : Input) : List ℕ → List ℕ → Type 0 where
  too_short : Tightened I (8 ∷ []) (8 ∷ [])
  out_of_range : Tightened I (3 ∷ []) (3 ∷ [])
  margin_low : (m : ℕ) → Tightened I (5 ∷ (m + 1) ∷ []) (5 ∷ (m + 1) ∷ [])
  row_stays : (k : ℕ) → RowsKept (problem I) k → Tightened I (at_row k) (at_row k)
  row_lower : (k i : ℕ) → i < k → FirstRow (problem I) i → Tightened I (at_row k) (at_row i)
  place_stays : (i : ℕ) → RowsKept (problem I) I.n → PlacesKept (problem I) i → Tightened I (at_place I.n i) (at_place I.n i)
  place_lower : (i k : ℕ) → k < i → RowsKept (problem I) I.n → FirstPlace (problem I) k → Tightened I (at_place I.n i) (at_place I.n k)
  place_to_row : (i k : ℕ) → k < I.n → FirstRow (problem I) k → Tightened I (at_place I.n i) (at_row k)
  accepted_stays : RowsKept (problem I) I.n → PlacesKept (problem I) (I.n * I.n) → Tightened I [] []
  accepted_to_row : (k : ℕ) → k < I.n → FirstRow (problem I) k → Tightened I [] (at_row k)
  accepted_to_place : (i : ℕ) → i < I.n * I.n → RowsKept (problem I) I.n → FirstPlace (problem I) i → Tightened I [] (at_place I.n i)
