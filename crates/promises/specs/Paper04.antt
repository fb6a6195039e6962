-- 02, Paper 4. Keep the running place. "Large offices check hundreds of nets in a batch" is its reason. "However it is done now, in the sums along a row and
-- down a column the place of each number is carried along from term to term, and no term multiplies it out from row and column": no statement of its own, since
-- it is the form of the code; tests/places.py reads the sources for a product in an index. "Contracts and listings are the same to the last byte": no contract
-- of a call that others may use speaks of a carried place.
use Rattle.std.specs.Prelude.{◌≡◌, List, ℕ, ℤ, ◌+◌, ◌*◌, ◌<◌, get_or}
use Rattle.std.specs.List.{between}
use Rattle.linear.specs.Place.{Carried, place_of}

-- "At each term it is shown to be the place that row and column give": what the loops that sum say of their places (`Carried`), along row i and down column j: of
-- the number that a loop carries, or of the start of the row whose slice it goes along
abbrev pub CarriedIsPlace : Type 0
CarriedIsPlace =
    (n i j k place : ℕ) →
    (Carried (i * n) 1 k place → place ≡ place_of n i k) × (Carried j n k place → place ≡ place_of n k j)

-- The same where a loop goes along a part of a list, which begins at the start of row i: number k of the part is the number at the place that row and column
-- give. Rows start w places apart, n in a matrix and n + 1 where a row is biased; only the start of a row is carried by a number of its own.
abbrev pub PartIsPlace : Type 0
PartIsPlace =
    (w n i k row : ℕ) → Carried 0 w i row → k < n →
    ((xs : List ℤ) (d : ℤ) → get_or (between row (row + n) xs) k d ≡ get_or xs (place_of w i k) d) ×
    ((xs : List ℕ) (d : ℕ) → get_or (between row (row + n) xs) k d ≡ get_or xs (place_of w i k) d)
