-- The ranges of document 01 ("The system and its steps") and, last, of document 02's Papers 7, 5 and 3, one line of a table for each kind of number, and the
-- lengths of lent lists.
--   from_to a b  — the range from a to b
--   ranges      — the table: lowest and highest value, in the order of `Kind`, which stands beside each
--   index_of k   — the line of the kind k
--   range_of k   — its lowest and highest value
--   in_range k z — z is a number of that kind's range
--   all_in_range k n f — f 0, .., f (n − 1) all are
--   short_matrix k, short_column k — 8: a lent matrix list, or column list, of k numbers is too short
use Rattle.std.specs.Prelude.{Bool, ◌&&◌, List, [], ◌∷◌, ℕ, ltb, ℤ, pos, negsuc, get_or}
use Rattle.std.specs.Int.Signed.{le_z}
use Rattle.integer.specs.Finite.{every}
use Rattle.rules.specs.declared.Kind.{Kind}
use Rattle.rules.specs.declared.Kind.TheVariants.{Size, SolutionScale, InverseScale, Matrix, Right, Guess, Inverse, Weight, Allowance, Tolerance, Key, Mark, Difference, LineWeight}
use Rattle.rules.specs.declared.Range.{Range}

abbrev pub from_to : ℤ → ℤ → Range
from_to a b = record { lowest = a; highest = b }

unfoldable pub ranges : List Range
ranges =
    from_to (pos 1) (pos 32)  -- Size: n
    ∷ from_to (pos 0) (pos 20)  -- SolutionScale: s
    ∷ from_to (pos 0) (pos 20)  -- InverseScale: t
    ∷ from_to (negsuc 1048575) (pos 1048576)  -- Matrix: A
    ∷ from_to (negsuc 1073741823) (pos 1073741824)  -- Right: b
    ∷ from_to (negsuc 68719476735) (pos 68719476736)  -- Guess: X
    ∷ from_to (negsuc 1048575) (pos 1048576)  -- Inverse: G
    ∷ from_to (pos 1) (pos 1024)  -- Weight: w
    ∷ from_to (pos 1) (pos 64)  -- Allowance; 02, Paper 7: "The caller states how many lists may be tried, 1 to 64."
    ∷ from_to (pos 0) (pos 1048576)  -- Tolerance; 02, Paper 5: "a tolerance d of 0 to 2^20"
    ∷ from_to (pos 1) (pos 65535)  -- Key; 02, Paper 3: "A field line has a key (1 to 65,535),"
    ∷ from_to (pos 0) (pos 32)  -- Mark; "two marks from and to (0 to n, where 0 is the fixed mark of height 0),"
    ∷ from_to (negsuc 65535) (pos 65536)  -- Difference; "a difference in whole units (−65,536 to 65,536)"
    ∷ from_to (pos 1) (pos 64)  -- LineWeight; "and a weight (1 to 64)."
    ∷ []

abbrev pub index_of : Kind → ℕ
index_of Size = 0
index_of SolutionScale = 1
index_of InverseScale = 2
index_of Matrix = 3
index_of Right = 4
index_of Guess = 5
index_of Inverse = 6
index_of Weight = 7
index_of Allowance = 8
index_of Tolerance = 9
index_of Key = 10
index_of Mark = 11
index_of Difference = 12
index_of LineWeight = 13

unfoldable pub range_of : Kind → Range
range_of k = get_or ranges (index_of k) (from_to (pos 0) (pos 0))

unfoldable pub in_range : Kind → ℤ → Bool
in_range k z = le_z (range_of k).lowest z && le_z z (range_of k).highest

unfoldable pub all_in_range : Kind → ℕ → (ℕ → ℤ) → Bool
all_in_range k n f = every n (λ (i : ℕ). in_range k (f i))

abbrev pub short_matrix : ℕ → Bool
short_matrix k = ltb k 1024

abbrev pub short_column : ℕ → Bool
short_column k = ltb k 32
