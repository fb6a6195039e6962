-- Cases a to k of document 01 ("Marked for proof"), as rows of a table, answered as 02's Paper 9 has it ("Of 01's cases, a and b become 7, column 1 row 1; f, g
-- and h become 6, row 1; j becomes 7, column 2 row 1"), and rows with tolerances (Paper 5). Rows and columns count from 1, as there.
--   Claim   — a limit that 01 states: of the solution, or of a number of the inverse
--   CaseRow, row — a proposal, what is said of it (nothing: accepted), and the limits that are written
--   single, variant, twice — rows of a common shape, without tolerance; file_with — the whole file's, with tolerances;  a to k, rows — the rows of the table
--   weighted_file — the whole file with weights 3 and 1: dividing first and multiplying by the weight afterwards would give 3 for 1
--   skewed d b c g — A = (4 0 / 1 4), whose sums are 4 and 5 along its rows, 5 and 4 down its columns and 9 in all, with the residuals b and c of the guess,
--     the slack d in the first row, and −4·g and −g for the residuals of the inverse's second column
--   row_sum_rows — that row, and rows whose residual is at and above the sum along its row (Paper 9), of the guess and of the inverse, worked out by hand
--   tolerant d s — A = 1, b = 0 with the tolerance d: the limit is d·S, and 6 comes of slack alone;  summed a — A = a with a residual of a and a slack of
--     63·2^19: the two are 2^25 together for a = 2^19;  tolerance_rows — rows of these shapes, and the whole file with tolerances 1 and 2, worked out by hand
--   unwritten — what stands in the limit lists before the check
--   case_input — the row's numbers in lists that are long enough
--   claimed n E L, all_claimed n E L — a limit, all limits that a row states are what the lists E and L hold, of n equations
--   same_numbers — two lists of numbers are equal
--   holds_by says E L, all_hold_by says E L — a row, all rows hold by a check that says this and leaves the two limit lists E and L
--   row_holds, all_rows_hold — they hold by the check on lists
use Rattle.std.specs.Prelude.{Bool, true, false, ◌&&◌, List, [], ◌∷◌, ℕ, ◌+◌, ◌*◌, ◌-◌, ◌^◌, eqb, ℤ, pos, negsuc, get_or, replicate}
use Rattle.enclosure.specs.Example.{padded}
use Rattle.check_spec.specs.Input.{Input, input}
use Rattle.check_spec.specs.Order.{answer}
use Rattle.check_spec.specs.Checked.{solution_bounds_after, inverse_bounds_after}

pub data Claim : Type 0 where
  solution : (i bound : ℕ) → Claim
  inverse : (i j bound : ℕ) → Claim

pub record CaseRow : Type 0 where
  pub n : ℕ
  pub s : ℕ
  pub t : ℕ
  pub A : List ℤ
  pub b : List ℤ
  pub d : List ℤ
  pub X : List ℤ
  pub G : List ℤ
  pub w : List ℤ
  pub says : List ℕ
  pub bounds : List Claim

abbrev pub row : ℕ → ℕ → ℕ → List ℤ → List ℤ → List ℤ → List ℤ → List ℤ → List ℤ → List ℕ → List Claim → CaseRow
row n s t A b d X G w says bounds = record {
  n = n;
  s = s;
  t = t;
  A = A;
  b = b;
  d = d;
  X = X;
  G = G;
  w = w;
  says = says;
  bounds = bounds;
}

-- n = 1, b = 0, w = 1
abbrev pub single : ℤ → ℕ → ℕ → ℤ → ℤ → List ℕ → List Claim → CaseRow
single a s t x g = row 1 s t (a ∷ []) (pos 0 ∷ []) (pos 0 ∷ []) (x ∷ []) (g ∷ []) (pos 1 ∷ [])

-- the whole file, with tolerances, another guess and other weights
abbrev pub file_with : List ℤ → ℤ → ℤ → ℤ → ℤ → List ℕ → List Claim → CaseRow
file_with d x y v w =
    row 2 4 4 (pos 4 ∷ negsuc 0 ∷ negsuc 0 ∷ pos 3 ∷ []) (pos 5 ∷ pos 1 ∷ []) d (x ∷ y ∷ []) (pos 4 ∷ pos 1 ∷ pos 1 ∷ pos 6 ∷ []) (v ∷ w ∷ [])

abbrev pub variant : ℤ → ℤ → ℤ → ℤ → List ℕ → List Claim → CaseRow
variant = file_with (pos 0 ∷ pos 0 ∷ [])

-- A = (1,048,576 0 / 0 1), b = X = 0
abbrev pub twice : ℤ → List ℕ → List Claim → CaseRow
twice g =
    row 2 0 20 (pos 1048576 ∷ pos 0 ∷ pos 0 ∷ pos 1 ∷ []) (pos 0 ∷ pos 0 ∷ []) (pos 0 ∷ pos 0 ∷ []) (pos 0 ∷ pos 0 ∷ [])
    (pos 1 ∷ g ∷ pos 0 ∷ pos 1048576 ∷ []) (pos 1 ∷ pos 1 ∷ [])

abbrev pub a : CaseRow
a = single (pos 4) 0 4 (pos 0) (pos 1) (7 ∷ 1 ∷ 1 ∷ []) []

abbrev pub b : CaseRow
b = single (pos 4) 0 4 (pos 0) (pos 7) (7 ∷ 1 ∷ 1 ∷ []) []

abbrev pub c : CaseRow
c = single (pos 4) 0 4 (pos 0) (pos 0) (5 ∷ 1 ∷ []) []

abbrev pub d : CaseRow
d = single (pos 4) 0 4 (pos 0) (pos 8) (5 ∷ 1 ∷ []) []

abbrev pub e : CaseRow
e =
    variant (pos 23) (pos 13) (pos 1) (pos 1) []
    (solution 1 1 ∷ solution 2 1 ∷ inverse 1 1 1 ∷ inverse 1 2 1 ∷ inverse 2 1 1 ∷ inverse 2 2 1 ∷ [])

abbrev pub f : CaseRow
f = variant (pos 20) (pos 13) (pos 1) (pos 1) (6 ∷ 1 ∷ []) []

abbrev pub g : CaseRow
g = variant (pos 20) (pos 13) (pos 3) (pos 1) (6 ∷ 1 ∷ []) []

abbrev pub h : CaseRow
h = single (pos 1048576) 0 20 (pos 32) (pos 1) (6 ∷ 1 ∷ []) []

abbrev pub i : CaseRow
i = single (pos 1048576) 0 20 (pos 33) (pos 1) (6 ∷ 1 ∷ []) []

abbrev pub j : CaseRow
j = twice (pos 32) (7 ∷ 2 ∷ 1 ∷ []) []

abbrev pub k : CaseRow
k = twice (pos 33) (7 ∷ 2 ∷ 1 ∷ []) []

abbrev pub rows : List CaseRow
rows = a ∷ b ∷ c ∷ d ∷ e ∷ f ∷ g ∷ h ∷ i ∷ j ∷ k ∷ []

abbrev pub weighted_file : CaseRow
weighted_file = variant (pos 23) (pos 13) (pos 3) (pos 1) [] (solution 1 1 ∷ solution 2 1 ∷ [])

abbrev pub skewed : ℤ → ℤ → ℤ → ℤ → List ℕ → List Claim → CaseRow
skewed d b c g =
    row 2 0 4 (pos 4 ∷ pos 0 ∷ pos 1 ∷ pos 4 ∷ []) (b ∷ c ∷ []) (d ∷ pos 0 ∷ []) (pos 0 ∷ pos 0 ∷ []) (pos 4 ∷ g ∷ negsuc 0 ∷ pos 4 ∷ []) (pos 1 ∷ pos 1 ∷ [])

abbrev pub row_sum_rows : List CaseRow
row_sum_rows =
    weighted_file
    ∷ single (pos 4) 0 4 (pos 1) (pos 4) [] (solution 1 1 ∷ inverse 1 1 0 ∷ [])
    ∷ single (pos 4) 0 4 (pos 2) (pos 4) (6 ∷ 1 ∷ []) []
    ∷ single (pos 4) 0 4 (pos 0) (pos 3) [] (solution 1 0 ∷ inverse 1 1 1 ∷ [])
    ∷ single (pos 4) 0 4 (pos 0) (pos 2) (7 ∷ 1 ∷ 1 ∷ []) []
    ∷ skewed (pos 0) (pos 4) (pos 5) (pos 0) [] (solution 1 1 ∷ solution 2 1 ∷ [])
    ∷ skewed (pos 0) (pos 5) (pos 4) (pos 0) (6 ∷ 1 ∷ []) []
    ∷ skewed (pos 0) (pos 4) (pos 6) (pos 0) (6 ∷ 2 ∷ []) []
    ∷ skewed (pos 1) (pos 5) (pos 4) (pos 0) (6 ∷ 1 ∷ []) []
    ∷ skewed (pos 0) (pos 0) (pos 0) (pos 1) [] (inverse 1 1 0 ∷ inverse 1 2 2 ∷ inverse 2 2 2 ∷ [])
    ∷ skewed (pos 0) (pos 0) (pos 0) (pos 2) (7 ∷ 2 ∷ 1 ∷ []) []
    ∷ []

abbrev pub tolerant : ℤ → ℕ → List ℕ → List Claim → CaseRow
tolerant d s = row 1 s 4 (pos 1 ∷ []) (pos 0 ∷ []) (d ∷ []) (pos 0 ∷ []) (pos 16 ∷ []) (pos 1 ∷ [])

abbrev pub summed : ℤ → List ℕ → List Claim → CaseRow
summed a = row 1 19 20 (a ∷ []) (pos 0 ∷ []) (pos 63 ∷ []) (pos 1 ∷ []) (pos 2 ∷ []) (pos 1 ∷ [])

abbrev pub tolerance_rows : List CaseRow
tolerance_rows =
    tolerant (pos 3) 4 [] (solution 1 48 ∷ inverse 1 1 0 ∷ [])
    ∷ tolerant (pos 32) 20 [] (solution 1 33554432 ∷ inverse 1 1 0 ∷ [])
    ∷ tolerant (pos 33) 20 (6 ∷ 1 ∷ []) []
    ∷ tolerant (pos 1048576) 0 [] (solution 1 1048576 ∷ [])
    ∷ tolerant (pos 1048577) 0 (3 ∷ []) []
    ∷ tolerant (negsuc 0) 0 (3 ∷ []) []
    ∷ summed (pos 524288) [] (solution 1 64 ∷ [])
    ∷ summed (pos 524289) (6 ∷ 1 ∷ []) []
    -- magnitudes 4 + 4·16 + 1·32 and 1 + 1·16 + 6·32 over margins 14 and 13
    ∷ file_with (pos 1 ∷ pos 2 ∷ []) (pos 23) (pos 13) (pos 1) (pos 1) [] (solution 1 17 ∷ solution 2 17 ∷ inverse 1 1 1 ∷ inverse 2 1 1 ∷ [])
    ∷ []

-- no limit is as large
abbrev pub unwritten : ℕ
unwritten = 2 ^ 60 + 1

abbrev pub case_input : CaseRow → Input
case_input r =
    input r.n r.s r.t (padded r.A) (padded r.b) (padded r.d) (padded r.X) (padded r.G) (padded r.w)
    (replicate 32 unwritten) (replicate 1024 unwritten)

abbrev pub claimed : ℕ → List ℕ → List ℕ → Claim → Bool
claimed n E L (solution i bound) = eqb (get_or E (i - 1) 0) bound
claimed n E L (inverse i j bound) = eqb (get_or L ((i - 1) * n + (j - 1)) 0) bound

abbrev pub all_claimed : ℕ → List ℕ → List ℕ → List Claim → Bool
all_claimed n E L [] = true
all_claimed n E L (x ∷ xs) = claimed n E L x && all_claimed n E L xs

abbrev pub same_numbers : List ℕ → List ℕ → Bool
same_numbers [] [] = true
same_numbers [] (y ∷ ys) = false
same_numbers (x ∷ xs) [] = false
same_numbers (x ∷ xs) (y ∷ ys) = eqb x y && same_numbers xs ys

abbrev pub holds_by : (Input → List ℕ) → (Input → List ℕ) → (Input → List ℕ) → CaseRow → Bool
holds_by says E L r = same_numbers (says (case_input r)) r.says && all_claimed r.n (E (case_input r)) (L (case_input r)) r.bounds

abbrev pub all_hold_by : (Input → List ℕ) → (Input → List ℕ) → (Input → List ℕ) → List CaseRow → Bool
all_hold_by says E L [] = true
all_hold_by says E L (r ∷ rs) = holds_by says E L r && all_hold_by says E L rs

abbrev pub row_holds : CaseRow → Bool
row_holds = holds_by answer solution_bounds_after inverse_bounds_after

abbrev pub all_rows_hold : List CaseRow → Bool
all_rows_hold = all_hold_by answer solution_bounds_after inverse_bounds_after
