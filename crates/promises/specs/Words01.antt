-- Sentences of document 01 that say what a word means, each above the statement that says it, and its whole file and cases. The others stand in
-- specs/Document01 and specs/Lines01.
use Rattle.std.specs.Prelude.{◌&&◌, [], ◌∷◌, ◌++◌, map, ◌↔◌, ◌≡◌, ℕ, suc, ◌+◌, ◌*◌, ◌/◌, ◌%◌, ◌≤◌, ◌<◌, ℤ, pos, negsuc, nat_abs, ◌-ℤ◌, ◌*ℤ◌, get_or}
use Rattle.std.specs.Int.Signed.{le_z}
use Rattle.integer.specs.Finite.{sum, sumℕ}
use Rattle.linear.specs.Matrix.{Vec, Mat, identity}
use Rattle.enclosure.specs.Demand.{ExactSolution, ExactInverse, TwoSided, NoTolerance, RoundedExact}
use Rattle.enclosure.specs.Problem.{Problem, S, T}
use Rattle.line_numeral.specs.Decimal.{numeral}
use Rattle.line_form.specs.Form.{problem, scale, row, right, guess, inverse, weight, end}
use Rattle.line_form.specs.Spelling.{spell}
use Rattle.loader_values.specs.Item.{placed}
use Rattle.loader_values.specs.declared.Item.TheVariants.{Of}
use Rattle.loader_values.specs.declared.Part.{Part}
use Rattle.loader_runs.specs.Lines.{lines_of}
use Rattle.listing.specs.Cases.{whole_file}
use Rattle.promises.specs.Ways.{Accepted}

-- ---- The reckoning
-- "Exact solution" "means whole numbers N and q, q at least 1, with A·N = q·b"
abbrev pub SolutionMeans : Type 0
SolutionMeans =
    (P : Problem) (N : Vec) (q : ℕ) →
    ExactSolution P N q ↔ ((1 ≤ q) × ((k : ℕ) → k < P.n → sum P.n (λ (j : ℕ). P.A k j *ℤ N j) ≡ pos q *ℤ P.b k))

-- "It lies within limit E_i if |S·N_i − q·X_i| is at most q·E_i", as it does of every accepted proposal
abbrev pub SolutionWithin : Type 0
SolutionWithin =
    (P : Problem) (E : ℕ → ℕ) (L : ℕ → ℕ → ℕ) → Accepted P E L → (N : Vec) (q : ℕ) → ExactSolution P N q → (i : ℕ) → i < P.n →
    nat_abs (pos (S P) *ℤ N i -ℤ pos q *ℤ P.X i) ≤ q * E i

-- "An exact inverse is a matrix H with A·H = q·I, and it is two-sided if H·A = q·I as well"
abbrev pub InverseMeans : Type 0
InverseMeans =
    (P : Problem) (H : Mat) (q : ℕ) →
    (ExactInverse P H q ↔ ((1 ≤ q) × ((k j : ℕ) → k < P.n → j < P.n → sum P.n (λ (i : ℕ). P.A k i *ℤ H i j) ≡ pos q *ℤ identity k j)))
    × (TwoSided P H q ↔ (ExactInverse P H q × ((k j : ℕ) → k < P.n → j < P.n → sum P.n (λ (i : ℕ). H k i *ℤ P.A i j) ≡ pos q *ℤ identity k j)))

-- "Its number H_ij lies within the limit L of its place if |T·H_ij − q·G_ij| is at most q·L", as it does of every accepted proposal
abbrev pub InverseWithin : Type 0
InverseWithin =
    (P : Problem) (E : ℕ → ℕ) (L : ℕ → ℕ → ℕ) → Accepted P E L → (H : Mat) (q : ℕ) → ExactInverse P H q → (i j : ℕ) → i < P.n → j < P.n →
    nat_abs (pos (T P) *ℤ H i j -ℤ pos q *ℤ P.G i j) ≤ q * L i j

-- "Rounded to nearest steps" "means that 2·|S·N_i − q·X_i| is at most q for every i, and 2·|T·H_ij − q·G_ij| at most H's q for every i and j"; "The sizes of the
-- mission's last demand are |A_ij| over all i and j, with a sum below 2T". So the second half of demand 3 presumes this and no more, of a proposal without
-- tolerances (02, Paper 5) and with weights 1
abbrev pub RoundedMeans : Type 0
RoundedMeans =
    (P : Problem) (N : Vec) (q : ℕ) (H : Mat) (q' : ℕ) →
    RoundedExact P N q H q'
    ↔ (NoTolerance P × (ExactSolution P N q × (TwoSided P H q'
    × (((i : ℕ) → i < P.n → 2 * nat_abs (pos (S P) *ℤ N i -ℤ pos q *ℤ P.X i) ≤ q)
    × (((i j : ℕ) → i < P.n → j < P.n → 2 * nat_abs (pos (T P) *ℤ H i j -ℤ pos q' *ℤ P.G i j) ≤ q')
    × (((i : ℕ) → i < P.n → P.w i ≡ 1) × (sumℕ P.n (λ (i : ℕ). sumℕ P.n (λ (j : ℕ). nat_abs (P.A i j))) < 2 * T P)))))))

-- ---- The file, and A whole file
-- "A number is 0, or digits without a leading 0, with a minus before it where negative; −0 is no number": what `spell` writes of a number. 48 to 57 are the digits, 45 is
-- the minus; no digits begin with 0 but those of 0, which has no minus
abbrev pub NumbersSpelled : Type 0
NumbersSpelled =
    ((n : ℕ) → n < 10 → numeral (pos n) ≡ (48 + n) ∷ [])
    × (((n : ℕ) → 10 ≤ n → numeral (pos n) ≡ numeral (pos (n / 10)) ++ ((48 + n % 10) ∷ []))
    × (((n : ℕ) → 1 ≤ n → 48 < get_or (numeral (pos n)) 0 0) × ((n : ℕ) → numeral (negsuc n) ≡ 45 ∷ numeral (pos (suc n)))))

-- "i is 1 to n" (`placed`; else 3, `OutsideIs3` of Lines01)
abbrev pub PlacesRanged : Type 0
PlacesRanged = (n : ℕ) (p : Part) (i : ℤ) → placed n (Of p i) ≡ le_z (pos 1) i && le_z i (pos n)

-- "(problem n), (scale s t), (row i (a .. a)), (right i b), (guess i X), (inverse i (g .. g)), (weight i w), (end)": `spell` has each for any numbers. Here
-- "(problem 2), (scale 4 4), (row 1 (4 -1)), (row 2 (-1 3)), (right 1 5), (right 2 1), (guess 1 23), (guess 2 13), (inverse 1 (4 1)), (inverse 2 (1 6)),
-- (weight 1 1), (weight 2 1), (end), a line each"
abbrev pub WholeFileSpelled : Type 0
WholeFileSpelled =
    lines_of whole_file
    ≡ map spell (
    problem (pos 2) ∷ scale (pos 4) (pos 4) ∷ row (pos 1) (pos 4) (negsuc 0 ∷ []) ∷ row (pos 2) (negsuc 0) (pos 3 ∷ []) ∷ right (pos 1) (pos 5)
    ∷ right (pos 2) (pos 1) ∷ guess (pos 1) (pos 23) ∷ guess (pos 2) (pos 13) ∷ inverse (pos 1) (pos 4) (pos 1 ∷ []) ∷ inverse (pos 2) (pos 1) (pos 6 ∷ [])
    ∷ weight (pos 1) (pos 1) ∷ weight (pos 2) (pos 1) ∷ end ∷ []
    )

-- ---- Marked for proof: rows of one table, in which a row has the letter of its case. `CasesHold` of Document01 is of the table with the answers that 02's
-- Paper 9 gives, `CasesBecome` of Paper09 also of `rows01`, with 01's. Case l, and the limit of an entry, are rows of listing/specs/Cases.
-- "Cases a to d: n = 1, A = 4, s = 0, t = 4, b = X = 0, w = 1. a. G = 1: accepted, solution limit 0, inverse limit 3. b. G = 7: accepted, 0 and 21. c. G = 0: 5,
-- row 1. d. G = 8: 5, row 1. e. The whole file above. f. As e, guess 20 and 13: solution limits 4 and 4. g. As f, weights 3 and 1: solution limits 4 and 2. h. n = 1,
-- A = 1,048,576, s = 0, t = 20, G = 1, b = 0, X = 32, w = 1: limit 32. i. As h, X = 33: 6, row 1. j. n = 2, s = 0, t = 20, A = (1,048,576 0 / 0 1), G = (1 32 / 0
-- 1,048,576), b = X = 0, weights 1: accepted, both inverse limits of column 2 are 33. k. As j with 33 for 32: 7, column 2 row 1. l. X = −24, s = 4: entry −2"
