-- 02, Paper 9. Poor guesses no longer pass. "Offices entered guesses that were legal and hopeless, with limits of many metres" is its reason. "6 and 7 take the
-- added condition, in their old places": `LargeResidualIs6`, `LargeInverseIs7` of Document01; "The 2^25 test with slack also stays": `ResidualWithSlack` of
-- Paper05.
use Rattle.std.specs.Prelude.{true, [], ◌≡◌, ℕ, ◌+◌, ◌*◌, ◌≤◌, ◌<◌, ℤ, pos, nat_abs, ◌-ℤ◌, ◌*ℤ◌, get_or}
use Rattle.integer.specs.Finite.{sumℕ}
use Rattle.linear.specs.Matrix.{Vec, Mat}
use Rattle.enclosure.specs.Demand.{ExactSolution, ExactInverse, Encloses}
use Rattle.enclosure.specs.Problem.{Problem, S, T, column_of}
use Rattle.enclosure.specs.Reckoning.{residual}
use Rattle.check_spec.specs.Before.{answer05, solution_after05, inverse_after05}
use Rattle.check_spec.specs.Cases.{all_rows_hold, rows}
use Rattle.check_spec.specs.Cases01.{rows01, all_hold01, all_hold05}
use Rattle.check_spec.specs.Input.{Input, problem}
use Rattle.promises.specs.Ways.{Accepted}

-- "the residual of row m, without slack, may be at most the sum of |a| along that row, for the guess and for inverse columns" (of the guess: `ResidualsSmall`)
abbrev pub ColumnResidualsSmall : Type 0
ColumnResidualsSmall =
    (P : Problem) (E : ℕ → ℕ) (L : ℕ → ℕ → ℕ) → Accepted P E L → (j k : ℕ) → j < P.n → k < P.n →
    nat_abs (residual (column_of P j) k) ≤ sumℕ P.n (λ (i : ℕ). nat_abs (P.A k i))

-- "a guess within one step of the exact solution everywhere always meets this"
abbrev pub NearMeets : Type 0
NearMeets =
    (P : Problem) (N : Vec) (q : ℕ) → ExactSolution P N q → ((j : ℕ) → j < P.n → nat_abs (pos (S P) *ℤ N j -ℤ pos q *ℤ P.X j) ≤ q) →
    (k : ℕ) → k < P.n → nat_abs (residual P k) ≤ sumℕ P.n (λ (j : ℕ). nat_abs (P.A k j))

-- and so does a column of the inverse within one step of an exact one's
abbrev pub NearColumnMeets : Type 0
NearColumnMeets =
    (P : Problem) (H : Mat) (q : ℕ) → ExactInverse P H q → (j : ℕ) → j < P.n → ((i : ℕ) → i < P.n → nat_abs (pos (T P) *ℤ H i j -ℤ pos q *ℤ P.G i j) ≤ q) →
    (k : ℕ) → k < P.n → nat_abs (residual (column_of P j) k) ≤ sumℕ P.n (λ (i : ℕ). nat_abs (P.A k i))

-- "Of 01's cases, a and b become 7, column 1 row 1; f, g and h become 6, row 1; j becomes 7, column 2 row 1": `rows` as Paper 9 answers them, `rows01` as 01 does
abbrev pub CasesBecome : Type 0
CasesBecome = (all_rows_hold rows ≡ true) × (all_hold01 rows01 ≡ true) × (all_hold05 rows01 ≡ true)

-- "Limits already in the register remain true": what the check before this paper accepted and wrote (`answer05`, `solution_after05`, `inverse_after05`) encloses
abbrev pub OldLimitsTrue : Type 0
OldLimitsTrue =
    (I : Input) → answer05 I ≡ [] → Encloses (problem I) (λ (i : ℕ). get_or (solution_after05 I) i 0) (λ (i j : ℕ). get_or (inverse_after05 I) (i * I.n + j) 0)

-- "The heights of a hung net keep Paper 8's test only; its inverse columns take the new condition": `StatedDependent` of dependent_spec/specs/Stated, whose 6 asks
-- `dependent_exceeds` and whose 7 asks `exceeds` (`TogetherRefusesAsStated` of Paper08)
