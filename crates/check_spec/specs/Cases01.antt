-- Cases a to k of document 01 as 01 answers them, before any of 02's papers: rows of one table, for the check of document 01 and for that of Paper 5
-- (specs/Before). 01 has no tolerances: those of the rows are 0.
--   accepted r bounds — the proposal of the row r, which 01 accepts with these limits
--   rows01            — the rows of the table. Paper 9 refuses a, b, f, g, h and j; their limits are still true ("Limits already in the register remain true")
--   all_hold01, all_hold05 — rows hold by the check of document 01, and by that of Paper 5
--   defined, all_defined — a limit, all limits that a row states are those of the definitions in force, which do not know of a refusal;  all_limits_hold — of rows
use Rattle.std.specs.Prelude.{Bool, true, ◌&&◌, List, [], ◌∷◌, ◌-◌, eqb}
use Rattle.enclosure.specs.Problem.{Problem}
use Rattle.enclosure.specs.Reckoning.{bound, inverse_bound}
use Rattle.check_spec.specs.Before.{answer05, solution_after05, inverse_after05, answer01, solution_after01, inverse_after01}
use Rattle.check_spec.specs.Cases.{Claim, solution, inverse, CaseRow, row, a, b, c, d, e, f, g, h, i, j, k, case_input, all_hold_by}
use Rattle.check_spec.specs.Input.{problem}

abbrev pub accepted : CaseRow → List Claim → CaseRow
accepted r bounds = row r.n r.s r.t r.A r.b r.d r.X r.G r.w [] bounds

abbrev pub rows01 : List CaseRow
rows01 =
    accepted a (solution 1 0 ∷ inverse 1 1 3 ∷ [])
    ∷ accepted b (solution 1 0 ∷ inverse 1 1 21 ∷ [])
    ∷ c
    ∷ d
    ∷ e
    ∷ accepted f (solution 1 4 ∷ solution 2 4 ∷ [])
    ∷ accepted g (solution 1 4 ∷ solution 2 2 ∷ [])
    ∷ accepted h (solution 1 32 ∷ [])
    ∷ i
    ∷ accepted j (inverse 1 2 33 ∷ inverse 2 2 33 ∷ [])
    ∷ k
    ∷ []

abbrev pub all_hold01 : List CaseRow → Bool
all_hold01 = all_hold_by answer01 solution_after01 inverse_after01

abbrev pub all_hold05 : List CaseRow → Bool
all_hold05 = all_hold_by answer05 solution_after05 inverse_after05

abbrev pub defined : Problem → Claim → Bool
defined P (solution i limit) = eqb (bound P (i - 1)) limit
defined P (inverse i j limit) = eqb (inverse_bound P (i - 1) (j - 1)) limit

abbrev pub all_defined : Problem → List Claim → Bool
all_defined P [] = true
all_defined P (x ∷ xs) = defined P x && all_defined P xs

abbrev pub all_limits_hold : List CaseRow → Bool
all_limits_hold [] = true
all_limits_hold (r ∷ rs) = all_defined (problem (case_input r)) r.bounds && all_limits_hold rs
