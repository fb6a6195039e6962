-- 02, Paper 2. An entry must cover its own rounding. "Register readers take the entry's limit as the distance from the printed whole unit": `EntryEncloses`,
-- `EntryLeast`. "entry limit is (E + |X − S·V|)/S rounded up": `EntryLimited` of Document01. "The solution lines are unaffected": the line of a solution
-- (`solution_line` of listing_report/specs/Report) has guess and limit alone.
use Rattle.std.specs.Prelude.{◌≡◌, ℕ, ◌^◌, ℤ, pos}
use Rattle.integer.specs.Quotient.{ceil_div}
use Rattle.linear.specs.Matrix.{Vec}
use Rattle.entry.specs.Limit.{EntryLimit}
use Rattle.entry.specs.Register.{RegisteredAs, entry_with}
use Rattle.enclosure.specs.Demand.{ExactSolution, RightSide, ExactSolutionOf, InEntryLimits}
use Rattle.enclosure.specs.Problem.{Problem}
use Rattle.promises.specs.Ways.{Accepted}

-- "With X = 24, s = 4 and E = 10 the entry is 2 and its limit goes from 1 to 2"
abbrev pub PaperEntry : Type 0
PaperEntry = (v : ℤ) (b : ℕ) → RegisteredAs (pos 24) 10 4 (entry_with v b) → (v ≡ pos 2) × (b ≡ 2) × (ceil_div 10 (2 ^ 4) ≡ 1)

-- "The exact height is to be shown within the entry limit of the entry, as it is of the guess": of b, and of every right side within the tolerances (Paper 5)
abbrev pub EntryEncloses : Type 0
EntryEncloses =
    (P : Problem) (E : ℕ → ℕ) (L : ℕ → ℕ → ℕ) → Accepted P E L →
    ((N : Vec) (q : ℕ) → ExactSolution P N q → InEntryLimits P E N q)
    × ((β : Vec) (ρ : ℕ) → RightSide P β ρ → (N : Vec) (q : ℕ) → ExactSolutionOf P β ρ N q → InEntryLimits P E N q)

-- and no smaller limit covers what lies within E steps of X
abbrev pub EntryLeast : Type 0
EntryLeast = (x : ℤ) (e s : ℕ) (v : ℤ) (b : ℕ) → RegisteredAs x e s (entry_with v b) → EntryLimit s x e b
