-- 02, Paper 7. Weights found by the program. "Some solvers supply no useful weights" is its reason. The sequence: weights_spec/specs/Sequence.
use Rattle.std.specs.Prelude.{true, List, [], ◌∷◌, ◌↔◌, ◌≡◌, ℕ, ◌+◌, ◌*◌, ◌/◌, ◌≤◌, ◌<◌, ◌^◌, ℤ, pos, nat_abs}
use Rattle.integer.specs.Finite.{sumℕ, largest}
use Rattle.linear.specs.Slice.{at}
use Rattle.rules.specs.declared.Kind.TheVariants as kind
use Rattle.enclosure.specs.Sound.{Margins}
use Rattle.enclosure.specs.Problem.{Problem, problem_of}
use Rattle.enclosure.specs.Reckoning.{defect}
use Rattle.weights_spec.specs.Promised.{SearchStated, UsableRequest, PlaceOfFirstGood, NoGood, allowing}
use Rattle.weights_spec.specs.Request.{Request, search_problem}
use Rattle.weights_spec.specs.Search.{search_code, count_of, passed, FoundAs, Found}
use Rattle.weights_spec.specs.Sequence.{good, tried, weighted}
use Rattle.promises.specs.Ways.{RangeIs, Refused}

-- "Begin with 1 everywhere"
abbrev pub BeginsWithOnes : Type 0
BeginsWithOnes = (P : Problem) (i : ℕ) → tried P 0 i ≡ 1

-- "let u be the sums |D|·w; shift every u_i right by the fewest bits that bring the largest to 1,023 or below, add 1, and try those"
abbrev pub NextList : Type 0
NextList =
    (P : Problem) (k : ℕ) → let u : ℕ → ℕ = λ (i : ℕ). sumℕ P.n (λ (j : ℕ). nat_abs (defect P i j) * tried P k j) in
    (bits : ℕ) × (((i : ℕ) → tried P (k + 1) i ≡ u i / 2 ^ bits + 1) × ((largest P.n u / 2 ^ bits ≤ 1023) × ((c : ℕ) → c < bits → 1023 < largest P.n u / 2 ^ c)))

-- "While some margin is 0 or less": a list is good where every margin is above 0
abbrev pub GoodIsMargins : Type 0
GoodIsMargins = (P : Problem) (w : ℕ → ℕ) → (good P w ≡ true) ↔ Margins (weighted P w)

-- "The caller states how many lists may be tried, 1 to 64"
abbrev pub AllowanceRanged : Type 0
AllowanceRanged = RangeIs kind.Allowance (pos 1) (pos 64)

-- "The finder reports how many lists it tried, which is the place of the first good one in this sequence", and hands that list back
abbrev pub ReportsPlace : Type 0
ReportsPlace =
    (Q : Request) (r : Found) (weights : List ℤ) → FoundAs Q r weights → search_code r ≡ [] →
    PlaceOfFirstGood Q (count_of r) × ((i : ℕ) → i < Q.n → at weights i ≡ pos (tried (search_problem Q) (passed Q) i))

-- "What it returns always has every margin above 0": with any scale, right side, tolerances and guess
abbrev pub ReturnsMargins : Type 0
ReturnsMargins =
    (Q : Request) (r : Found) (weights : List ℤ) → FoundAs Q r weights → search_code r ≡ [] → (s : ℕ) (right tolerance guess : List ℤ) →
    Margins (problem_of Q.n s Q.t Q.matrix right tolerance guess Q.inverse weights)

-- "and a larger allowance never changes a list already found"
abbrev pub LargerAllowance : Type 0
LargerAllowance =
    (Q : Request) (b : ℕ) (r r' : Found) (weights weights' : List ℤ) → FoundAs Q r weights → FoundAs (allowing Q b) r' weights' → Q.allowance ≤ b → b ≤ 64 →
    search_code r ≡ [] → (search_code r' ≡ []) × ((count_of r' ≡ count_of r) × (weights' ≡ weights))

-- "(8 first, then 3, also if the allowance is outside 1 to 64. New 18, after 3, if none of the allowed lists is good"
abbrev pub SearchRefusesAsStated : Type 0
SearchRefusesAsStated = (Q : Request) (r : Found) (weights : List ℤ) → FoundAs Q r weights → (w : List ℕ) → (search_code r ≡ w) ↔ SearchStated Q w

abbrev pub NoneGoodIs18 : Type 0
NoneGoodIs18 = (Q : Request) (r : Found) (weights : List ℤ) → FoundAs Q r weights → (search_code r ≡ 18 ∷ []) ↔ (UsableRequest Q × NoGood Q)

-- "the weight list is then untouched.)"
abbrev pub RefusedSearchLeaves : Type 0
RefusedSearchLeaves = (Q : Request) (r : Found) (weights : List ℤ) → FoundAs Q r weights → Refused (search_code r) → weights ≡ Q.weights
