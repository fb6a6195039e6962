-- 02, Paper 13. Two offices, same net. "Two offices solve the same equations with different solvers and steps, and want what both together say" is its reason.
use Rattle.std.specs.Prelude.{List, [], ◌↔◌, ◌≡◌, ℕ, ◌-◌, ◌≤◌, ◌<◌, ◌^◌, max, ℤ, pos, ◌+ℤ◌, ◌-ℤ◌, ◌*ℤ◌, ◌≤ℤ◌}
use Rattle.linear.specs.Matrix.{Vec}
use Rattle.linear.specs.Slice.{at}
use Rattle.enclosure.specs.Demand.{RightSide, ExactSolutionOf}
use Rattle.enclosure.specs.Reckoning.{bound}
use Rattle.check_spec.specs.Input.{Input, problem}
use Rattle.common_spec.specs.Answer.{common_code, CommonAs, Common}
use Rattle.common_spec.specs.Ends.{maxℤ, minℤ, WithinEnds}
use Rattle.common_spec.specs.Promised.{OwnEnds}
use Rattle.common_spec.specs.Proposals.{Proposals, proposals}
use Rattle.common_spec.specs.Stated.{CommonStated}
use Rattle.promises.specs.Ways.{Refused}

-- "From two accepted proposals give each height's common interval, in the finer of the two steps: the larger lower end and the smaller upper end"
abbrev pub CommonEnds : Type 0
CommonEnds =
    (Q : Proposals) (r : Common) (low high : List ℤ) → CommonAs Q r low high → common_code r ≡ [] → (i : ℕ) → i < Q.first.n →
    let s = max Q.first.s Q.second.s in
    let end : Input → (ℤ → ℤ → ℤ) → ℤ = λ (I : Input) (by : ℤ → ℤ → ℤ). pos (2 ^ (s - I.s)) *ℤ by (at I.guess i) (pos (bound (problem I) i)) in
    (at low i ≡ maxℤ (end Q.first (λ (x e : ℤ). x -ℤ e)) (end Q.second (λ (x e : ℤ). x -ℤ e)))
    × (at high i ≡ minℤ (end Q.first (λ (x e : ℤ). x +ℤ e)) (end Q.second (λ (x e : ℤ). x +ℤ e)))

-- "It contains the exact height for every right side within the tolerance"
abbrev pub CommonContains : Type 0
CommonContains =
    (Q : Proposals) (r : Common) (low high : List ℤ) → CommonAs Q r low high → common_code r ≡ [] → (β : Vec) (ρ : ℕ) → RightSide (problem Q.first) β ρ →
    (N : Vec) (q : ℕ) → ExactSolutionOf (problem Q.first) β ρ N q → WithinEnds Q.first Q.second (at low) (at high) N q

-- "and its lower end is never above its upper"
abbrev pub CommonOrdered : Type 0
CommonOrdered = (Q : Proposals) (r : Common) (low high : List ℤ) → CommonAs Q r low high → common_code r ≡ [] → (i : ℕ) → i < Q.first.n → at low i ≤ℤ at high i

-- "(8 for an interval list comes first and is of neither proposal. Then each proposal is checked, in order, and its refusal says which one it is of. New 20, if
-- size, matrix, right side or tolerances differ; then new 21, if a solution limit is above 2^36" (`CommonStated`)
abbrev pub CommonRefusesAsStated : Type 0
CommonRefusesAsStated = (Q : Proposals) (r : Common) (low high : List ℤ) → CommonAs Q r low high → (w : List ℕ) → (common_code r ≡ w) ↔ CommonStated Q w

-- "The call writes only the interval lists, and no refusal touches them.)" The proposals' lists are handed in to be read, so that it cannot write them
abbrev pub RefusedCommonLeaves : Type 0
RefusedCommonLeaves = (Q : Proposals) (r : Common) (low high : List ℤ) → CommonAs Q r low high → Refused (common_code r) → (low ≡ Q.low) × (high ≡ Q.high)

-- a proposal with itself: its own ends
abbrev pub OwnInterval : Type 0
OwnInterval = (I : Input) (low high : List ℤ) (r : Common) (low' high' : List ℤ) → CommonAs (proposals I I low high) r low' high' → common_code r ≡ [] → OwnEnds I (at low') (at high')
