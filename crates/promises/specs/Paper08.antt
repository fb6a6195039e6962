-- 02, Paper 8. A net hung from another. "A suburb's net often starts from marks of a checked main net" is its reason. Net 1 is the main net, net 2 the
-- dependent one.
use Rattle.std.specs.Prelude.{List, [], ◌∷◌, ◌↔◌, ◌≡◌, ℕ, ◌+◌, ◌*◌, ◌<◌, ℤ, pos, nat_abs, ◌-ℤ◌, ◌*ℤ◌, get_or}
use Rattle.integer.specs.Finite.{sum, sumℕ}
use Rattle.linear.specs.Matrix.{Vec}
use Rattle.linear.specs.Slice.{at}
use Rattle.enclosure.specs.Demand.{RightSide}
use Rattle.enclosure.specs.Problem.{S}
use Rattle.enclosure.specs.Reckoning.{bound, inverse_bound, bound_with}
use Rattle.check_spec.specs.Stated.{Stated}
use Rattle.dependent_spec.specs.Joint.{main_problem, dependent_problem, JointSolution, WithinBoth}
use Rattle.dependent_spec.specs.Nets.{Nets, dependent_of}
use Rattle.dependent_spec.specs.Order.{nets_code, CheckedNets}
use Rattle.dependent_spec.specs.Reckoning.{dependent_residual, dependent_slack}
use Rattle.dependent_spec.specs.Stated.{StatedDependent, StatedTogether}
use Rattle.dependent_spec.specs.Together.{CheckedTogether}
use Rattle.promises.specs.Ways.{Refused}

-- "a hung net has equations A2·u2 = b2 − C·u1": `JointSolution` of dependent_spec/specs/Joint; "with C in the matrix range", "both nets at the same s":
-- `TogetherRefusesAsStated`. "Demand 3's second half is not asked of a hung net, since a rounded one may meet 6
-- through its slack": there is no such statement.
-- "Its residual is S·b2 − C·X1 − A2·X2", C "row after row without gaps", "one row for each hung mark and one column for each main mark"
abbrev pub DependentResidualIs : Type 0
DependentResidualIs =
    (J : Nets) (k : ℕ) → let P = dependent_problem J in let n₁ = J.main.n in
    dependent_residual (dependent_of J) k
    ≡ pos (S P) *ℤ P.b k -ℤ sum n₁ (λ (j : ℕ). at J.coupling (k * n₁ + j) *ℤ (main_problem J).X j) -ℤ sum P.n (λ (j : ℕ). P.A k j *ℤ P.X j)

-- "and its slack is |C|·E1 plus the tolerance slack", "With E1 the limits this call finds for the main net"
abbrev pub DependentSlackIs : Type 0
DependentSlackIs =
    (J : Nets) (k : ℕ) → let P = dependent_problem J in let n₁ = J.main.n in
    dependent_slack (dependent_of J) k ≡ sumℕ n₁ (λ (j : ℕ). nat_abs (at J.coupling (k * n₁ + j)) * bound (main_problem J) j) + S P * P.d k

-- what is written where both are accepted: the limits of Papers 1 to 5 with that residual and slack (demand 2)
abbrev pub BothLimitsComputed : Type 0
BothLimitsComputed =
    (J : Nets) (r : CheckedNets) (E₁ L₁ E₂ L₂ : List ℕ) → CheckedTogether J r E₁ L₁ E₂ L₂ → nets_code r ≡ [] →
    ((i : ℕ) → i < J.main.n → get_or E₁ i 0 ≡ bound (main_problem J) i)
    × ((i : ℕ) → i < J.dependent.n → get_or E₂ i 0 ≡ bound_with (dependent_problem J) (dependent_residual (dependent_of J)) (dependent_slack (dependent_of J)) i)

abbrev pub BothInverseLimitsComputed : Type 0
BothInverseLimitsComputed =
    (J : Nets) (r : CheckedNets) (E₁ L₁ E₂ L₂ : List ℕ) → CheckedTogether J r E₁ L₁ E₂ L₂ → nets_code r ≡ [] →
    ((i j : ℕ) → i < J.main.n → j < J.main.n → get_or L₁ (i * J.main.n + j) 0 ≡ inverse_bound (main_problem J) i j)
    × ((i j : ℕ) → i < J.dependent.n → j < J.dependent.n → get_or L₂ (i * J.dependent.n + j) 0 ≡ inverse_bound (dependent_problem J) i j)

-- "Acceptance of both must show that every exact solution of the two nets together lies within both lists of limits, tolerances included"
abbrev pub JointEnclosed : Type 0
JointEnclosed =
    (J : Nets) (r : CheckedNets) (E₁ L₁ E₂ L₂ : List ℕ) → CheckedTogether J r E₁ L₁ E₂ L₂ → nets_code r ≡ [] →
    (β₁ : Vec) (ρ₁ : ℕ) (β₂ : Vec) (ρ₂ : ℕ) → RightSide (main_problem J) β₁ ρ₁ → RightSide (dependent_problem J) β₂ ρ₂ →
    (N₁ N₂ : Vec) (q : ℕ) → JointSolution J β₁ ρ₁ β₂ ρ₂ N₁ N₂ q → WithinBoth J (λ (i : ℕ). get_or E₁ i 0) (λ (i : ℕ). get_or E₂ i 0) N₁ N₂ q

-- "A refusal says which net it is of"
abbrev pub RefusalNamesNet : Type 0
RefusalNamesNet =
    (J : Nets) (r : CheckedNets) (E₁ L₁ E₂ L₂ : List ℕ) → CheckedTogether J r E₁ L₁ E₂ L₂ → (k : ℕ) (ks : List ℕ) →
    (Stated J.main (k ∷ ks) → nets_code r ≡ 1 ∷ k ∷ ks) × (Stated J.main [] → StatedDependent (dependent_of J) (k ∷ ks) → nets_code r ≡ 2 ∷ k ∷ ks)

-- "The main net is checked first and its refusals given; then the hung net in the usual order, C under 3 and 8 with its matrix, unequal s under 3" (`StatedTogether`)
abbrev pub TogetherRefusesAsStated : Type 0
TogetherRefusesAsStated =
    (J : Nets) (r : CheckedNets) (E₁ L₁ E₂ L₂ : List ℕ) → CheckedTogether J r E₁ L₁ E₂ L₂ → (w : List ℕ) → (nets_code r ≡ w) ↔ StatedTogether J w

-- "and either net's leaves the limit lists of both"
abbrev pub RefusedTogetherLeaves : Type 0
RefusedTogetherLeaves =
    (J : Nets) (r : CheckedNets) (E₁ L₁ E₂ L₂ : List ℕ) → CheckedTogether J r E₁ L₁ E₂ L₂ → Refused (nets_code r) →
    (E₁ ≡ J.main.solution_bounds) × (L₁ ≡ J.main.inverse_bounds) × (E₂ ≡ J.dependent.solution_bounds) × (L₂ ≡ J.dependent.inverse_bounds)
