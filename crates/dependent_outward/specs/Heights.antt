-- The heights of an accepted pair of nets (02, Paper 8) as doubles (Paper 11: "Where X and E are guess and limit of an accepted check, the exact height lies
-- between them").
--   main_outgoing J E low high, dependent_outgoing J E low high — n, s and the guesses of one of the nets as they are handed to `intervals_of`, with its limits
--     E and two lists of ends
--   NoPairRefused J E₁ E₂ — with these limits no pair of either net is refused, whatever the lists of ends held before
--   HeightsBetween J low₁ high₁ low₂ high₂ N₁ N₂ q — each of the heights N₁ / q lies between its ends of the main net, and each of N₂ / q between its ends of
--     the dependent net
--   BetweenBoth J low₁ high₁ low₂ high₂ — so does every joint solution of every two right sides within the tolerances, and there is one for any two; and the main
--     net's own exact solutions lie between its ends
use Rattle.std.specs.Prelude.{List, [], ◌≡◌, ℕ, ◌≤◌, length, Float}
use Rattle.linear.specs.Matrix.{Vec}
use Rattle.enclosure.specs.Demand.{RightSide, ExactSolutionOf}
use Rattle.doubles_lists.specs.Outward.{Outgoing, outgoing, outward_answer}
use Rattle.doubles_lists.specs.Hands.{AllBetween}
use Rattle.dependent_spec.specs.Nets.{Nets}
use Rattle.dependent_spec.specs.Joint.{main_problem, dependent_problem, JointSolution, JointHeights}

abbrev pub main_outgoing : Nets → List ℕ → List Float → List Float → Outgoing
main_outgoing J E low high = outgoing J.main.n J.main.s J.main.guess E low high

abbrev pub dependent_outgoing : Nets → List ℕ → List Float → List Float → Outgoing
dependent_outgoing J E low high = outgoing J.dependent.n J.dependent.s J.dependent.guess E low high

pub record NoPairRefused (J : Nets) (E₁ E₂ : List ℕ) : Type 0 where
  pub main : (low high : List Float) → 32 ≤ length low → 32 ≤ length high → outward_answer (main_outgoing J E₁ low high) ≡ []
  pub dependent : (low high : List Float) → 32 ≤ length low → 32 ≤ length high → outward_answer (dependent_outgoing J E₂ low high) ≡ []

pub record HeightsBetween (J : Nets) (low₁ high₁ low₂ high₂ : List Float) (N₁ N₂ : Vec) (q : ℕ) : Type 0 where
  pub main : AllBetween J.main.n low₁ high₁ N₁ q
  pub dependent : AllBetween J.dependent.n low₂ high₂ N₂ q

pub record BetweenBoth (J : Nets) (low₁ high₁ low₂ high₂ : List Float) : Type 0 where
  pub joint : (β₁ : Vec) (ρ₁ : ℕ) (β₂ : Vec) (ρ₂ : ℕ) → RightSide (main_problem J) β₁ ρ₁ → RightSide (dependent_problem J) β₂ ρ₂ →
      (N₁ N₂ : Vec) (q : ℕ) → JointSolution J β₁ ρ₁ β₂ ρ₂ N₁ N₂ q → HeightsBetween J low₁ high₁ low₂ high₂ N₁ N₂ q
  pub exists : (β₁ : Vec) (ρ₁ : ℕ) (β₂ : Vec) (ρ₂ : ℕ) → RightSide (main_problem J) β₁ ρ₁ → RightSide (dependent_problem J) β₂ ρ₂ →
      (h : JointHeights J β₁ ρ₁ β₂ ρ₂) × HeightsBetween J low₁ high₁ low₂ high₂ h.N₁ h.N₂ h.q
  pub main_alone : (β₁ : Vec) (ρ₁ : ℕ) → RightSide (main_problem J) β₁ ρ₁ → (N₁ : Vec) (q : ℕ) → ExactSolutionOf (main_problem J) β₁ ρ₁ N₁ q →
      AllBetween J.main.n low₁ high₁ N₁ q
