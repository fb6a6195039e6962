-- (b) of 02's Paper 11: "Where X and E are guess and limit of an accepted check, the exact height lies between them", for every right side within the
-- tolerances (Paper 5).
--   limits_between — fractions that lie within the limits of a problem's guesses lie between the ends that were written for these guesses and limits
--   encloses_between — so does every exact solution of every right side within tolerance, where the limits enclose;  encloses_between_at_b — of b itself
--   checked_between, checked_between_at_b — and where a check on lists accepted
--   height_between   — for every right side within tolerance there is exactly one exact height in fractions, and it lies between the ends
use mathlib.Core.Path.{◌≡◌, refl}
use mathlib.Core.List.{List, []}
use Prim.Native.Nat.{ℕ}
use lib.ListN.{get_or}
use lib.Ieee.{Float}
use Rattle.linear.specs.Matrix.{Vec}
use Rattle.rules.specs.Refusal.{code, Outcome}
use Rattle.enclosure.specs.Problem.{Problem}
use Rattle.enclosure.specs.Demand.{Encloses, RightSide, ExactSolution, ExactSolutionOf, InLimits}
use Rattle.enclosure.specs.Height.{HeightOf}
use Rattle.check_spec.specs.Input.{Input, problem}
use Rattle.check_spec.specs.Checked.{Checked}
use Rattle.check_spec.proofs.Heights.{checked_height}
use Rattle.doubles_lists.specs.Outward.{Outgoing, outgoing, IntervalsOf}
use Rattle.doubles_lists.specs.Hands.{Hands, AllBetween}
use Rattle.doubles_lists.proofs.Promises.{within_between}

module _ (P : Problem) (E : ℕ → ℕ) (I : Outgoing) (h : Hands P E I) {r : Outcome} {low high : List Float} (c : IntervalsOf I r low high) (ok : code r ≡ []) where
  pub limits_between : (N : Vec) (q : ℕ) → InLimits P E N q → AllBetween P.n low high N q
  limits_between N q w i l = within_between I c ok i (rw h.n l) (N i) q (rw (h.s, h.guess i l, h.bounds i l) (w i l))

  module _ {L : ℕ → ℕ → ℕ} (e : Encloses P E L) where
    pub encloses_between : (β : Vec) (ρ : ℕ) → RightSide P β ρ → (N : Vec) (q : ℕ) → ExactSolutionOf P β ρ N q → AllBetween P.n low high N q
    encloses_between β ρ side N q x = limits_between N q (e.solution β ρ side N q x)

    encloses_between_at_b : (N : Vec) (q : ℕ) → ExactSolution P N q → AllBetween P.n low high N q
    encloses_between_at_b N q x = limits_between N q (e.solution_at_b N q x)

module _ (J : Input) {a : Outcome} {E L : List ℕ} (k : Checked J a E L) (yes' : code a ≡ []) {low₀ high₀ : List Float} {r : Outcome} {low high : List Float}
    (c : IntervalsOf (outgoing J.n J.s J.guess E low₀ high₀) r low high) (ok : code r ≡ []) where
  handed : Hands (problem J) (λ (i : ℕ). get_or E i 0) (outgoing J.n J.s J.guess E low₀ high₀)
  handed = record { n = refl; s = refl; guess = λ i l. refl; bounds = λ i l. refl }

  pub checked_between : (β : Vec) (ρ : ℕ) → RightSide (problem J) β ρ → (N : Vec) (q : ℕ) → ExactSolutionOf (problem J) β ρ N q → AllBetween J.n low high N q
  checked_between = encloses_between (problem J) (λ i. get_or E i 0) (outgoing J.n J.s J.guess E low₀ high₀) handed c ok (k.encloses yes')

  pub checked_between_at_b : (N : Vec) (q : ℕ) → ExactSolution (problem J) N q → AllBetween J.n low high N q
  checked_between_at_b = encloses_between_at_b (problem J) (λ i. get_or E i 0) (outgoing J.n J.s J.guess E low₀ high₀) handed c ok (k.encloses yes')

  pub height_between : (β : Vec) (ρ : ℕ) → RightSide (problem J) β ρ →
      (h : HeightOf (problem J) (λ (i : ℕ). get_or E i 0) (ExactSolutionOf (problem J) β ρ)) × AllBetween J.n low high h.N h.q
  height_between β ρ side =
      let h = (checked_height J a E L k yes').each β ρ side in
      (h, limits_between (problem J) (λ i. get_or E i 0) (outgoing J.n J.s J.guess E low₀ high₀) handed c ok h.N h.q h.within)
