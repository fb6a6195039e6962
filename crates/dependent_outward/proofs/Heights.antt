-- The heights of an accepted pair of nets as doubles (specs/Heights).
--   both_taken   — no pair of either net is refused
--   both_between — the exact heights of both nets lie between the ends that were written for them
use mathlib.Core.List.{List, []}
use mathlib.Core.Path.{◌≡◌, refl, sym, ◌∙◌}
use Prim.Native.Nat.{ℕ}
use lib.ListN.{length, get_or}
use lib.Ieee.{Float}
use Rattle.rules.specs.Range.{short_matrix}
use Rattle.rules.specs.Refusal.{code, Outcome}
use Rattle.rules.proofs.Ranges.{both_left, neither_right}
use Rattle.rules.proofs.Verdicts.{accepted_new}
use Rattle.linear.specs.Matrix.{Vec}
use Rattle.enclosure.specs.Reckoning.{bound}
use Rattle.check_spec.specs.Input.{problem}
use Rattle.check_spec.proofs.Contract.{answer_ready}
use Rattle.check_spec.proofs.Fit.{fit_of}
use Rattle.check_spec.proofs.Largest.{solution_magnitude}
use Rattle.check_spec.proofs.Statements.{accepted_usable}
use Rattle.doubles_lists.specs.Hands.{Hands}
use Rattle.doubles_lists.specs.Outward.{IntervalsOf}
use Rattle.doubles_lists.proofs.Enclosed.{limits_between, encloses_between}
use Rattle.doubles_lists.proofs.Taken.{written_taken}
use Rattle.dependent_spec.specs.Order.{CheckedNets, nets_code, joint_answer}
use Rattle.dependent_spec.specs.Nets.{Nets, dependent_of}
use Rattle.dependent_spec.specs.Reckoning.{dependent_bound}
use Rattle.dependent_spec.specs.Joint.{main_problem, dependent_problem, WithinBoth}
use Rattle.dependent_spec.specs.Together.{CheckedTogether}
use Rattle.dependent_spec.proofs.Largest.{joint_none, dependent_magnitude}
use Rattle.dependent_spec.proofs.Statements.{passed_of}
use Rattle.dependent_outward.specs.Heights.{main_outgoing, dependent_outgoing, NoPairRefused, HeightsBetween, BetweenBoth}

module _ (J : Nets) {r : CheckedNets} {E₁ L₁ E₂ L₂ : List ℕ} (c : CheckedTogether J r E₁ L₁ E₂ L₂) (yes' : nets_code r ≡ []) where
  pub both_taken : NoPairRefused J E₁ E₂
  both_taken =
      let none : joint_answer J ≡ [] = sym c.says ∙ yes' in
      let each = joint_none J none in
      let u = accepted_usable J.main each.0 in
      let v = (passed_of (dependent_of J) each.1).usable in
      record {
        main = written_taken J.main u (bound (problem J.main)) (c.main_solution ∙ accepted_new _ _ none)
            (solution_magnitude J.main (fit_of J.main u.long u.inside) (sym (answer_ready J.main u.long u.inside) ∙ each.0));
        dependent = written_taken J.dependent
            (record { long = neither_right (short_matrix (length J.coupling)) _ v.long; inside = both_left _ _ v.inside })
            (dependent_bound (dependent_of J)) (c.dependent_solution ∙ accepted_new _ _ none) (dependent_magnitude (dependent_of J) each.1);
      }

  module _ {low₀ high₀ low₁ high₁ : List Float} {a : Outcome} (x : IntervalsOf (main_outgoing J E₁ low₀ high₀) a low₁ high₁) (ok : code a ≡ [])
      {low₀' high₀' low₂ high₂ : List Float} {a' : Outcome} (y : IntervalsOf (dependent_outgoing J E₂ low₀' high₀') a' low₂ high₂) (ok' : code a' ≡ []) where
    handed₁ : Hands (main_problem J) (λ (i : ℕ). get_or E₁ i 0) (main_outgoing J E₁ low₀ high₀)
    handed₁ = record { n = refl; s = refl; guess = λ i l. refl; bounds = λ i l. refl }

    handed₂ : Hands (dependent_problem J) (λ (i : ℕ). get_or E₂ i 0) (dependent_outgoing J E₂ low₀' high₀')
    handed₂ = record { n = refl; s = refl; guess = λ i l. refl; bounds = λ i l. refl }

    lie_between : (N₁ N₂ : Vec) (q : ℕ) → WithinBoth J (λ (i : ℕ). get_or E₁ i 0) (λ (i : ℕ). get_or E₂ i 0) N₁ N₂ q → HeightsBetween J low₁ high₁ low₂ high₂ N₁ N₂ q
    lie_between N₁ N₂ q w = record {
      main = limits_between (main_problem J) (λ i. get_or E₁ i 0) (main_outgoing J E₁ low₀ high₀) handed₁ x ok N₁ q w.main;
      dependent = limits_between (dependent_problem J) (λ i. get_or E₂ i 0) (dependent_outgoing J E₂ low₀' high₀') handed₂ y ok' N₂ q w.dependent;
    }

    pub both_between : BetweenBoth J low₁ high₁ low₂ high₂
    both_between =
        let e = c.encloses yes' in
        record {
          joint = λ β₁ ρ₁ β₂ ρ₂ s₁ s₂ N₁ N₂ q h. lie_between N₁ N₂ q (e.joint β₁ ρ₁ β₂ ρ₂ s₁ s₂ N₁ N₂ q h);
          exists = λ β₁ ρ₁ β₂ ρ₂ s₁ s₂.
              let h = e.exists β₁ ρ₁ β₂ ρ₂ s₁.positive s₂.positive in
              (h, lie_between h.N₁ h.N₂ h.q (e.joint β₁ ρ₁ β₂ ρ₂ s₁ s₂ h.N₁ h.N₂ h.q h.holds));
          main_alone = encloses_between (main_problem J) (λ i. get_or E₁ i 0) (main_outgoing J E₁ low₀ high₀) handed₁ x ok e.main;
        }
