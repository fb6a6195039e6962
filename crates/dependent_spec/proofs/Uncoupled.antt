-- Where C is all zeros the dependent net is checked as a net by itself (specs/Uncoupled).
--   uncoupled_residual, uncoupled_slack, uncoupled_bound — its residual, slack and limits are those of the check on lists
--   uncoupled_answer — its outcome is the check's, but for the sums along the rows of its guess
--   exempt_answer_lem    — and those make no difference where its guess meets them
--   uncoupled_checked, uncoupled_solution — so that what is said of it, and its solution limits, are the check's in all
--   uncoupled_together — and what is said of both nets, where the main net is accepted
use mathlib.Core.Path.{◌≡◌, refl, sym, ap, ◌∙◌}
use mathlib.Core.Bool.{Bool, true, false, ◌||◌}
use mathlib.Core.List.{List, [], ◌∷◌}
use Prim.Native.Nat.{ℕ, ◌+◌, ◌*◌, ◌<◌}
use native.Mathlib.Omega.{arith}
use native.Mathlib.Nat.{mul-le-mul_right}
use borrow.Author.Tests.{le-ltb, eq-eqb}
use lib.IntN.{ℤ, pos, nat_abs, ◌-ℤ◌, ◌*ℤ◌, +ℤ_idr}
use lib.ListN.{length}
use Rattle.integer.specs.Finite.{sum, sumℕ}
use Rattle.integer.proofs.Ring.{zero-*}
use Rattle.integer.proofs.Search.{first_ext}
use Rattle.integer.proofs.Sum.{sum_ext, sum_zero, sumℕ_ext, sumℕ_zero}
use Rattle.linear.specs.Matrix.{apply}
use Rattle.linear.specs.Slice.{at}
use Rattle.linear.proofs.Slack.{slack_ext}
use Rattle.linear.proofs.Written.{written_ext}
use Rattle.rules.specs.Order.{verdict}
use Rattle.rules.specs.Which.{of_one}
use Rattle.rules.specs.Range.{all_in_range}
use Rattle.rules.specs.declared.Kind.TheVariants as kind
use Rattle.rules.proofs.AllInRange.{all_in}
use Rattle.rules.proofs.Ranges.{in_matrix_range, and_true}
use Rattle.enclosure.specs.Before.{exceeds05}
use Rattle.enclosure.specs.Problem.{Problem, S}
use Rattle.enclosure.specs.Reckoning.{residual, slack, exceeds, magnitudes_with, bound_with, bound}
use Rattle.enclosure.proofs.Bounds.{bound_ext}
use Rattle.check_spec.specs.Checked.{solution_after}
use Rattle.check_spec.specs.Input.{Input, problem, in_ranges}
use Rattle.check_spec.specs.Order.{answer}
use Rattle.dependent_spec.specs.Nets.{Nets, DependentNet, dependent_of, coupling_of}
use Rattle.dependent_spec.specs.Reckoning.{own_problem, dependent_residual, dependent_slack, dependent_exceeds, dependent_bound}
use Rattle.dependent_spec.specs.Order.{dependent_answer, joint_answer, dependent_in_ranges}
use Rattle.dependent_spec.specs.Together.{dependent_solution_after}
use Rattle.dependent_spec.specs.Uncoupled.{Uncoupled, exempt_answer, MeetsSums}

or_false : (a : Bool) {b : Bool} → b ≡ false → a || b ≡ a
or_false true e = refl
or_false false e = e

module _ (D : DependentNet) (u : Uncoupled D) where
  abbrev P : Problem
  P = own_problem D

  -- a number of C that is used
  zero_at : (k j : ℕ) → k < P.n → j < D.n₁ → coupling_of D k j ≡ pos 0
  zero_at k j lk lj = u.zeros (k * D.n₁ + j) (omega (arith, mul-le-mul_right D.n₁ lk))

  uncoupled_residual : (k : ℕ) → k < P.n → dependent_residual D k ≡ residual P k
  unfolding dependent_residual residual apply
  uncoupled_residual k l =
      let e : sum D.n₁ (λ (j : ℕ). coupling_of D k j *ℤ D.X₁ j) ≡ pos 0 =
      sum_ext D.n₁ (λ (j : ℕ). coupling_of D k j *ℤ D.X₁ j) (λ (j : ℕ). pos 0) (λ j lj. rw (zero_at k j l lj) (zero-* (D.X₁ j))) ∙ sum_zero D.n₁ in
      rw e (ap (λ (z : ℤ). z -ℤ sum P.n (λ (j : ℕ). P.A k j *ℤ P.X j)) (+ℤ_idr (pos (S P) *ℤ P.b k)))

  uncoupled_slack : (k : ℕ) → k < P.n → dependent_slack D k ≡ slack P k
  unfolding dependent_slack
  uncoupled_slack k l =
      let e : sumℕ D.n₁ (λ (j : ℕ). nat_abs (coupling_of D k j) * D.E₁ j) ≡ 0 =
      sumℕ_ext D.n₁ (λ (j : ℕ). nat_abs (coupling_of D k j) * D.E₁ j) (λ (j : ℕ). 0) (λ j lj. rw (zero_at k j l lj) (omega arith)) ∙ sumℕ_zero D.n₁ in
      omega (arith, e)

  exceeds_is : (k : ℕ) → k < P.n → dependent_exceeds D k ≡ exceeds05 P k
  exceeds_is k l = rw (uncoupled_residual k l, uncoupled_slack k l)

  pub uncoupled_bound : (i : ℕ) → dependent_bound D i ≡ bound P i
  unfolding bound bound_with magnitudes_with
  uncoupled_bound i =
      bound_ext P.n _ _ _ _ _ i
      (λ m l. slack_ext P.n P.G P.G (dependent_residual D) (residual P) (dependent_slack D) (slack P) m (λ j lj. refl) uncoupled_residual uncoupled_slack)
      (λ m l. refl)

  within : all_in_range kind.Matrix (D.own.n * D.n₁) (at D.coupling) ≡ true
  within = all_in kind.Matrix (D.own.n * D.n₁) (at D.coupling) (λ k l. rw (u.zeros k l) (in_matrix_range (pos 0) (omega arith)))

  ranges_are : dependent_in_ranges D ≡ in_ranges D.own
  ranges_are = and_true (in_ranges D.own) (rw (eq-eqb D.own.s D.s₁ u.scale, within))

  pub uncoupled_answer : dependent_answer D ≡ exempt_answer D.own
  unfolding dependent_answer exempt_answer
  uncoupled_answer =
      rw (le-ltb (length D.coupling) 1024 u.long, ranges_are, first_ext P.n (dependent_exceeds D) (exceeds05 P) exceeds_is)

exempt_answer_lem : (I : Input) → MeetsSums I → exempt_answer I ≡ answer I
unfolding exempt_answer answer
exempt_answer_lem I h = rw (first_ext I.n (exceeds05 (problem I)) (exceeds (problem I)) (λ k l. unfold exceeds in sym (or_false (exceeds05 (problem I) k) (h k l))))

module _ (D : DependentNet) (u : Uncoupled D) (h : MeetsSums D.own) where
  pub uncoupled_checked : dependent_answer D ≡ answer D.own
  uncoupled_checked = uncoupled_answer D u ∙ exempt_answer_lem D.own h

  pub uncoupled_solution : (code : List ℕ) → dependent_solution_after code D ≡ solution_after code D.own
  uncoupled_solution code =
      rw (written_ext D.own.solution_bounds 0 1 (dependent_bound D) (bound (problem D.own)) D.own.n (λ i l. uncoupled_bound D u i))

pub uncoupled_together : (J : Nets) → answer J.main ≡ [] → Uncoupled (dependent_of J) → MeetsSums J.dependent → joint_answer J ≡ verdict (of_one 2 (answer J.dependent) ∷ [])
unfolding joint_answer
uncoupled_together J e u h = rw (e, uncoupled_checked (dependent_of J) u h)
