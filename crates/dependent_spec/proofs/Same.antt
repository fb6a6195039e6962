-- Two calls of the check of two nets that agree on the places used (specs/Agree) compute alike.
--   K', K'_is — one of them, by the n, s and t of the other: it is itself
--   residual_alike, slack_alike, exceeds_alike, tests_alike, bound_alike — the dependent net's residual and slack, 6, what the reckoning says of it, its limits
--   joint_alike — what is said of both nets
use mathlib.Core.Path.{◌≡◌, refl, sym, ap, ap₂, ◌∙◌}
use mathlib.Core.Bool.{Bool, true, false, ◌&&◌}
use mathlib.Core.List.{List, [], ◌∷◌}
use Prim.Native.Nat.{ℕ, ◌+◌, ◌*◌, ◌/◌, ◌%◌, ◌<◌}
use native.Mathlib.Omega.{arith}
use native.Mathlib.Nat.{mul-le-mul_right}
use lib.Dec.{ltb, eqb}
use lib.IntN.{ℤ, pos, nat_abs, ◌*ℤ◌}
use lib.Signed.{le_z}
use Rattle.integer.specs.Quotient.{ceil_div}
use Rattle.integer.proofs.Search.{first_ext, largest_ext}
use Rattle.integer.proofs.Sum.{sum_ext, sumℕ_ext}
use Rattle.linear.specs.Matrix.{apply}
use Rattle.linear.specs.Slice.{at}
use Rattle.linear.proofs.Places.{place}
use Rattle.linear.proofs.Slack.{slack_ext}
use Rattle.rules.specs.Order.{verdict}
use Rattle.rules.specs.Which.{of_one}
use Rattle.rules.specs.declared.Kind.TheVariants as kind
use Rattle.rules.proofs.AllInRange.{all_ext}
use Rattle.enclosure.specs.Problem.{column_of, S}
use Rattle.enclosure.specs.Reckoning.{margin, margin_fails, allowed_residual, exceeds, magnitudes_with, bound_from, bound_with, bound}
use Rattle.check_spec.specs.Input.{problem}
use Rattle.check_spec.specs.Order.{answer}
use Rattle.check_spec.proofs.Agreed.{like, like_is, like_ranges, like_margin, like_columns, like_bound, same_answer}
use Rattle.dependent_spec.specs.Nets.{Nets, nets, DependentNet, dependent_of, coupling_of}
use Rattle.dependent_spec.specs.Reckoning.{own_problem, dependent_residual, dependent_slack, dependent_exceeds, dependent_bound}
use Rattle.dependent_spec.specs.Order.{dependent_short, dependent_in_ranges, dependent_tests, dependent_answer, joint_answer}
use Rattle.dependent_spec.specs.Agree.{AgreeingNets}
use Rattle.dependent_spec.proofs.Statements.{answer_ready, answer_range}

module _ (J K : Nets) (a : AgreeingNets J K) where
  -- K with J's n, s and t, which are its own
  abbrev pub K' : Nets
  K' = nets (like J.main K.main a.main) (like J.dependent K.dependent a.dependent) K.coupling

  pub K'_is : K' ≡ K
  K'_is = rw (like_is J.main K.main a.main, like_is J.dependent K.dependent a.dependent)

  abbrev D : DependentNet
  D = dependent_of J

  abbrev B : DependentNet
  B = dependent_of K'

  abbrev n₁ : ℕ
  n₁ = J.main.n

  abbrev n₂ : ℕ
  n₂ = J.dependent.n

  long : dependent_short D ≡ false
  long = rw (a.long, a.dependent.long)

  long' : dependent_short B ≡ false
  long' = rw (a.long', a.dependent.long')

  coupled : (k j : ℕ) → k < n₂ → j < n₁ → coupling_of D k j ≡ coupling_of B k j
  coupled k j lk lj = a.coupling (k * n₁ + j) (omega (arith, mul-le-mul_right n₁ lk))

  residual_alike : (k : ℕ) → k < n₂ → dependent_residual D k ≡ dependent_residual B k
  unfolding dependent_residual apply
  residual_alike k l =
      rw (
        a.dependent.right k l,
        sum_ext n₁ (λ (j : ℕ). coupling_of D k j *ℤ at J.main.guess j) (λ (j : ℕ). coupling_of B k j *ℤ at K.main.guess j) (λ j lj. rw (coupled k j l lj, a.main.guess j lj)),
        sum_ext n₂ (λ (j : ℕ). at J.dependent.matrix (k * n₂ + j) *ℤ at J.dependent.guess j) (λ (j : ℕ). at K.dependent.matrix (k * n₂ + j) *ℤ at K.dependent.guess j)
            (λ j lj. rw (a.dependent.matrix (k * n₂ + j) (place l lj), a.dependent.guess j lj)),
      )

  slack_alike : (k : ℕ) → k < n₂ → dependent_slack D k ≡ dependent_slack B k
  unfolding dependent_slack
  slack_alike k l =
      ap₂ (λ (x y : ℕ). x + S (problem J.dependent) * y)
      (sumℕ_ext n₁ (λ (j : ℕ). nat_abs (coupling_of D k j) * bound (problem J.main) j) (λ (j : ℕ). nat_abs (coupling_of B k j) * bound (problem K'.main) j)
      (λ j lj. rw (coupled k j l lj, like_bound J.main K.main a.main j lj))) (ap nat_abs (a.dependent.tolerance k l))

  exceeds_alike : (k : ℕ) → k < n₂ → dependent_exceeds D k ≡ dependent_exceeds B k
  exceeds_alike k l = ap₂ (λ (z : ℤ) (x : ℕ). ltb allowed_residual (nat_abs z + x)) (residual_alike k l) (slack_alike k l)

  tests_alike : dependent_tests D ≡ dependent_tests B
  tests_alike =
      rw (
        first_ext n₂ (margin_fails (own_problem D)) (margin_fails (own_problem B)) (λ m l. ap (λ (z : ℤ). le_z z (pos 0)) (like_margin J.dependent K.dependent a.dependent m l)),
        first_ext n₂ (dependent_exceeds D) (dependent_exceeds B) exceeds_alike,
        first_ext (n₂ * n₂) (λ (i : ℕ). exceeds (column_of (own_problem D) (i / n₂)) (i % n₂)) (λ (i : ℕ). exceeds (column_of (own_problem B) (i / n₂)) (i % n₂))
            (like_columns J.dependent K.dependent a.dependent),
      )

  ranges_alike : dependent_in_ranges D ≡ dependent_in_ranges B
  ranges_alike =
      ap₂ (λ (x y : Bool). x && (eqb J.dependent.s J.main.s && y)) (like_ranges J.dependent K.dependent a.dependent)
      (all_ext kind.Matrix (n₂ * n₁) (at J.coupling) (at K.coupling) a.coupling)

  dependent_alike : dependent_answer D ≡ dependent_answer B
  dependent_alike = go (dependent_in_ranges D) refl
    where
      go : (x : Bool) → dependent_in_ranges D ≡ x → dependent_answer D ≡ dependent_answer B
      go true h = answer_ready D long h ∙ ap verdict tests_alike ∙ sym (answer_ready B long' (sym ranges_alike ∙ h))
      go false h = answer_range D long h ∙ sym (answer_range B long' (sym ranges_alike ∙ h))

  main_alike : answer J.main ≡ answer K'.main
  main_alike = same_answer J.main K.main a.main ∙ sym (ap answer (like_is J.main K.main a.main))

  pub joint_alike : joint_answer J ≡ joint_answer K'
  unfolding joint_answer
  joint_alike = ap₂ (λ (x y : List ℕ). verdict (of_one 1 x ∷ of_one 2 y ∷ [])) main_alike dependent_alike

  pub bound_alike : (i : ℕ) → i < n₂ → dependent_bound D i ≡ dependent_bound B i
  unfolding bound_with bound_from magnitudes_with
  bound_alike i l =
      let P = own_problem D in
      let Q = own_problem B in
      largest_ext n₂ (λ (m : ℕ). ceil_div (P.w i * magnitudes_with P (dependent_residual D) (dependent_slack D) m) (nat_abs (margin P m)))
      (λ (m : ℕ). ceil_div (Q.w i * magnitudes_with Q (dependent_residual B) (dependent_slack B) m) (nat_abs (margin Q m)))
      (λ m lm. rw (
        a.dependent.weights i l,
        slack_ext n₂ P.G Q.G (dependent_residual D) (dependent_residual B) (dependent_slack D) (dependent_slack B) m
            (λ j lj. a.dependent.inverse (m * n₂ + j) (place lm lj)) residual_alike slack_alike,
        like_margin J.dependent K.dependent a.dependent m lm,
      ))
