-- The refusals of both nets in their order (02, Paper 8: "The main net is checked first and its refusals given; then the hung net in the usual order, C under
-- 3 and 8 with its matrix, unequal s under 3. A refusal says which net it is of").
--   dependent_short D    — 8 of the dependent net: C, a list of its own or one of its two limit lists is too short
--   dependent_in_ranges D — no 3 of it: its own numbers are in their ranges, its s is the main net's, and C is in the matrix range
--   first_dependent_residual D — the lowest row whose residual with its slack is above 2^25; n where there is none
--   dependent_tests D — 5, 6 and 7 at the first place of each;  dependent_computed D — what is said of these
--   dependent_answer D — what is said of the dependent net: 8, 3, 5, 6, 7
--   joint_answer J — what is said of both: of the main net what its check says, and of the other where the main net is accepted
--   CheckedNets   — the answer: nothing beside it where both nets are accepted, or a refusal
--   nets_code r   — what an answer says: nothing where both nets are accepted, else the net, 1 or 2, the number of the refusal and its values
use Rattle.std.specs.Prelude.{Bool, not, ◌&&◌, ◌||◌, List, [], ◌∷◌, ℕ, ◌*◌, eqb, length, Result, Ok, Err, ⊤}
use Rattle.integer.specs.Finite.{first}
use Rattle.linear.specs.Slice.{at}
use Rattle.rules.specs.Order.{Test, number, verdict}
use Rattle.rules.specs.Which.{of_one}
use Rattle.rules.specs.Range.{all_in_range, short_matrix}
use Rattle.rules.specs.Refusal.{number_of, values_of}
use Rattle.rules.specs.declared.Kind.TheVariants as kind
use Rattle.check_spec.specs.Input.{short, in_ranges}
use Rattle.check_spec.specs.Order.{first_margin, first_inverse_place, computed, answer}
use Rattle.dependent_spec.specs.declared.NetsRefusal.{NetsRefusal}
use Rattle.dependent_spec.specs.declared.NetsRefusal.TheVariants.{Main, Dependent}
use Rattle.dependent_spec.specs.Nets.{Nets, DependentNet, dependent_of}
use Rattle.dependent_spec.specs.Reckoning.{own_problem, dependent_exceeds}

abbrev pub dependent_short : DependentNet → Bool
dependent_short D = short_matrix (length D.coupling) || short D.own

abbrev pub dependent_in_ranges : DependentNet → Bool
dependent_in_ranges D =
    in_ranges D.own && (eqb D.own.s D.s₁ && all_in_range kind.Matrix (D.own.n * D.n₁) (at D.coupling))

abbrev pub first_dependent_residual : DependentNet → ℕ
first_dependent_residual D = first D.own.n (dependent_exceeds D)

abbrev pub dependent_tests : DependentNet → List Test
dependent_tests D = computed D.own.n (first_margin (own_problem D)) (first_dependent_residual D) (first_inverse_place (own_problem D))

abbrev pub dependent_computed : DependentNet → List ℕ
dependent_computed D = verdict (dependent_tests D)

unfoldable pub dependent_answer : DependentNet → List ℕ
dependent_answer D = verdict (number 8 (dependent_short D) ∷ number 3 (not (dependent_in_ranges D)) ∷ dependent_tests D)

unfoldable pub joint_answer : Nets → List ℕ
joint_answer J = verdict (of_one 1 (answer J.main) ∷ of_one 2 (dependent_answer (dependent_of J)) ∷ [])

abbrev pub CheckedNets : Type 0
CheckedNets = Result ⊤ NetsRefusal

abbrev pub nets_code : CheckedNets → List ℕ
nets_code (Ok tt) = []
nets_code (Err (Main r)) = 1 ∷ number_of r ∷ values_of r
nets_code (Err (Dependent r)) = 2 ∷ number_of r ∷ values_of r
