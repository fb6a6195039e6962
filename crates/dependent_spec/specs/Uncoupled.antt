-- Where C is all zeros the dependent net is checked as a net by itself, but for Paper 9's sums along the rows, which its heights are exempted from.
--   Uncoupled D     — C has 1,024 numbers, all that are used are 0, and both nets have one s
--   exempt_tests I, exempt_answer I — 5, 6 and 7, and what a check on lists says, where the guess is held to 2^25 with its slack alone, and the inverse's columns
--     to both tests
--   MeetsSums I     — no residual of the guess is above the sum along its row
use Rattle.std.specs.Prelude.{false, not, List, ◌∷◌, ◌≡◌, ℕ, ◌*◌, ◌≤◌, ◌<◌, pos, length}
use Rattle.linear.specs.Slice.{at}
use Rattle.rules.specs.Order.{Test, number, verdict}
use Rattle.enclosure.specs.Reckoning.{exceeds_row}
use Rattle.check_spec.specs.Input.{Input, problem, short, in_ranges}
use Rattle.check_spec.specs.Order.{first_margin, first_inverse_place, computed}
use Rattle.check_spec.specs.Before.{first_residual05}
use Rattle.dependent_spec.specs.Nets.{DependentNet}

pub record Uncoupled (D : DependentNet) : Type 0 where
  pub long : 1024 ≤ length D.coupling
  pub zeros : (k : ℕ) → k < D.own.n * D.n₁ → at D.coupling k ≡ pos 0
  pub scale : D.own.s ≡ D.s₁

abbrev pub exempt_tests : Input → List Test
exempt_tests I = computed I.n (first_margin (problem I)) (first_residual05 (problem I)) (first_inverse_place (problem I))

unfoldable pub exempt_answer : Input → List ℕ
exempt_answer I = verdict (number 8 (short I) ∷ number 3 (not (in_ranges I)) ∷ exempt_tests I)

abbrev pub MeetsSums : Input → Type 0
MeetsSums I = (k : ℕ) → k < I.n → exceeds_row (problem I) k ≡ false
