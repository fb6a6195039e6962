-- The table of pairs holds (specs/Cases), and no theorem of this crate is of an empty case.
--   common_hold — one theorem for all rows, computed
--   pair_found, pair_exact, pair_contains — of `coarse` and `fine` the intervals are found; 16/11 and 9/11 are their exact heights; the intervals contain them
--   pair_agrees — the same two with a 7 after the last number of each list agree with them on the places used
--   corner_right_lem, corner_exact, corner_reached — a right side at the corner of the tolerances, its height, and that it is the lower end itself
use mathlib.Core.Path.{◌≡◌, refl}
use mathlib.Core.Bool.{true}
use mathlib.Core.List.{[], ◌∷◌}
use Prim.Native.Nat.{ℕ, zero, suc, ◌<◌, ◌^◌}
use native.Mathlib.Omega.{arith}
use lib.Dec.{lit≤}
use Rattle.integer.specs.Finite.{sum, sumℕ, largest, first, every}
use lib.IntN.{ℤ, pos, negsuc, ◌*ℤ◌}
use Rattle.integer.specs.Quotient.{ceil_div}
use Rattle.integer.proofs.Below.{each_of_two}
use Rattle.linear.specs.Matrix.{apply, product, identity}
use Rattle.linear.specs.Written.{written}
use Rattle.rules.specs.Range.{ranges, range_of, in_range, all_in_range}
use Rattle.enclosure.specs.Demand.{ExactSolution, ExactSolutionOf, RightSide}
use Rattle.enclosure.specs.Example as example
use Rattle.enclosure.specs.Reckoning.{defect, load, margin, residual, row_sum, exceeds, magnitudes_with, bound_from, bound_with, bound}
use Rattle.enclosure.proofs.Instance.{file_rounded}
use Rattle.check_spec.specs.Agree.{Agree}
use Rattle.check_spec.specs.Cases.{CaseRow, row, case_input}
use Rattle.check_spec.specs.Input.{Input, problem}
use Rattle.check_spec.specs.Order.{answer}
use Rattle.common_spec.specs.Proposals.{Proposals, all_same}
use Rattle.common_spec.specs.Ends.{low_end, high_end, WithinEnds}
use Rattle.common_spec.specs.Answer.{common_answer, low_after, high_after}
use Rattle.common_spec.specs.Agree.{AgreeingProposals}
use Rattle.common_spec.specs.Cases.{common_row, common_input, file_at, coarse, fine, broad, broad_right, broad_height, common_rows, all_common_hold}
use Rattle.common_spec.proofs.Contains.{contains}
use Rattle.common_spec.proofs.Statements.{found_case}

pub common_hold : all_common_hold common_rows ≡ true
unfolding sum sumℕ largest first ceil_div apply product identity ranges range_of in_range all_in_range defect load margin residual row_sum exceeds magnitudes_with bound_from bound_with bound written answer all_same low_end high_end common_answer low_after high_after every
common_hold = refl

-- ---- two proposals for one net
abbrev pub pair : Proposals
pair = common_input (common_row coarse fine [] [] [])

pub pair_found : common_answer pair ≡ []
unfolding sum sumℕ largest first ceil_div apply product identity ranges range_of in_range all_in_range defect load margin residual row_sum exceeds magnitudes_with bound_from bound_with bound answer all_same common_answer every
pair_found = refl

pub pair_exact : ExactSolution (problem pair.first) example.exact 11
pair_exact = file_rounded.solution

pub pair_contains : WithinEnds pair.first pair.second (low_end pair.first pair.second) (high_end pair.first pair.second) example.exact 11
pair_contains = let c = found_case pair pair_found in (contains pair.first pair.second c.first c.second c.same).at_b example.exact 11 pair_exact

-- ---- the corner of the tolerances
abbrev net_input : Input
net_input = case_input (broad (pos 0) 0)

pub corner_right_lem : RightSide (problem net_input) broad_right 1
corner_right_lem = record { positive = lit≤ tt; near = each_of_two _ (lit≤ tt) (lit≤ tt) }

pub corner_exact : ExactSolutionOf (problem net_input) broad_right 1 broad_height 1
unfolding apply sum
corner_exact = record { positive = lit≤ tt; solves = each_of_two _ refl refl }

pub corner_reached : pos 1 *ℤ low_end net_input net_input 0 ≡ pos (2 ^ 0) *ℤ broad_height 0
unfolding sum sumℕ largest ceil_div apply product identity defect load margin residual magnitudes_with bound_from bound_with bound low_end
corner_reached = refl

-- ---- other numbers past the places used
below₄ : (Q : ℕ → Type 0) → Q 0 → Q 1 → Q 2 → Q 3 → (i : ℕ) → i < 4 → Q i
below₄ Q a b c d zero l = a
below₄ Q a b c d (suc zero) l = b
below₄ Q a b c d (suc (suc zero)) l = c
below₄ Q a b c d (suc (suc (suc zero))) l = d
below₄ Q a b c d (suc (suc (suc (suc i)))) l = absurd (omega arith)

-- document 01's whole file as in `file_at`, with a 7 after the last number of each list
abbrev followed_at : ℕ → ℤ → ℤ → CaseRow
followed_at s x y =
    row 2 s 4 (pos 4 ∷ negsuc 0 ∷ negsuc 0 ∷ pos 3 ∷ pos 7 ∷ []) (pos 5 ∷ pos 1 ∷ pos 7 ∷ []) (pos 0 ∷ pos 0 ∷ pos 7 ∷ []) (x ∷ y ∷ pos 7 ∷ [])
    (pos 4 ∷ pos 1 ∷ pos 1 ∷ pos 6 ∷ pos 7 ∷ []) (pos 1 ∷ pos 1 ∷ pos 7 ∷ []) [] []

file_agrees : (s : ℕ) (x y : ℤ) → Agree (case_input (file_at s x y (pos 0))) (case_input (followed_at s x y))
file_agrees s x y = record {
  n = refl;
  s = refl;
  t = refl;
  long = refl;
  long' = refl;
  matrix = below₄ _ refl refl refl refl;
  right = each_of_two _ refl refl;
  tolerance = each_of_two _ refl refl;
  guess = each_of_two _ refl refl;
  inverse = below₄ _ refl refl refl refl;
  weights = each_of_two _ refl refl;
}

pub pair_agrees : AgreeingProposals pair (common_input (common_row (followed_at 4 (pos 24) (pos 13)) (followed_at 6 (pos 92) (pos 52)) [] [] []))
pair_agrees = record { first = file_agrees 4 (pos 24) (pos 13); second = file_agrees 6 (pos 92) (pos 52); long = refl; long' = refl }
