-- No theorem of this crate is empty: two nets of one mark each meet their hypotheses (specs/Example).
--   accepted_here — both nets are accepted;  encloses_here — and their limits enclose
--   near₁, near₂, jointly_solved — the right sides 9/3 and 1/1 are within the tolerances, and 3 and 7 are their joint solution
--   limits_here, limits_reached — the limits are 48 and 112, and that joint solution lies just so far from both guesses, so that no smaller slack would do
--   both_else, both_agree — the same nets in lists with a 7 at every place past those used agree with them
--   apart_here, apart_sums, apart_code — with C = 0 the nets are uncoupled, the guess meets Paper 9's sums, and both are accepted
use mathlib.Core.Path.{◌≡◌, refl}
use mathlib.Core.List.{List, [], ◌∷◌, ◌++◌}
use Prim.Native.Nat.{◌*◌}
use lib.Dec.{lit≤}
use Rattle.integer.specs.Finite.{sum, sumℕ, largest, first, every}
use lib.IntN.{ℤ, pos, negsuc, nat_abs, ◌-ℤ◌, ◌*ℤ◌}
use lib.ListN.{replicate}
use Rattle.integer.specs.Quotient.{ceil_div}
use Rattle.integer.proofs.Below.{only}
use Rattle.linear.specs.Matrix.{apply, product, identity}
use Rattle.rules.specs.Range.{ranges, range_of, in_range, all_in_range}
use Rattle.enclosure.specs.Demand.{RightSide}
use Rattle.enclosure.specs.Problem.{S}
use Rattle.enclosure.specs.Reckoning.{defect, load, margin, residual, row_sum, exceeds, magnitudes_with, bound_from, bound_with, bound, inverse_bound}
use Rattle.check_spec.specs.Agree.{Agree}
use Rattle.check_spec.specs.Input.{Input, input}
use Rattle.check_spec.specs.Order.{answer}
use Rattle.enclosure.specs.Example.{far_right, far_height}
use Rattle.dependent_spec.specs.Nets.{Nets, nets, dependent_of}
use Rattle.dependent_spec.specs.Reckoning.{dependent_residual, dependent_slack, dependent_bound}
use Rattle.dependent_spec.specs.Order.{dependent_answer, joint_answer}
use Rattle.dependent_spec.specs.Joint.{main_problem, dependent_problem, JointSolution, EnclosesBoth}
use Rattle.dependent_spec.specs.Uncoupled.{Uncoupled, MeetsSums}
use Rattle.dependent_spec.specs.Agree.{AgreeingNets}
use Rattle.dependent_spec.specs.Example.{one_mark, coupled_nets, uncoupled_nets, far_right₂, far_height₂}
use Rattle.dependent_spec.proofs.Joint.{encloses_both}

pub accepted_here : joint_answer coupled_nets ≡ []
unfolding joint_answer answer dependent_answer dependent_residual dependent_slack bound bound_with bound_from magnitudes_with exceeds row_sum residual margin load defect product apply identity sum sumℕ largest first ceil_div all_in_range in_range range_of ranges every
accepted_here = refl

pub encloses_here : EnclosesBoth coupled_nets (bound (main_problem coupled_nets)) (inverse_bound (main_problem coupled_nets)) (dependent_bound (dependent_of coupled_nets)) (inverse_bound (dependent_problem coupled_nets))
unfolding margin load defect product apply identity sum sumℕ
encloses_here = encloses_both coupled_nets refl (only _ (lit≤ tt)) (only _ (lit≤ tt)) (only _ refl) (only _ refl)

pub near₁ : RightSide (main_problem coupled_nets) far_right 3
near₁ = record { positive = lit≤ tt; near = only _ (lit≤ tt) }

pub near₂ : RightSide (dependent_problem coupled_nets) far_right₂ 1
near₂ = record { positive = lit≤ tt; near = only _ (lit≤ tt) }

pub jointly_solved : JointSolution coupled_nets far_right 3 far_right₂ 1 far_height far_height₂ 1
unfolding apply sum
jointly_solved = record { positive = lit≤ tt; main = only _ refl; dependent = only _ refl }

pub limits_here : (bound (main_problem coupled_nets) 0 ≡ 48) × (dependent_bound (dependent_of coupled_nets) 0 ≡ 112)
unfolding apply product identity sum sumℕ defect load margin residual magnitudes_with bound_from bound_with bound largest ceil_div dependent_residual dependent_slack
limits_here = (refl, refl)

pub limits_reached : (nat_abs (pos (S (main_problem coupled_nets)) *ℤ far_height 0 -ℤ pos 1 *ℤ (main_problem coupled_nets).X 0) ≡ 1 * 48)
    × (nat_abs (pos (S (dependent_problem coupled_nets)) *ℤ far_height₂ 0 -ℤ pos 1 *ℤ (dependent_problem coupled_nets).X 0) ≡ 1 * 112)
limits_reached = (refl, refl)

pub apart_here : Uncoupled (dependent_of uncoupled_nets)
apart_here = record { long = lit≤ tt; zeros = only _ refl; scale = refl }

pub apart_sums : MeetsSums uncoupled_nets.dependent
unfolding residual row_sum apply sum sumℕ
apart_sums = only _ refl

pub apart_code : joint_answer uncoupled_nets ≡ []
unfolding joint_answer answer dependent_answer dependent_residual dependent_slack bound bound_with bound_from magnitudes_with exceeds row_sum residual margin load defect product apply identity sum sumℕ largest first ceil_div all_in_range in_range range_of ranges every
apart_code = refl

-- ---- other numbers past the places used
abbrev followed : List ℤ → List ℤ
followed xs = xs ++ replicate 1024 (pos 7)

abbrev one_mark_else : ℤ → Input
one_mark_else tolerance =
    input 1 4 4 (followed (pos 1 ∷ [])) (followed (pos 0 ∷ [])) (followed (tolerance ∷ [])) (followed (pos 0 ∷ [])) (followed (pos 16 ∷ []))
    (followed (pos 1 ∷ [])) (replicate 32 5) (replicate 1024 5)

abbrev pub both_else : Nets
both_else = nets (one_mark_else (pos 3)) (one_mark_else (pos 1)) (followed (negsuc 1 ∷ []))

mark_agrees : (d : ℤ) → Agree (one_mark d) (one_mark_else d)
mark_agrees d = record {
  n = refl;
  s = refl;
  t = refl;
  long = refl;
  long' = refl;
  matrix = only _ refl;
  right = only _ refl;
  tolerance = only _ refl;
  guess = only _ refl;
  inverse = only _ refl;
  weights = only _ refl;
}

pub both_agree : AgreeingNets coupled_nets both_else
both_agree = record { main = mark_agrees (pos 3); dependent = mark_agrees (pos 1); long = refl; long' = refl; coupling = only _ refl }
