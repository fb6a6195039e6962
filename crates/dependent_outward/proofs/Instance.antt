-- The theorems of this crate are not empty: two nets of one mark each, accepted, with limits of 48 and 112 steps of 1/16.
--   both_checked — the call accepts them
--   both_between_here — their joint solution for right sides at the corners of the tolerances, the heights 3 and 7, lies between the ends
use mathlib.Core.List.{[]}
use mathlib.Core.Path.{◌≡◌, refl}
use lib.Dec.{lit≤}
use Rattle.std.specs.Prelude.{Ok}
use Rattle.doubles_lists.specs.Outward.{Outgoing, lows_after, highs_after, IntervalsOf}
use Rattle.doubles_lists.proofs.Instance.{outward_accepts, zero_doubles}
use Rattle.check_spec.specs.Checked.{solution_after, inverse_after}
use Rattle.enclosure.specs.Example.{far_right, far_height}
use Rattle.dependent_spec.specs.Nets.{dependent_of}
use Rattle.dependent_spec.specs.Together.{CheckedTogether, dependent_solution_after}
use Rattle.dependent_spec.specs.Example.{coupled_nets, far_right₂, far_height₂}
use Rattle.dependent_spec.proofs.Contract.{together_accepted}
use Rattle.dependent_spec.proofs.Instance.{accepted_here, near₁, near₂, jointly_solved}
use Rattle.dependent_spec.proofs.Largest.{joint_none}
use Rattle.dependent_outward.specs.Heights.{main_outgoing, dependent_outgoing, HeightsBetween}
use Rattle.dependent_outward.proofs.Heights.{both_taken, both_between}

both_checked : CheckedTogether coupled_nets (Ok tt) (solution_after [] coupled_nets.main) (inverse_after [] coupled_nets.main) (dependent_solution_after [] (dependent_of coupled_nets)) (inverse_after [] coupled_nets.dependent)
both_checked = let e = joint_none coupled_nets accepted_here in together_accepted coupled_nets e.0 e.1 refl refl refl refl

abbrev pub ends₁ : Outgoing
ends₁ = main_outgoing coupled_nets (solution_after [] coupled_nets.main) zero_doubles zero_doubles

abbrev pub ends₂ : Outgoing
ends₂ = dependent_outgoing coupled_nets (dependent_solution_after [] (dependent_of coupled_nets)) zero_doubles zero_doubles

found₁ : IntervalsOf ends₁ (Ok tt) (lows_after ends₁) (highs_after ends₁)
found₁ = outward_accepts ends₁ ((both_taken coupled_nets both_checked refl).main zero_doubles zero_doubles (lit≤ tt) (lit≤ tt))

found₂ : IntervalsOf ends₂ (Ok tt) (lows_after ends₂) (highs_after ends₂)
found₂ = outward_accepts ends₂ ((both_taken coupled_nets both_checked refl).dependent zero_doubles zero_doubles (lit≤ tt) (lit≤ tt))

pub both_between_here : HeightsBetween coupled_nets (lows_after ends₁) (highs_after ends₁) (lows_after ends₂) (highs_after ends₂) far_height far_height₂ 1
both_between_here = (both_between coupled_nets both_checked refl found₁ refl found₂ refl).joint far_right 3 far_right₂ 1 near₁ near₂ far_height far_height₂ 1 jointly_solved
