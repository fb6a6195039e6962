-- The statements of specs/False are false, each by an instance worked out.
use mathlib.Core.Bool.{true, false}
use mathlib.Core.List.{List, [], ◌∷◌, ◌++◌}
use mathlib.Core.Path.{◌≡◌, refl, sym, ap, subst, ◌∙◌}
use Prim.Native.Nat.{ℕ, zero, suc, ◌<◌}
use native.Mathlib.Omega.{arith}
use lib.Dec.{lit<, lit≤}
use lib.IntN.{pos, nat_abs, ◌*ℤ◌}
use lib.ListN.{get_or, length, replicate}
use lib.Signed.{le_z}
use Rattle.integer.specs.Finite.{every, sum, sumℕ, largest, first}
use Rattle.integer.specs.Quotient.{ceil_div, round_div}
use Rattle.integer.proofs.Search.{clash}
use Rattle.linear.specs.Matrix.{apply, product, identity}
use Rattle.rules.specs.Range.{ranges, range_of, in_range, all_in_range}
use Rattle.std.specs.Prelude.{Ok, Err}
use Rattle.rules.specs.declared.Refusal.TheVariants.{TooShort, Missing}
use Rattle.entry.specs.Entry.{entry_value, entry_bound}
use Rattle.entry.specs.Register.{RegisteredAs, entry_with}
use Rattle.enclosure.specs.Reckoning.{defect, load, margin, margin_fails, residual, row_sum, exceeds, magnitudes_with, bound_from, bound_with, bound, inverse_bound}
use Rattle.check_spec.specs.Cases.{single, skewed, tolerant, case_input}
use Rattle.check_spec.specs.Checked.{Checked, solution_after, inverse_after}
use Rattle.check_spec.specs.Input.{Input, input, problem, in_ranges}
use Rattle.check_spec.specs.Order.{checked_of, answer}
use Rattle.check_spec.specs.Stated.{Stated}
use Rattle.check_spec.proofs.Contract.{checked_ready, checked_short}
use Rattle.check_spec.proofs.Statements.{stated}
use Rattle.check_spec.proofs.Written.{checked_solution, checked_inverse}
use Rattle.dependent_spec.specs.Example.{coupled_nets}
use Rattle.dependent_spec.specs.Nets.{Nets, nets, dependent_of}
use Rattle.dependent_spec.specs.Stated.{StatedDependent, too_short}
use Rattle.dependent_spec.specs.declared.NetsRefusal.TheVariants.{Dependent}
use Rattle.dependent_spec.proofs.Contract.{together_dependent}
use Rattle.dependent_spec.proofs.Instance.{accepted_here}
use Rattle.dependent_spec.proofs.Largest.{joint_none}
use Rattle.dependent_spec.proofs.Statements.{code_of_dependent}
use Rattle.line_form.specs.Form.{end}
use Rattle.line_form.specs.Spelling.{spell}
use Rattle.loader_bit_set.specs.Places.{lacking as lacking_in}
use Rattle.loader_progress.specs.Progress.{missing}
use Rattle.loader_progress.specs.declared.Stage.TheVariants.{Scaled}
use Rattle.loader.specs.Answer.{line_answer}
use Rattle.loader.specs.Taken.{TakenAs}
use Rattle.loader.specs.declared.Loader.{Loader}
use Rattle.loader.proofs.CodeLaws.{refused_leaves}
use Rattle.loader_runs.specs.Read.{zeros}
use Rattle.loader_runs.specs.OwnSize.{OwnSize}
use Rattle.loader_stated.specs.Stated.{Unrepeated, forms_missing}
use Rattle.loader_stated.proofs.Stated.{line_exactly}
use Rattle.listing.specs.Cases.{whole_file, whole_listing}
use Rattle.listing.specs.Listing.{ListedAs}
use Rattle.listing.proofs.Entire.{zeros_long}
use Rattle.listing.proofs.Table.{whole_file_lem}
use Rattle.promises.specs.False as wrong
use Rattle.promises.specs.Ways.{Lowest, on_lists}
use Rattle.promises.proofs.Ways.{accepted_sound}

-- ---- A = (4 0 / 1 4) with a poor second column of the inverse is accepted, its first limit is written, and its inverse limits of row 1 are 0 and 2
abbrev poor : Input
poor = case_input (skewed (pos 0) (pos 0) (pos 0) (pos 1) [] [])

abbrev heights : List ℕ
heights = solution_after (checked_of (problem poor)) poor

abbrev inverses : List ℕ
inverses = inverse_after (checked_of (problem poor)) poor

poor_inside : in_ranges poor ≡ true
unfolding all_in_range in_range range_of ranges every
poor_inside = refl

poor_code : checked_of (problem poor) ≡ []
unfolding bound bound_with bound_from magnitudes_with exceeds row_sum residual margin load defect product apply identity sum sumℕ largest first ceil_div
poor_code = refl

poor_limits : (bound (problem poor) 0 ≡ 0) × ((inverse_bound (problem poor) 0 0 ≡ 0) × (inverse_bound (problem poor) 0 1 ≡ 2))
unfolding bound bound_with bound_from magnitudes_with residual margin load defect product apply identity sum sumℕ largest ceil_div
poor_limits = (refl, (refl, refl))

poor_checked : Checked poor (Ok tt) heights inverses
poor_checked = checked_ready poor refl poor_inside (sym poor_code) refl refl

pub not_accepted_leaves : wrong.AcceptedLeaves → ⊥
not_accepted_leaves h =
    let kept : get_or heights 0 0 ≡ get_or poor.solution_bounds 0 0 =
    ap (λ (l : List ℕ). get_or l 0 0) (h poor (Ok tt) heights inverses poor_checked refl).0 in
    let limit : get_or heights 0 0 ≡ 0 = checked_solution poor (Ok tt) heights inverses poor_checked refl 0 (lit< tt) ∙ poor_limits.0 in
    omega (arith, kept, limit)

pub not_first_column_everywhere : wrong.FirstColumnEverywhere → ⊥
not_first_column_everywhere h =
    let status = h (problem poor) _ _ (on_lists poor (Ok tt) heights inverses poor_checked refl) 0 1 (lit< tt) (lit< tt) ∙ poor_limits.1.0 in
    let limit = checked_inverse poor (Ok tt) heights inverses poor_checked refl 0 1 (lit< tt) (lit< tt) ∙ poor_limits.1.1 in
    let z : ◌≡◌ {A = ℕ} 0 2 = sym status ∙ limit in
    omega (arith, z)

-- ---- lists that are too short, with a margin of 0
abbrev lacking_input : Input
lacking_input = input 1 0 0 [] [] [] [] [] [] [] []

lacking_lowest : Lowest 1 (margin_fails (problem lacking_input)) 0
unfolding margin load defect product apply identity sum sumℕ
lacking_lowest = record { below = lit< tt; here = refl; before = λ k l. absurd (omega (arith, l)) }

pub not_margin_alone_is_5 : wrong.MarginAloneIs5 → ⊥
not_margin_alone_is_5 h =
    let status = h lacking_input (Err TooShort) [] [] (checked_short lacking_input refl) 0 lacking_lowest in
    let z : ◌≡◌ {A = ℕ} 8 5 = ap (λ (l : List ℕ). get_or l 0 0) status in
    omega (arith, z)

-- ---- 4·x = 0 with a guess of 2: a margin of 16 and a residual above the sum along its row
abbrev far_input : Input
far_input = case_input (single (pos 4) 0 4 (pos 2) (pos 4) [] [])

far_margins : (m : ℕ) → m < 1 → le_z (margin (problem far_input) m) (pos 0) ≡ false
unfolding margin load defect product apply identity sum sumℕ
far_margins zero l = refl
far_margins (suc m) l = absurd (omega (arith, l))

far_exceeds : exceeds (problem far_input) 0 ≡ true
unfolding exceeds row_sum residual apply sum sumℕ
far_exceeds = refl

pub not_margins_suffice : wrong.MarginsSuffice → ⊥
not_margins_suffice h =
    let none : ℕ → ℕ = λ (i : ℕ). 0 in
    let nowhere : ℕ → ℕ → ℕ = λ (i j : ℕ). 0 in
    clash (exceeds (problem far_input) 0) far_exceeds ((accepted_sound (problem far_input) none nowhere (h (problem far_input) none nowhere far_margins)).residuals 0 (lit< tt))

-- ---- x = 0 with a tolerance of 3: a limit of 48, and 0 without the tolerance
abbrev loose_input : Input
loose_input = case_input (tolerant (pos 3) 4 [] [])

loose_inside : in_ranges loose_input ≡ true
unfolding all_in_range in_range range_of ranges every
loose_inside = refl

loose_code : checked_of (problem loose_input) ≡ []
unfolding bound bound_with bound_from magnitudes_with exceeds row_sum residual margin load defect product apply identity sum sumℕ largest first ceil_div
loose_code = refl

loose_limit : bound (problem loose_input) 0 ≡ 48
unfolding bound bound_with bound_from magnitudes_with residual margin load defect product apply identity sum sumℕ largest ceil_div
loose_limit = refl

loose_checked : Checked loose_input (Ok tt) (solution_after (checked_of (problem loose_input)) loose_input) (inverse_after (checked_of (problem loose_input)) loose_input)
loose_checked = checked_ready loose_input refl loose_inside (sym loose_code) refl refl

loose_zero : (nat_abs (sum 1 (λ (j : ℕ). (problem loose_input).G 0 j *ℤ residual (problem loose_input) j))) ≡ 0
unfolding residual apply sum
loose_zero = refl

pub not_limit_without_tolerance : wrong.LimitWithoutTolerance → ⊥
unfolding largest ceil_div residual apply sum margin load defect product identity sumℕ
not_limit_without_tolerance h =
    let status = h (problem loose_input) _ _ (on_lists loose_input (Ok tt) _ _ loose_checked refl) 0 (lit< tt) in
    let limit = checked_solution loose_input (Ok tt) _ _ loose_checked refl 0 (lit< tt) ∙ loose_limit in
    let z : ◌≡◌ {A = ℕ} 0 48 = sym status ∙ limit in
    omega (arith, z)

-- ---- a main net that is accepted, and a dependent one whose lists are too short
abbrev torn : Nets
torn = nets coupled_nets.main lacking_input []

main_accepted : answer coupled_nets.main ≡ []
main_accepted = (joint_none coupled_nets accepted_here).0

pub not_dependent_status_as_main : wrong.DependentStatusAsMain → ⊥
not_dependent_status_as_main h =
    let short : StatedDependent (dependent_of torn) (8 ∷ []) = too_short refl in
    let x = together_dependent torn TooShort main_accepted (sym (code_of_dependent (dependent_of torn) short)) in
    let status = h torn (Err (Dependent TooShort)) _ _ _ _ x 8 [] (subst (Stated coupled_nets.main) main_accepted (stated coupled_nets.main)) short in
    let z : ◌≡◌ {A = ℕ} 2 1 = ap (λ (l : List ℕ). get_or l 0 0) status in
    omega (arith, z)

-- ---- the whole file, into a buffer with a byte to spare
abbrev buffer : List ℕ
buffer = whole_listing ++ (7 ∷ [])

spare : ListedAs whole_file buffer buffer (length whole_listing)
spare = record { size = sym (ap length whole_file_lem); bytes = sym whole_file_lem; others = refl; fits = lit≤ tt }

pub not_listing_one_longer : wrong.ListingOneLonger → ⊥
not_listing_one_longer h =
    let status = ap (λ (l : List ℕ). length l) (h buffer buffer (length whole_listing) spare) in
    omega (arith, status)

-- ---- 8 of 16 steps to a unit: the entry is 1
half_way : RegisteredAs (pos 8) 0 4 (entry_with (entry_value 4 (pos 8)) (entry_bound 4 (pos 8) 0))
unfolding in_range range_of ranges
half_way = record { says = refl; entry = λ e. refl }

pub not_halves_toward_zero : wrong.HalvesTowardZero → ⊥
unfolding round_div
not_halves_toward_zero h =
    let status = (h (pos 8) 0 4 (entry_value 4 (pos 8)) (entry_bound 4 (pos 8) 0) half_way).1 refl in
    omega (arith, status)

-- ---- an end at a desk of n = 1 that was given problem and scale alone: four forms are missing, one of them the row of the inverse
abbrev begun_loader : Loader
begun_loader = record { n = 1; s = 0; t = 0; stage = Scaled; sets = replicate 5 0 }

begun_own : OwnSize begun_loader
unfolding in_range range_of ranges
begun_own e = refl

begun_end : Unrepeated begun_loader zeros (spell end) end
unfolding spell
begun_end = record {
  formed = record { long = zeros_long; going = refl; length_max = lit≤ tt; spelled = refl };
  timely = refl;
  place = refl;
  first = refl;
}

begun_code : line_answer begun_loader zeros (spell end) ≡ 13 ∷ 4 ∷ []
unfolding missing lacking_in sumℕ
begun_code = (line_exactly begun_loader zeros (spell end) begun_own (13 ∷ 4 ∷ [])).1 (forms_missing end begun_end refl refl refl)

begun_taken : TakenAs begun_loader (spell end) zeros (record { loader = begun_loader; outcome = Err (Missing 4) }) zeros
begun_taken =
    let left = refused_leaves begun_loader zeros (spell end) begun_code in
    record { says = sym begun_code; loader = sym left.0; lists = sym left.1 }

pub not_three_kinds_missing : wrong.ThreeKindsMissing → ⊥
unfolding sumℕ
not_three_kinds_missing h =
    let z : ◌≡◌ {A = ℕ} 4 3 = (h begun_loader (spell end) zeros _ zeros begun_taken 4 refl).0 in
    omega (arith, z)

-- ---- number 1 of the part 0, 1 of the list 0, 1, 2 is not number 2 of the list
pub not_part_turned : wrong.PartTurned → ⊥
not_part_turned h =
    let z : ◌≡◌ {A = ℕ} 1 2 = (h 2 2 0 1 0 (record { is = refl }) (lit< tt)).1 (0 ∷ 1 ∷ 2 ∷ []) 0 in
    omega (arith, z)
