-- The small net of specs/Example, computed: what is said, A and b; the ends of the ranges: 3 one past each of them, and past 256 lines; and heights that fit
-- every line, so that `heights_solve` is of more than nothing.
use mathlib.Core.Path.{◌≡◌, refl, sym, subst}
use mathlib.Core.Bool.{true, false}
use mathlib.Core.List.{List, [], ◌∷◌, ◌++◌}
use lib.IntN.{pos, negsuc, ◌-ℤ◌, ◌*ℤ◌}
use lib.ListN.{replicate}
use Rattle.rules.specs.Range as R
use Rattle.build_lines.specs.Line as L
use Rattle.build_lines.specs.Order as O
use Rattle.build_lines.specs.Order.{build_answer}
use Rattle.build_lines.specs.Distinct as D
use Rattle.build_lines.specs.Distinct.{built_matrix, built_right}
use Rattle.build_lines.specs.declared.Observation.{Observation}
use Rattle.build_lines.specs.Example.{line, near, net, other, loop, heavy, ends, fitting, fit_heights}
use Rattle.build_lines.specs.Heights.{FitAll}
use Rattle.integer.specs.Among.{Among}
use Rattle.build_lines.proofs.Members.{nobody, either}

builds : build_answer 2 net false ≡ []
unfolding O.build_answer O.observations_say L.outside_range L.clashes L.same_contents R.in_range R.range_of R.ranges
builds = refl

-- 8 and 3 before any line, 3, 16 and 17 of a line, in this order
refusals : (build_answer 33 net true ≡ 8 ∷ []) × (build_answer 0 net false ≡ 3 ∷ []) × (build_answer 1 net false ≡ 3 ∷ []) × (build_answer 2 (net ++ heavy ∷ []) false ≡ 3 ∷ [])
    × (build_answer 2 (net ++ loop ∷ other ∷ []) false ≡ 16 ∷ []) × (build_answer 2 (net ++ other ∷ loop ∷ []) false ≡ 17 ∷ [])
unfolding O.build_answer O.observations_say L.outside_range L.clashes L.same_contents R.in_range R.range_of R.ranges
refusals = (refl, refl, refl, refl, refl, refl)

net_equations : (built_matrix net 0 0 ≡ pos 7) × (built_matrix net 0 1 ≡ negsuc 4) × (built_matrix net 1 0 ≡ negsuc 4) × (built_matrix net 1 1 ≡ pos 6) × (built_right net 0 ≡ pos 35) × (built_right net 1 ≡ negsuc 18)
unfolding D.distinct_after D.total D.weight_at D.gain L.has_key
net_equations = (refl, refl, refl, refl, refl, refl)

ends_build : build_answer 32 ends false ≡ []
unfolding O.build_answer O.observations_say L.outside_range L.clashes L.same_contents R.in_range R.range_of R.ranges
ends_build = refl

past_ends : (build_answer 32 (line 0 0 1 (pos 0) 1 ∷ []) false ≡ 3 ∷ []) × (build_answer 32 (line 65536 0 1 (pos 0) 1 ∷ []) false ≡ 3 ∷ []) × (build_answer 32 (line 1 0 33 (pos 0) 1 ∷ []) false ≡ 3 ∷ [])
    × (build_answer 32 (line 1 0 1 (negsuc 65536) 1 ∷ []) false ≡ 3 ∷ []) × (build_answer 32 (line 1 0 1 (pos 65537) 1 ∷ []) false ≡ 3 ∷ []) × (build_answer 32 (line 1 0 1 (pos 0) 0 ∷ []) false ≡ 3 ∷ [])
unfolding O.build_answer O.observations_say L.outside_range L.clashes L.same_contents R.in_range R.range_of R.ranges
past_ends = (refl, refl, refl, refl, refl, refl)

counts : (build_answer 2 (replicate 256 near) false ≡ []) × (build_answer 2 (replicate 257 near) false ≡ 3 ∷ [])
unfolding O.build_answer O.observations_say L.outside_range L.clashes L.same_contents R.in_range R.range_of R.ranges
counts = (refl, refl)

abbrev FitLine : Observation → Type 0
FitLine l = fit_heights l.to -ℤ fit_heights l.«from» ≡ pos 2 *ℤ l.difference

each_fit : {l x : Observation} {xs : List Observation} → FitLine x → (Among l xs → FitLine l) → Among l (x ∷ xs) → FitLine l
each_fit f g i = either i (λ e. subst FitLine (sym e) f) g

fit_all : FitAll fitting 2 fit_heights
fit_all = record { fixed = refl; fits = λ l. each_fit refl (each_fit refl (each_fit refl nobody)) }
