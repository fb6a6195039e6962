-- The diagonal of the matrix list that `build` wrote, square or by its lower half (specs/Diagonal).
--   diagonal_held — summed, plus the weights of the distinct lines at the fixed mark, it is twice the weight of all distinct lines
--   net_built, net_diagonal — the small net of build_lines/specs/Example is built in both layouts, over lists of nines: its diagonal is 7 + 6, and 13 + 3 is
--     twice the weight 8 of its three distinct lines
use mathlib.Core.Path.{◌≡◌, refl, sym, ap, ◌∙◌}
use mathlib.Core.List.{List, []}
use Prim.Native.Nat.{ℕ, ◌<◌}
use native.Mathlib.Omega.{arith}
use lib.IntN.{ℤ, pos, ◌+ℤ◌}
use lib.ListN.{replicate}
use Rattle.integer.specs.Finite.{sum, sumℕ}
use Rattle.integer.proofs.Sum.{sum_ext}
use Rattle.linear.specs.Slice.{at}
use Rattle.linear.specs.Written as W
use Rattle.half_fill.proofs.Places.{place_lower}
use Rattle.rules.specs.Range as R
use Rattle.rules.proofs.Verdicts.{accepted_new}
use Rattle.build_lines.specs.Order.{Built, build_code, build_answer}
use Rattle.std.specs.Prelude.{Ok}
use Rattle.build_lines.specs.declared.Observation.{Observation}
use Rattle.build_lines.specs.Distinct as D
use Rattle.build_lines.specs.Distinct.{built_matrix, built_right}
use Rattle.build_lines.specs.Example.{net}
use Rattle.build_lines.specs.Heights.{fixed_weight, all_weight}
use Rattle.build_lines.specs.Line as L
use Rattle.build_lines.specs.Order as O
use Rattle.build_lines.proofs.Net.{diagonal}
use Rattle.build_equations.specs.declared.Layout.{Layout}
use Rattle.build_equations.specs.declared.Layout.TheVariants.{Square, Lower}
use Rattle.build_equations.specs.Written as E
use Rattle.build_equations.specs.Written.{matrix_written, right_written}
use Rattle.build.specs.BuiltAs.{short_for, BuiltAs}
use Rattle.build.specs.Diagonal.{diagonal_place, diagonal_of, TwiceTheWeight}
use Rattle.build.proofs.Held.{fitting, held}
use Rattle.build.proofs.Halves.{held_half}

on_diagonal : (layout : Layout) (n : ℕ) (ls : List Observation) (a b : List ℤ) {r : Built} {a' b' : List ℤ} → BuiltAs n ls layout a b r a' b' → build_code r ≡ [] →
    (i : ℕ) → i < n → at a' (diagonal_place layout n i) ≡ built_matrix ls i i
on_diagonal Square n ls a b built done i l = (held n ls a b built done).matrix i i l l
on_diagonal Lower n ls a b {r} {a'} built done i l = sym (ap (at a') (place_lower (omega arith))) ∙ (held_half n ls a b built done).matrix i i l l

pub diagonal_held : (layout : Layout) (n : ℕ) (ls : List Observation) (a b : List ℤ) {r : Built} {a' b' : List ℤ} → BuiltAs n ls layout a b r a' b' → build_code r ≡ [] →
    TwiceTheWeight layout n ls a'
diagonal_held layout n ls a b {r} {a'} built done =
    ap (λ (z : ℤ). z +ℤ fixed_weight ls) (sum_ext n (λ (i : ℕ). at a' (diagonal_place layout n i)) (λ (i : ℕ). built_matrix ls i i) (on_diagonal layout n ls a b built done))
    ∙ diagonal n ls (fitting n ls layout a b built done).1

-- ---- an instance
abbrev nines : ℕ → List ℤ
nines k = replicate k (pos 9)

diagonal_builds : (layout : Layout) → build_answer 2 net (short_for layout (nines 1024) (nines 32)) ≡ []
unfolding O.build_answer O.observations_say L.outside_range L.clashes L.same_contents R.in_range R.range_of R.ranges
diagonal_builds Square = refl
diagonal_builds Lower = refl

pub net_built : (layout : Layout) →
    BuiltAs 2 net layout (nines 1024) (nines 32) (Ok tt) (matrix_written layout 2 (built_matrix net) (nines 1024)) (right_written 2 (built_right net) (nines 32))
net_built layout = record { says = sym (diagonal_builds layout); matrix = sym (accepted_new _ _ (diagonal_builds layout)); right = sym (accepted_new _ _ (diagonal_builds layout)) }

pub net_diagonal : (layout : Layout) → (diagonal_of layout 2 (matrix_written layout 2 (built_matrix net) (nines 1024)) ≡ pos 13) × (fixed_weight net ≡ pos 3) × (all_weight net ≡ pos 8)
unfolding sum sumℕ W.written E.rows_written D.distinct_after D.total D.weight_at L.has_key
net_diagonal Square = (refl, refl, refl)
net_diagonal Lower = (refl, refl, refl)
