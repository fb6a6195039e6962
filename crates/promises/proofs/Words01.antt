-- The theorems for specs/Words01, a theorem for each statement.
use mathlib.Core.List.{List, [], append-nil}
use mathlib.Core.Path.{refl, subst}
use Prim.Native.Nat.{ℕ, ◌<◌}
use lib.ListN.{get_or}
use Rattle.linear.specs.Matrix.{apply, product}
use Rattle.enclosure.specs.Demand.{sum_of_magnitudes}
use Rattle.enclosure.specs.Reckoning.{row_sum}
use Rattle.line_numeral.specs.Decimal.{decimal, numeral}
use Rattle.line_numeral.proofs.Decimal.{decimal_small, decimal_next}
use Rattle.line_numeral.proofs.Digits.{first_digit}
use Rattle.listing.proofs.Table.{whole_spelled}
use Rattle.promises.specs.Words01 as words
use Rattle.promises.proofs.Demands.{accepted_encloses}

pub solution_means : words.SolutionMeans
unfolding apply
solution_means P N q = (λ h. (h.positive, h.solves), λ h. record { positive = h.0; solves = h.1 })

pub solution_within : words.SolutionWithin
solution_within P E L x N q h = (accepted_encloses P E L x).solution_at_b N q h

pub inverse_means : words.InverseMeans
unfolding apply product
inverse_means P H q = (
  (λ h. (h.positive, h.right), λ h. record { positive = h.0; right = h.1 }),
  (λ h. (h.inverse, h.left), λ h. record { inverse = h.0; left = h.1 }),
)

pub inverse_within : words.InverseWithin
inverse_within P E L x H q h = (accepted_encloses P E L x).inverse H q h

pub rounded_means : words.RoundedMeans
unfolding sum_of_magnitudes row_sum
rounded_means P N q H q' = (
  λ h. (h.exact_right, (h.solution, (h.inverse, (h.near_solution, (h.near_inverse, (h.weights, h.small)))))),
  λ h. record {
    exact_right = h.0;
    solution = h.1.0;
    inverse = h.1.1.0;
    near_solution = h.1.1.1.0;
    near_inverse = h.1.1.1.1.0;
    weights = h.1.1.1.1.1.0;
    small = h.1.1.1.1.1.1;
  },
)

pub numbers_spelled : words.NumbersSpelled
unfolding numeral
numbers_spelled = (
  decimal_small,
  (decimal_next, (λ n h. subst (λ (l : List ℕ). 48 < get_or l 0 0) (append-nil (decimal n)) (first_digit n [] h).0, λ n. refl)),
)

pub places_ranged : words.PlacesRanged
places_ranged n p i = refl

pub whole_file_spelled : words.WholeFileSpelled
whole_file_spelled = whole_spelled
