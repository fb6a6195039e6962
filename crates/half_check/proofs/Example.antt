-- Document 01's whole file by its lower half: no theorem on an accepted half is empty.
--   file_half_long — the half, of 528 numbers, is long enough
--   file_half_accepted — what is said of the filled-out matrix: nothing
--   file_half_rounded — and it is a rounded exact proposal
use mathlib.Core.Path.{◌≡◌, refl, ◌∙◌}
use mathlib.Core.Bool.{false}
use mathlib.Core.List.{[]}
use Prim.Native.Nat.{ℕ, ◌<◌}
use lib.Dec.{lit<, lit≤}
use lib.ListN.{length}
use Rattle.integer.specs.Finite.{sum, sumℕ}
use Rattle.linear.specs.Matrix.{apply, product, identity}
use Rattle.linear.specs.Slice.{at, matrix_of}
use Rattle.linear.specs.Written.{written}
use Rattle.integer.proofs.Below.{each_of_two, each_of_four}
use Rattle.rules.specs.Range.{in_range, range_of, ranges}
use Rattle.enclosure.specs.Demand.{RoundedExact, sum_of_magnitudes}
use Rattle.enclosure.specs.Reckoning.{row_sum}
use Rattle.enclosure.specs.Example as example
use Rattle.check_spec.specs.Input.{problem, short}
use Rattle.check_spec.specs.Order.{answer}
use Rattle.check_spec.proofs.Table.{file_input, file_accepted, file_rounded_here}
use Rattle.half_fill.specs.Half.{half_place, short_half, filled_out}
use Rattle.half_fill.proofs.Filling.{filled_length}
use Rattle.half_check.specs.Checked.{filled_input}
use Rattle.half_check.specs.Example.{file_half, file_halved}
use Rattle.half_check.proofs.Square.{answers}

pub file_half_long : short_half (length file_half) ≡ false
file_half_long = refl

same_matrix : (i j : ℕ) → i < 2 → j < 2 → matrix_of file_input.matrix 2 i j ≡ at file_half (half_place i j)
unfolding half_place
same_matrix = each_of_four _ refl refl refl refl

half_long : short (filled_input file_halved) ≡ false
half_long = rw (filled_length 2 file_half)

pub file_half_accepted : answer (filled_input file_halved) ≡ []
file_half_accepted = answers file_halved file_input.matrix half_long refl same_matrix ∙ file_accepted

pub file_half_rounded : RoundedExact (problem (filled_input file_halved)) example.exact 11 example.exact_inverse 11
unfolding filled_out written half_place in_range range_of ranges apply product identity sum sumℕ row_sum sum_of_magnitudes
file_half_rounded = record {
  exact_right = file_rounded_here.exact_right;
  solution = record { positive = lit≤ tt; solves = each_of_two _ refl refl };
  inverse = record {
    inverse = record { positive = lit≤ tt; right = each_of_four _ refl refl refl refl };
    left = each_of_four _ refl refl refl refl;
  };
  near_solution = file_rounded_here.near_solution;
  near_inverse = file_rounded_here.near_inverse;
  weights = file_rounded_here.weights;
  small = lit< tt;
}
