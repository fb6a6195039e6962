-- The table of pairs of nets holds (specs/Cases).
--   nets_hold_lem — one theorem for all rows, computed
use mathlib.Core.Path.{◌≡◌, refl}
use mathlib.Core.Bool.{true}
use Rattle.integer.specs.Finite.{sum, sumℕ, largest, first, every}
use Rattle.integer.specs.Quotient.{ceil_div}
use Rattle.linear.specs.Matrix.{apply, product, identity}
use Rattle.linear.specs.Written.{written}
use Rattle.rules.specs.Range.{ranges, range_of, in_range, all_in_range}
use Rattle.enclosure.specs.Reckoning.{defect, load, margin, residual, row_sum, exceeds, magnitudes_with, bound_from, bound_with, bound}
use Rattle.check_spec.specs.Order.{answer}
use Rattle.dependent_spec.specs.Reckoning.{dependent_residual, dependent_slack}
use Rattle.dependent_spec.specs.Order.{dependent_answer, joint_answer}
use Rattle.dependent_spec.specs.Cases.{nets_rows, all_nets_hold}

pub nets_hold_lem : all_nets_hold nets_rows ≡ true
unfolding sum sumℕ largest first ceil_div apply product identity ranges range_of in_range all_in_range defect load margin residual row_sum exceeds magnitudes_with bound_from bound_with bound written answer dependent_residual dependent_slack dependent_answer joint_answer every
nets_hold_lem = refl
