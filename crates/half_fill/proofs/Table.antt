-- The case of specs/Cases, by computing.
--   six_filled  — three rows filled out
use mathlib.Core.Path.{◌≡◌, refl}
use lib.ListN.{take}
use Rattle.linear.specs.Written.{written}
use Rattle.rules.specs.Range.{in_range, range_of, ranges}
use Rattle.half_fill.specs.Half.{half_place, filled_out}
use Rattle.half_fill.specs.Cases.{six_half, six_square}

pub six_filled : take 9 (filled_out 3 six_half) ≡ six_square
unfolding filled_out written half_place in_range range_of ranges
six_filled = refl
