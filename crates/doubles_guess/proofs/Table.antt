-- The table of specs/Cases follows from the definitions.
--   guess_rows_hold_lem — one theorem for all rows, computed
use mathlib.Core.Path.{◌≡◌, refl}
use mathlib.Core.Bool.{true}
use lib.Ieee.{of_bits}
use Rattle.integer.specs.Quotient.{round_div}
use Rattle.rules.specs.Range.{ranges, range_of, in_range}
use Rattle.doubles_guess.specs.Cases.{guess_rows, guess_rows_hold}
use Rattle.doubles_guess.specs.Guess.{guess_for, has_guess}
use Rattle.doubles_guess.specs.Units.{whole}

pub guess_rows_hold_lem : guess_rows_hold guess_rows ≡ true
unfolding guess_rows of_bits has_guess guess_for whole round_div in_range range_of ranges
guess_rows_hold_lem = refl
