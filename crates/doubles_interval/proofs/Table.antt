-- The table of specs/Cases follows from the definitions.
--   interval_rows_hold_lem — one theorem for all rows, computed
use mathlib.Core.Path.{◌≡◌, refl}
use mathlib.Core.Bool.{true}
use lib.Ieee.{size, units, to_bits}
use Rattle.integer.specs.Quotient.{ceil_div}
use Rattle.doubles_interval.specs.Cases.{interval_rows, interval_rows_hold}
use Rattle.doubles_interval.specs.Ends.{dropped, toward, away, below, above}

pub interval_rows_hold_lem : interval_rows_hold interval_rows ≡ true
unfolding interval_rows to_bits below above toward away dropped units size ceil_div
interval_rows_hold_lem = refl
