-- What the code reads: a magnitude or a number, its value capped.
--   capped_magnitude, capped_number — what is read, its value capped
use Rattle.line_numeral.specs.declared.Number.{Number}
use Rattle.line_numeral.specs.declared.Magnitude.{Magnitude}
use Rattle.line_numeral.specs.Numeral.{cap_magnitude, cap}

abbrev pub capped_magnitude : Magnitude → Magnitude
capped_magnitude z = record { value = cap_magnitude z.value; next = z.next }

abbrev pub capped_number : Number → Number
capped_number r = record { value = cap r.value; next = r.next }
