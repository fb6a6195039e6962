use Rattle.std.proofs.Common.{arith, rules}
use Rattle.line_numeral.proofs.Steps.{byte_below, byte_above, magnitude_zero, magnitude_other, magnitude_run}
use Rattle.line_numeral.proofs.magnitude_at.Goals as goal
use Rattle.line_numeral.proofs.magnitude_at.Goals.{in_default-via-then-this-lt48, in_default-via-else-this-lt48+else-this-lt58}

pub returns-in-48 : goal.returns-in-48
returns-in-48 c = (magnitude_zero _ _ c.byte_at.ensures c.in-48.is, search rules)

pub returns-in-49-to-57 : goal.returns-in-49-to-57
returns-in-49-to-57 c =
    (magnitude_run _ _ c.byte_at.ensures (omega arith) (omega arith) c.run_at.ensures, rw c.run_at.ensures (omega arith))

pub returns-in_default : goal.returns-in_default
returns-in_default c = (
  elim c.in_default.branch [
    | in_default-via-then-this-lt48 w ↦ magnitude_other _ _ c.byte_at.ensures (byte_below c.byte_at.result (omega arith))
    | in_default-via-else-this-lt48+else-this-lt58 w ↦ magnitude_other _ _ c.byte_at.ensures (byte_above c.byte_at.result (omega arith))
  ],
  search rules,
)
