-- A check on lists whose limits are held by value; cited by contracts inside.
--   HeldAs I r — the contract of a check on lists, for the limits that are held
use Rattle.check_spec.specs.Checked.{Checked}
use Rattle.check_spec.specs.Input.{Input}
use Rattle.check_held.specs.declared.Held.{Held}

abbrev pub HeldAs : Input → Held → Type 0
HeldAs I r = Checked I r.outcome r.solution r.inverse
