use Rattle.doubles_interval.proofs.Shift.{full}
use Rattle.doubles_interval.proofs.shifted_up.Goals as goal

pub returns : goal.returns
returns c = full c.args.a c.requires c.ranges.a.fits
