use Rattle.std.proofs.Common.{rules}
use Rattle.integer.specs.Quotient.{ceil_div}
use Rattle.integer.proofs.ceil_div.Goals as goal

pub returns : goal.returns
unfolding ceil_div
returns c = search rules
