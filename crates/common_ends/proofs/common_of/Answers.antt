use Rattle.std.proofs.Common.{rules}
use Rattle.common_ends.proofs.Tests.{larger_of, smaller_of}
use Rattle.common_ends.proofs.common_of.Goals as goal

pub returns : goal.returns
returns c = (search (rules, larger_of), search (rules, smaller_of))
