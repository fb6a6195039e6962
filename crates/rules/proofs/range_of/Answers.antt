use mathlib.Core.Path.{ap}
use Prim.Native.Nat.{ℕ}
use lib.IntN.{pos}
use lib.ListN.{get_or}
use Rattle.rules.specs.Range.{ranges, range_of, from_to}
use Rattle.rules.proofs.range_of.Goals as goal

pub returns : goal.returns
returns c = unfold range_of ranges in ap (λ (i : ℕ). get_or ranges i (from_to (pos 0) (pos 0))) c.index_of.ensures.0
