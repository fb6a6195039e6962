use Rattle.std.proofs.Common.{◌≡◌, cond}
use lib.Dec.{ltb}
use Rattle.loader_values.specs.Item.{part_index}
use Rattle.loader_progress.specs.Progress.{marked}
use Rattle.loader_progress.proofs.with.Given as goal

abbrev pub invariant-loop-k : goal.invariant-loop-k
invariant-loop-k l = l.set-items ≡ cond (ltb (part_index l.fn.part) l.k) (marked l.fn.sets l.fn.part l.fn.i) l.fn.sets
