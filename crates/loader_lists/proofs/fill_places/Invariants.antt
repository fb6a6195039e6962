use Rattle.std.proofs.Common.{◌≡◌}
use Rattle.loader_lists.specs.Put.{filled}
use Rattle.loader_lists.proofs.fill_places.Given as goal

abbrev pub invariant-loop-i : goal.invariant-loop-i
invariant-loop-i l = l.l ≡ filled l.i l.set l.fn.l
