use Rattle.std.proofs.Common.{◌≡◌, ◌≤◌}
use Rattle.build_gathering.specs.Gathered.{together, no_lines, gathered}
use Rattle.build.proofs.gather.Given as goal

abbrev pub invariant-loop-i : goal.invariant-loop-i
invariant-loop-i l = (together l.progress l.seen ≡ gathered (together l.fn.start no_lines) l.observations l.i) × (l.i ≤ l.end)
