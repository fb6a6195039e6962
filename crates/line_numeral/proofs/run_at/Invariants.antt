use Rattle.std.proofs.Common.{◌≡◌, ◌+◌, ◌≤◌, drop}
use Rattle.line_numeral.specs.Numeral.{run_at, cap_at}
use Rattle.line_numeral.specs.Capped.{capped_magnitude}
use Rattle.line_numeral.proofs.run_at.Given as goal

abbrev pub invariant-loop-b : goal.invariant-loop-b
invariant-loop-b l = record {
  at_place : l.next ≡ l.at + l.b-index;
  small : l.value ≤ cap_at;
  digits : capped_magnitude (run_at l.value l.next (drop l.b-index l.b-items)) ≡ capped_magnitude (run_at 0 l.at (drop l.at l.s));
}
