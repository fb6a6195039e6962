use Rattle.std.proofs.Common.{◌≡◌, ◌*◌, length}
use Rattle.listing_text.specs.Wrote.{Wrote}
use Rattle.listing_text.specs.Line.{each}
use Rattle.listing_report.specs.ShownReport.{line_in}
use Rattle.listing_report.specs.Ready.{most_of}
use Rattle.listing_report.proofs.shown_report.ShownReport.put_lines.Given as goal

abbrev pub invariant-loop-i : goal.invariant-loop-i
invariant-loop-i l = record {
  same_length : length l.out ≡ length l.fn.out;
  wrote : Wrote (l.i * most_of l.block) l.fn.out l.at (each l.i (line_in l.block l.self)) l.out l.index;
}
