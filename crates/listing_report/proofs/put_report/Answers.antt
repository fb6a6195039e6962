use Rattle.std.proofs.Common.{arith}
use Rattle.listing_text.proofs.Wrote.{then, wider}
use Rattle.listing_report.specs.Report.{report_of}
use Rattle.listing_report.proofs.put_report.Goals as goal

pub returns : goal.returns
unfolding report_of
returns c =
    wider 32768 (omega (arith, c.requires.reportable.n_max))
    (then (then (then (then c.put_bounds-a.ensures c.put_lines-b.ensures) c.put_lines-c.ensures) c.put_lines-d.ensures) c.put_bytes.ensures)
