-- The lines of what a report shows.
--   line_in block x i — the line of row i in a block
use Rattle.std.specs.Prelude.{List, ℕ}
use Rattle.listing_report.specs.declared.shown_report.ShownReport.{ShownReport}
use Rattle.listing_report.specs.declared.Block.{Block}
use Rattle.listing_report.specs.Ready.{block_line}

abbrev pub line_in : Block → ShownReport → ℕ → List ℕ
line_in b x = block_line b x.n x.s x.guess.now x.solution_bounds.now x.inverse_bounds.now
