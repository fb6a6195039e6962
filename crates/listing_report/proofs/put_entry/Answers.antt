use Rattle.std.proofs.Common.{arith}
use Rattle.integer.proofs.Machine.{read}
use Rattle.listing_report.proofs.Rows.{entry_magnitude}
use Rattle.listing_report.proofs.put_entry.Goals as goal

pub put_pair-requires : goal.put_pair-requires
put_pair-requires c =
    let r = c.round_scaled-value in
    let a = c.args in
    (omega arith, (rw (read r.result r.type_inv, r.ensures, read a.x c.ranges.x.sfits) (entry_magnitude a.x a.s c.requires.0 c.requires.1.0), omega arith))
