use Rattle.std.proofs.Common.{arith}
use Rattle.listing_text.proofs.Wrote.{then, wider}
use Rattle.listing_text.proofs.put_list.Goals as goal

pub returns : goal.returns
returns g c =
    wider 707 (omega (arith, c.requires)) (then (then c.put_opening-a.ensures c.put_numbers-b.ensures) c.put_bytes.ensures)
