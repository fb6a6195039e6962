use Rattle.listing_text.proofs.Wrote.{then}
use Rattle.listing_report.proofs.put_bounds.Goals as goal

pub returns : goal.returns
returns c = then (then c.put_bytes-a.ensures c.put_natural-b.ensures) c.put_bytes.ensures
