use Rattle.listing_text.proofs.Wrote.{then, wider}
use Rattle.listing_text.proofs.put_opening.Goals as goal

pub returns : goal.returns
returns c = then (then (wider 10 c.requires.0 c.put_bytes-a.ensures) c.put_natural-b.ensures) c.put_bytes.ensures
