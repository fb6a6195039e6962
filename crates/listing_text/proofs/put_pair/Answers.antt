use Rattle.integer.proofs.Machine.{read}
use Rattle.listing_text.proofs.Wrote.{then}
use Rattle.listing_text.proofs.put_pair.Goals as goal

pub returns : goal.returns
returns c =
    then (then (then (then c.put_opening-a.ensures (rw (read c.args.z c.ranges.z.sfits) at c.put_integer-b.ensures)) c.put_bytes-c.ensures) c.put_natural-d.ensures) c.put_bytes.ensures
