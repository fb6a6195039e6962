use Rattle.integer.proofs.Machine.{read}
use Rattle.listing_text.proofs.Wrote.{then, wider}
use Rattle.convert_writer.proofs.put_value.Goals as goal

pub returns : goal.returns
returns c =
    let z = rw (read c.args.z c.ranges.z.sfits) at c.put_integer-d.ensures in
    then (then (then (then (wider 10 c.requires.0 c.put_bytes-a.ensures) c.put_natural-b.ensures) c.put_bytes-c.ensures) z) c.put_bytes.ensures
