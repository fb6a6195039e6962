use Rattle.listing_text.proofs.Wrote.{then, called}
use Rattle.convert_writer.proofs.Each.{scale_line}
use Rattle.convert_writer.proofs.put_scale.Goals as goal

pub returns : goal.returns
returns c =
    called (scale_line _ _)
    (then (then (then (then c.put_bytes-a.ensures c.put_natural-b.ensures) c.put_bytes-c.ensures) c.put_natural-d.ensures) c.put_bytes.ensures)
