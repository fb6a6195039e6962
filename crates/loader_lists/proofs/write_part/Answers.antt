use Rattle.std.proofs.Common.{length, rules}
use Rattle.loader_lists.proofs.Put.{InSpan, span_fits}
use Rattle.loader_lists.proofs.write_part.Goals as goal

pub write_values-requires : goal.write_values-requires
write_values-requires c =
    let k = length c.args.l.now in
    let f : InSpan c.span_of-span.result k = rw c.span_of-span.ensures (span_fits c.args.part c.args.width k c.args.item c.requires) in
    search rules
