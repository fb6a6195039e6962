use Rattle.listing_refusal.proofs.Refused.{answered}
use Rattle.listing_refusal.proofs.put_refusal.Goals as goal

pub returns : goal.returns
returns c =
    let w = c.put_list-length in
    answered c.args.line c.args.refusal {o = c.args.out.now} {p = w.new.out} {end = w.result} c.reply_of-reply.ensures (rw c.from.ensures at w.ensures)
