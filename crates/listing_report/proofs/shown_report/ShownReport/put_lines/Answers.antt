use Rattle.std.proofs.Common.{refl, ◌∙◌}
use Rattle.listing_text.proofs.Each.{wrote_none, wrote_more}
use Rattle.listing_report.proofs.shown_report.ShownReport.put_lines.Goals as goal

pub loop-i-init : goal.loop-i-init
loop-i-init c = record { same_length = refl; wrote = wrote_none _ _ _ _ }

pub loop-i-preserved : goal.loop-i-preserved
loop-i-preserved c =
    let l = c.loop-i in
    let p = c.put_line-index in
    record { same_length = p.auto.out ∙ l.invariant.same_length; wrote = wrote_more _ l.i _ l.invariant.wrote refl p.ensures }
