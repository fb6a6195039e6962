use mathlib.Core.Path.{refl, ◌∙◌}
use native.Mathlib.Omega.{arith}
use Rattle.listing_text.proofs.Each.{wrote_none, wrote_more}
use Rattle.convert_writer.proofs.put_part.Goals as goal

pub loop-i-init : goal.loop-i-init
loop-i-init c = (omega arith, refl, wrote_none _ _ _ _)

pub loop-i-preserved : goal.loop-i-preserved
loop-i-preserved c =
    let l = c.loop-i in
    let p = c.put_line-index in
    (omega arith, p.auto.out ∙ l.invariant.1, wrote_more _ l.i _ l.invariant.2 refl p.ensures)
