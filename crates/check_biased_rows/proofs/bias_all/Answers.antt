use mathlib.Core.Path.{◌∙◌}
use native.Mathlib.Omega.{arith}
use Rattle.linear.proofs.Carried.{start_place, carried_next}
use Rattle.check_biased_rows.proofs.Filling.{rows_more}
use Rattle.check_biased_rows.proofs.bias_all.Goals as goal

pub loop-i-preserved : goal.loop-i-preserved
loop-i-preserved c =
    let l = c.loop-i in (
      omega arith,
      (
        carried_next l.invariant.1.0,
        (
          carried_next l.invariant.1.1.0,
          (
            c.bias_row.ensures.1.long ∙ l.invariant.1.1.1.0,
            rows_more l.invariant.1.1.1.1 (rw (start_place l.invariant.1.0, start_place l.invariant.1.1.0) at c.bias_row.ensures),
          ),
        ),
      ),
    )
