use Rattle.std.proofs.Common.{◌∙◌, arith, rules}
use Rattle.line_numeral.proofs.Steps.{run_digit, run_stop, run_end}
use Rattle.line_numeral.proofs.run_at.Goals as goal

pub loop-b-preserved : goal.loop-b-preserved
loop-b-preserved c =
    let l = c.loop-b in
    let d = c.in-Some.ensures in
    record {
      at_place = omega arith;
      small = search rules;
      digits = run_digit _ l.value _ _ c.loop-b-test.true d.1 (omega arith) c.cap_magnitude-value.ensures.0 ∙ l.invariant.digits;
    }

pub returns-after-loop-b : goal.returns-after-loop-b
returns-after-loop-b c = run_end _ _ _ _ c.loop-b-test.false c.loop-b.invariant.small ∙ c.loop-b.invariant.digits

pub returns-in_default : goal.returns-in_default
returns-in_default c =
    run_stop _ _ _ _ c.loop-b-test.true (omega (arith, c.in_default.ensures)) c.loop-b.invariant.small ∙ c.loop-b.invariant.digits
