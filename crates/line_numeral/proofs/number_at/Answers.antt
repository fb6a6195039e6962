use Rattle.line_numeral.proofs.Steps.{number_minus, number_plain}
use Rattle.line_numeral.proofs.number_at.Goals as goal
use Rattle.line_numeral.proofs.number_at.Goals.{Else-byte_at-eq45, Then-byte_at-eq45}

pub returns-then-byte_at-eq45 : goal.returns-then-byte_at-eq45
returns-then-byte_at-eq45 c =
    let b = (goal.at.returns-then-byte_at-eq45 c).Then-byte_at-eq45 in
    number_minus _ _ b.byte_at.ensures b.if-byte_at-eq45.true c.magnitude_at.ensures.0 c.negative.ensures

pub returns-else-byte_at-eq45 : goal.returns-else-byte_at-eq45
returns-else-byte_at-eq45 c =
    let b = (goal.at.returns-else-byte_at-eq45 c).Else-byte_at-eq45 in
    number_plain _ _ b.byte_at.ensures b.if-byte_at-eq45.false c.magnitude_at-else-byte_at-eq45.ensures.0 c.positive.ensures
