use mathlib.Core.Path.{sym}
use native.Mathlib.Omega.{arith}
use Rattle.check_biased_rows.proofs.Unbiasing.{unbiased_below, unbiased_above}
use Rattle.check_biased_rows.proofs.unbiased_magnitude.Goals as goal

pub returns-then-x-lt-BIAS : goal.returns-then-x-lt-BIAS
returns-then-x-lt-BIAS c = sym (unbiased_below _ (omega (arith, c.if-x-lt-BIAS.true)))

pub returns-else-x-lt-BIAS : goal.returns-else-x-lt-BIAS
returns-else-x-lt-BIAS c = sym (unbiased_above _ c.if-x-lt-BIAS.false)
