use Rattle.integer.proofs.Rounding.{ceil_sum, ceil_sum_fits}
use Rattle.integer.proofs.ceil_sum.Goals as goal

pub overflow_add-result : goal.overflow_add-result
overflow_add-result c =
    rw (c.ceil_div.ensures, ceil_sum c.args.a c.args.c c.args.b c.requires.0)
    (record { fits = ceil_sum_fits c.args.a c.args.c c.args.b c.requires.0 c.requires.1.0 c.ranges.a.fits })

pub returns : goal.returns
returns c = rw c.ceil_div.ensures (ceil_sum c.args.a c.args.c c.args.b c.requires.0)
