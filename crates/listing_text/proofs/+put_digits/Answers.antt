use Rattle.std.proofs.Common.{arith}
use Rattle.listing_text.proofs.Wrote.{small_length, next_length, wrote_digit, wrote_digits}
use Rattle.listing_text.proofs.+put_digits.Goals as goal

pub bounds-out-at : goal.bounds-out-at
bounds-out-at t c = omega (arith, small_length c.args.n c.if-n-lt10.true)

pub returns-then-n-lt10 : goal.returns-then-n-lt10
returns-then-n-lt10 t c = wrote_digit _ _ _ c.if-n-lt10.true

pub put_digits-last-requires : goal.put_digits-last-requires
put_digits-last-requires t c = (omega arith, omega (arith, next_length c.args.n c.if-n-lt10.false))

pub bounds-out-last : goal.bounds-out-last
bounds-out-last t c = omega (arith, next_length c.args.n c.if-n-lt10.false, c.put_digits-last.ensures.end_max, c.put_digits-last.auto.out)

pub overflow_add-result-2 : goal.overflow_add-result-2
overflow_add-result-2 t c = omega (arith, next_length c.args.n c.if-n-lt10.false, c.put_digits-last.ensures.end_max, c.put_digits-last.auto.out)

pub returns : goal.returns
returns t c = wrote_digits _ c.if-n-lt10.false c.put_digits-last.ensures
