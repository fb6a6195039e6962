use native.Mathlib.Omega.{arith}
use Rattle.listing_text.proofs.Wrote.{decimal_digits, wrote_digit, wrote_natural}
use Rattle.listing_text.proofs.put_natural.Goals as goal
use Rattle.listing_text.proofs.put_natural.Goals.{After-put_digits, Start}

pub returns-then-n-lt10 : goal.returns-then-n-lt10
returns-then-n-lt10 c = wrote_natural c.ranges.n.fits (wrote_digit _ _ _ c.if-n-lt10.true)

pub put_digits-requires : goal.put_digits-requires
put_digits-requires c = let s = (goal.at.put_digits-requires c).Start in omega (arith, decimal_digits s.args.n s.ranges.n.fits)

pub returns : goal.returns
returns c = let p = (goal.at.returns c).After-put_digits in wrote_natural p.ranges.n.fits p.put_digits.ensures
