use Rattle.loader_bit_set.proofs.Complement.{mask, lack}
use lib.Bits.{and_mask}
use native.Mathlib.Nat.{mod-lt}
use lib.Pow.{pow_pos}
use lib.Count.{ones-le}
use Rattle.loader_bit_set.proofs.count_lacking.Goals as goal

pub returns : goal.returns
returns c =
    let below = lack c.args.set c.args.n c.ranges.set.fits c.requires.1 in
    rw (mask c.args.n c.requires.1, and_mask) (below, ones-le c.args.n _ (mod-lt _ (pow_pos c.args.n)))
