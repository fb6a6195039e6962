use Rattle.loader_bit_set.specs.Places.{with_place}
use lib.Pow.{shl_exact}
use lib.Dec.{lit<}
use native.Mathlib.Nat.{one-mul}
use native.Mathlib.Omega.{arith}
use Rattle.loader_bit_set.proofs.with_place.Goals as goal

pub returns : goal.returns
returns c = unfold with_place in rw (shl_exact {a = 1} 1 c.args.i 32 (lit< tt) (omega arith), one-mul)
