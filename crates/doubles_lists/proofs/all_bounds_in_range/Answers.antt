use lib.Dec.{leb}
use Prim.Native.Nat.{ℕ, ◌^◌}
use Rattle.std.proofs.Common.{rules}
use Rattle.std.proofs.iter.runs.Made.{chains}
use Rattle.rules.proofs.Front.{every_front}
use Rattle.doubles_lists.proofs.all_bounds_in_range.Goals as goal

pub returns : goal.returns
returns c = every_front (λ (e : ℕ). leb e (2 ^ 60)) 0 c.args.bounds.now c.args.n c.requires (search (rules, chains))
