use mathlib.Core.Path.{sym}
use native.Mathlib.Omega.{arith}
use Prim.Native.Nat.{ℕ, ◌<◌}
use lib.ListN.{length-take}
use Rattle.std.proofs.Common.{rules}
use Rattle.std.proofs.lemmas.List.{get_or-take}
use Rattle.integer.proofs.Search.{largest_none, largest_next}
use Rattle.weights_steps.proofs.largest_of.Goals as goal

pub loop-load-init : goal.loop-load-init
loop-load-init c = (omega arith, sym (largest_none _))

pub loop-load-preserved : goal.loop-load-preserved
loop-load-preserved c =
    let k = c.loop-load.load-index in
    let inside : k < c.args.n = omega (arith, length-take {A = ℕ}) in
    (omega (arith, inside), search (rules, c.loop-load.invariant.1, get_or-take c.args.n c.args.loads.now k 0 inside, largest_next))
