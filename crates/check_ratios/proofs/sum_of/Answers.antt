use mathlib.Core.Path.{◌≡◌, ◌∙◌}
use Prim.Native.Nat.{◌<◌, ◌^◌}
use native.Mathlib.Omega.{arith}
use native.Mathlib.Nat.{mul-le-mul_right}
use lib.ListN.{get_or, take}
use Rattle.std.specs.List.{sum}
use Rattle.std.proofs.Common.{rules}
use Rattle.enclosure.specs.Largest.{largest_magnitude}
use Rattle.integer.proofs.Sum.{sumℕ≤}
use Rattle.check_ratios.proofs.Fronts.{sum_front}
use Rattle.check_ratios.proofs.sum_of.Goals as goal

pub sum-requires-clause-fits : goal.sum-requires-clause-fits
sum-requires-clause-fits c =
    let small : sum (take c.args.n c.args.xs.now) < 2 ^ 64 =
    rw (sum_front c.args.xs.now c.args.n (omega arith)) (omega (arith, sumℕ≤ c.args.n largest_magnitude (λ k. get_or c.args.xs.now k 0) c.requires.bounded.most, mul-le-mul_right largest_magnitude c.requires.n_bound)) in
    search rules

pub returns : goal.returns
returns c =
    let whole : c.sum.result ≡ sum (take c.args.n c.args.xs.now) = search rules in
    whole ∙ sum_front c.args.xs.now c.args.n (omega arith)
