use mathlib.Core.Path.{◌≡◌, ◌∙◌}
use Prim.Native.Nat.{ℕ, max}
use lib.IntN.{ℤ, pos, nat_abs}
use lib.ListN.{take}
use Rattle.std.specs.List.{fold}
use Rattle.std.proofs.Common.{rules}
use Rattle.std.proofs.iter.runs.Made.{chains}
use Rattle.check_ratios.proofs.Fronts.{largest_front}
use Rattle.check_ratios.proofs.largest_weight.Goals as goal

pub returns : goal.returns
returns c =
    let folded : c.fold.result ≡ fold (λ (m : ℕ) (x : ℤ). max m (nat_abs x)) 0 (take c.args.n c.args.weights.now) = search (rules, chains) in
    folded ∙ largest_front nat_abs (pos 0) c.args.weights.now c.args.n c.requires.column_list.long
