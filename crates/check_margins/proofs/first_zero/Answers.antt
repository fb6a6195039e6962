use mathlib.Core.Path.{◌∙◌}
use Prim.Native.Nat.{ℕ}
use native.Mathlib.Omega.{arith}
use Rattle.std.proofs.Common.{rules, Option}
use Rattle.std.proofs.iter.runs.Made.{chains}
use Rattle.check_margins.proofs.ZeroSearch.{first_zero_is}
use Rattle.check_margins.proofs.first_zero.Goals as goal

pub returns : goal.returns
returns c = c.unwrap_or.ensures ∙ search (rules, chains, λ (r : Option ℕ). first_zero_is r c.args.margins.now c.args.n (omega arith))
