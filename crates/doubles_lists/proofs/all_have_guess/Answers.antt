use lib.Ieee.{Float, nan}
use Rattle.std.proofs.Common.{rules}
use Rattle.std.proofs.iter.runs.Made.{chains}
use Rattle.doubles_guess.specs.Guess.{has_guess}
use Rattle.rules.proofs.Front.{every_front}
use Rattle.doubles_lists.proofs.all_have_guess.Goals as goal

pub returns : goal.returns
returns c = every_front (λ (x : Float). has_guess c.args.s x) nan c.args.values.now c.args.n c.requires.0 (search (rules, chains))
