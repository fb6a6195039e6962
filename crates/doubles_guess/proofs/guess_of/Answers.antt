use mathlib.Core.Path.{◌∙◌}
use Rattle.integer.proofs.Machine.{read}
use Rattle.doubles_guess.proofs.Guesses.{none_outside, none_large, given}
use Rattle.doubles_guess.proofs.guess_of.Goals as goal

pub returns-in_err-p : goal.returns-in_err-p
returns-in_err-p c = rw c.from_residual.ensures (none_outside c.args.s c.args.x c.in_err-p.ensures)

pub returns-in_err-magnitude : goal.returns-in_err-magnitude
returns-in_err-magnitude c = rw c.from_residual-in_err-magnitude.ensures (none_large c.args.s c.args.x c.in_ok-p.p c.in_ok-p.ensures c.in_err-magnitude.ensures)

pub returns : goal.returns
returns c = given c.args.s c.args.x c.in_ok-p.p c.in_ok-p.ensures c.in_ok-magnitude.ensures (read c.signed.result c.signed.type_inv ∙ c.signed.ensures)
