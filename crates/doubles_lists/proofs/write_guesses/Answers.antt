use mathlib.Core.Path.{◌≡◌, sym, ◌∙◌}
use mathlib.Core.Bool.{true}
use lib.Ieee.{nan}
use lib.ListN.{take, get_or}
use Prim.Native.Nat.{◌<◌}
use native.Mathlib.Omega.{arith}
use Rattle.std.proofs.Common.{rules, Some}
use Rattle.std.specs.Option.{IfSome, is_some}
use Rattle.std.proofs.lemmas.List.{get_or-take, length-take-le}
use Rattle.integer.proofs.Machine.{read}
use Rattle.linear.proofs.Written.{written_none, written_more, written_end}
use Rattle.rules.proofs.Every.{every_at}
use Rattle.doubles_guess.specs.Guess.{guess_for}
use Rattle.doubles_lists.specs.Lists.{double_at}
use Rattle.doubles_lists.proofs.write_guesses.Goals as goal
use Rattle.doubles_lists.proofs.write_guesses.Goals.{After-guess_of}

within : (c : After-guess_of) → c.loop-i.i < c.args.n
within c = omega (arith, length-take-le c.args.n c.args.values.now c.requires.n_in_bounds.0, c.loop-i-test.true)

same : (c : After-guess_of) → get_or (take c.args.n c.args.values.now) c.loop-i.i nan ≡ double_at c.args.values.now c.loop-i.i
same c = get_or-take c.args.n c.args.values.now c.loop-i.i nan (within c)

given : (c : After-guess_of) → is_some c.guess_of.result ≡ true
given c = rw (c.guess_of.ensures.found, same c) (every_at c.args.n _ c.requires.i_value c.loop-i.i (within c))

pub loop-i-init : goal.loop-i-init
loop-i-init c = (search rules, sym (written_none _ _ _ _))

pub unwrap-requires : goal.unwrap-requires
unwrap-requires c = let h = given c in search rules

pub loop-i-preserved : goal.loop-i-preserved
loop-i-preserved c =
    let a = (goal.at.loop-i-preserved c).After-guess_of in
    let g : IfSome (Some c.unwrap.result) (λ X. X ≡ guess_for c.args.s (get_or (take c.args.n c.args.values.now) c.loop-i.i nan)) = rw c.unwrap.ensures at c.guess_of.ensures.steps in
    (search rules, written_more _ _ _ _ c.loop-i.i c.loop-i.invariant.1 (omega arith) (read _ c.unwrap.type_inv ∙ rw (same a) at g))

pub returns : goal.returns
returns c = c.loop-i.invariant.1 ∙ written_end _ _ _ _ c.loop-i.invariant.0 (omega (arith, length-take-le c.args.n c.args.values.now c.requires.n_in_bounds.0, c.loop-i-test.false))
