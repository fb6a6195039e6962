use mathlib.Core.Path.{sym, ap, ◌∙◌}
use Prim.Native.Nat.{ℕ, ◌-◌}
use lib.Ieee.{binary64, units}
use Rattle.doubles_interval.proofs.Shift.{toward_is}
use Rattle.doubles_interval.proofs.toward_zero.Goals as goal
use Rattle.doubles_interval.proofs.toward_zero.Goals.{After-leading, After-shifted_up-f, Start}

pub returns : goal.returns
returns c =
    let g = (goal.at.returns c).After-leading in
    let u = (goal.at.returns c).After-shifted_up-f in
    let s = (goal.at.returns c).Start in
    let r = u.shifted_up-f.result in
    c.from_parts.ensures
    ∙ ap (λ (q : ℕ). units binary64 s.args.negative q (1085 - s.args.s - r.zeros)) g.leading.ensures
    ∙ sym (toward_is s.args.negative s.args.a s.args.s r.number r.zeros s.requires.1 u.shifted_up-f.ensures)
