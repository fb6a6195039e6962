use native.Mathlib.Omega.{arith}
use mathlib.Core.Path.{sym, ap, ◌∙◌}
use Prim.Native.Nat.{ℕ, ◌+◌, ◌-◌}
use lib.Ieee.{binary64, units}
use Rattle.doubles_interval.proofs.Shift.{away_exact, away_next, away_carry}
use Rattle.doubles_interval.proofs.away_from_zero.Goals as goal
use Rattle.doubles_interval.proofs.away_from_zero.Goals.{After-leading-digits, After-shifted_up-f, Else-f-eq0, Start, Then-f-eq0}

pub returns-then-f-eq0 : goal.returns-then-f-eq0
returns-then-f-eq0 c =
    let i = (goal.at.returns-then-f-eq0 c).Then-f-eq0 in
    let g = (goal.at.returns-then-f-eq0 c).After-leading-digits in
    let u = (goal.at.returns-then-f-eq0 c).After-shifted_up-f in
    let s = (goal.at.returns-then-f-eq0 c).Start in
    let r = u.shifted_up-f.result in
    c.from_parts.ensures
    ∙ ap (λ (q : ℕ). units binary64 s.args.negative q (1085 - s.args.s - r.zeros)) g.leading-digits.ensures
    ∙ sym (away_exact s.args.negative s.args.a s.args.s r.number r.zeros s.requires.1 u.shifted_up-f.ensures (omega (arith, i.if-f-eq0.true)))

pub returns-then-digits : goal.returns-then-digits
returns-then-digits c =
    let i = (goal.at.returns-then-digits c).Else-f-eq0 in
    let g = (goal.at.returns-then-digits c).After-leading-digits in
    let u = (goal.at.returns-then-digits c).After-shifted_up-f in
    let s = (goal.at.returns-then-digits c).Start in
    let r = u.shifted_up-f.result in
    c.from_parts-then-digits.ensures
    ∙ sym (away_carry s.args.negative s.args.a s.args.s r.number r.zeros s.requires.1 u.shifted_up-f.ensures i.if-f-eq0.false (sym g.leading-digits.ensures ∙ c.if-digits.true))

pub returns : goal.returns
returns c =
    let i = (goal.at.returns c).Else-f-eq0 in
    let g = (goal.at.returns c).After-leading-digits in
    let u = (goal.at.returns c).After-shifted_up-f in
    let s = (goal.at.returns c).Start in
    let r = u.shifted_up-f.result in
    c.from_parts-2.ensures
    ∙ ap (λ (q : ℕ). units binary64 s.args.negative (q + 1) (1085 - s.args.s - r.zeros)) g.leading-digits.ensures
    ∙ sym (away_next s.args.negative s.args.a s.args.s r.number r.zeros s.requires.1 u.shifted_up-f.ensures i.if-f-eq0.false)
