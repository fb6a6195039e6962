use mathlib.Core.Path.{◌≡◌, sym, ◌∙◌}
use native.Mathlib.Omega.{arith}
use Rattle.integer.proofs.Machine.{read}
use Rattle.entry.specs.Register.{can_enter}
use Rattle.entry.proofs.Register.{entry_fits}
use Rattle.entry.proofs.register_entry.Goals as goal
use Rattle.entry.proofs.register_entry.Goals.{After-can_enter, Start}

tested : (c : After-can_enter) → c.can_enter.result ≡ can_enter c.args.x c.args.s
tested c = rw (read c.args.x c.ranges.x.sfits) at c.can_enter.ensures

pub round_scaled-requires : goal.round_scaled-requires
round_scaled-requires c =
    let a = (goal.at.round_scaled-requires c).Start in
    let f = entry_fits a.args.x a.args.s (sym (tested (goal.at.round_scaled-requires c).After-can_enter) ∙ c.if-not-can_enter.false) in
    (rw (read a.args.x a.ranges.x.sfits) f.0, omega (arith, f.1))

pub entry_bound-requires : goal.entry_bound-requires
entry_bound-requires c =
    let a = (goal.at.entry_bound-requires c).Start in
    rw (read a.args.x a.ranges.x.sfits) (entry_fits a.args.x a.args.s (sym (tested (goal.at.entry_bound-requires c).After-can_enter) ∙ c.if-not-can_enter.false))
