use mathlib.Core.Path.{sym, ◌∙◌}
use Prim.Native.Nat.{◌<◌}
use native.Mathlib.Omega.{arith}
use Rattle.line_numeral.specs.Numeral.{cap_at}
use Rattle.std.proofs.Common.{rules}
use Rattle.loader.proofs.Line.{decided_short, decided_ended, decided_unread, decided_form}
use Rattle.loader.proofs.Loader.decide.Goals as goal

pub returns-then-short : goal.returns-then-short
returns-then-short c l e = decided_short c.args.self l c.args.line.now (e ∙ c.if-short.true)

pub returns-then-is_ended : goal.returns-then-is_ended
returns-then-is_ended c l e = decided_ended c.args.self l c.args.line.now (e ∙ c.if-short.false) (sym c.is_ended.ensures ∙ c.if-is_ended.true)

pub returns-in_err-form : goal.returns-in_err-form
returns-in_err-form c l e =
    let t = decided_unread c.args.self l c.args.line.now (e ∙ c.if-short.false) (sym c.is_ended.ensures ∙ c.if-is_ended.false) {q = c.in_err-form.field-0.0} c.read_line-read.ensures (search rules) in
    search rules

pub returns : goal.returns
returns c l e =
    let small : c.args.self.n < cap_at = omega arith in
    decided_form c.args.self l c.args.line.now (e ∙ c.if-short.false) (sym c.is_ended.ensures ∙ c.if-is_ended.false) c.decide_form.result small c.read_line-read.ensures (search rules) c.put_values.ensures c.decide_form.ensures
