use Rattle.std.proofs.Common.{◌∙◌, arith, rules}
use Rattle.line_form.proofs.Turns.{list_start, list_more, list_stop, list_out}
use Rattle.line_form.proofs.list_at.Goals as goal

pub loop-count-init : goal.loop-count-init
loop-count-init c =
    (omega arith, search rules, list_start _ _ _ c.number_at-first.ensures (search rules) c.is_in_range-inside.ensures c.put.ensures)

pub loop-count-preserved : goal.loop-count-preserved
loop-count-preserved c = (
  omega arith,
  search rules,
  list_more _ _ _ _ c.byte_at.ensures c.loop-count-test.true c.if-byte_at-eq32.true c.number_at-n.ensures (search rules) c.is_in_range-inside-in-loop-count.ensures c.put-in-loop-count.ensures ∙ c.loop-count.invariant.2,
)

pub returns-after-loop-count : goal.returns-after-loop-count
returns-after-loop-count c = list_out _ _ _ _ c.loop-count-test.false ∙ c.loop-count.invariant.2

pub returns-else-byte_at-eq32 : goal.returns-else-byte_at-eq32
returns-else-byte_at-eq32 c =
    list_stop _ _ _ _ c.byte_at.ensures c.loop-count-test.true c.if-byte_at-eq32.false ∙ c.loop-count.invariant.2
