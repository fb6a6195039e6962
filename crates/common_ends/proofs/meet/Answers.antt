use Rattle.std.proofs.Common.{sym, ◌∙◌, arith}
use Rattle.common_ends.specs.Met.{too_wide, narrow}
use Rattle.common_ends.proofs.Tests.{fitting_of}
use Rattle.common_ends.proofs.meet.Goals as goal
use Rattle.common_ends.proofs.meet.Goals.{then-is_wide-via-then-is_wide, then-is_wide-via-else-is_wide+then-is_wide-2}

pub returns-then-is_wide : goal.returns-then-is_wide
returns-then-is_wide c =
    elim c.then-is_wide.branch [
      | then-is_wide-via-then-is_wide w ↦ too_wide (rw (sym c.is_wide.ensures ∙ w.if-is_wide.true))
      | then-is_wide-via-else-is_wide+then-is_wide-2 w ↦
          too_wide (rw (sym c.is_wide.ensures ∙ w.if-is_wide.false, sym w.is_wide-else-is_wide.ensures ∙ w.if-is_wide-2.true))
    ]

pub write_ends-requires-clause-fitting : goal.write_ends-requires-clause-fitting
write_ends-requires-clause-fitting c =
    let p = c.requires.s1_bound in (
      fitting_of _ _ _ _ (omega (arith, c.max-s.ensures, p.0)) p.1.0 (sym c.is_wide.ensures ∙ c.if-is_wide.false),
      fitting_of _ _ _ _ (omega (arith, c.max-s.ensures, p.0)) p.1.1 (sym c.is_wide-else-is_wide.ensures ∙ c.if-is_wide-2.false),
    )

pub returns : goal.returns
returns c =
    narrow _ _ (rw (sym c.is_wide.ensures ∙ c.if-is_wide.false, sym c.is_wide-else-is_wide.ensures ∙ c.if-is_wide-2.false))
    (rw c.max-s.ensures at c.write_ends.ensures.low_after) (rw c.max-s.ensures at c.write_ends.ensures.high_after)
