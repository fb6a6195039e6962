use mathlib.Core.Path.{◌≡◌, refl, sym, ◌∙◌}
use Prim.Native.Nat.{◌<◌}
use lib.IntN.{nat_abs}
use Rattle.integer.proofs.Machine.{read}
use Rattle.doubles_interval.proofs.Signs.{end_zero, end_away, end_toward}
use Rattle.std.proofs.Common.{rules}
use Rattle.doubles_interval.proofs.end_at.Goals as goal
use Rattle.doubles_interval.proofs.end_at.Goals.{After-unsigned_abs-a, Else-a-eq0}

magnitude_is : (c : After-unsigned_abs-a) → c.unsigned_abs-a.result ≡ nat_abs c.args.z
magnitude_is c = rw (read c.args.z c.ranges.z.sfits) at c.unsigned_abs-a.ensures.value

some : (c : Else-a-eq0) → 0 < c.unsigned_abs-a.result
some c = search rules

pub returns-then-a-eq0 : goal.returns-then-a-eq0
returns-then-a-eq0 c =
    c.plus_zero.ensures ∙ end_zero c.args.s c.args.z c.args.low (sym (magnitude_is (goal.at.returns-then-a-eq0 c).After-unsigned_abs-a) ∙ c.if-a-eq0.true)

pub returns-then-farther : goal.returns-then-farther
returns-then-farther c =
    let i = (goal.at.returns-then-farther c).Else-a-eq0 in
    (rw (read c.args.z c.ranges.z.sfits) at c.away_from_zero.ensures)
    ∙ end_away c.args.s c.args.z c.unsigned_abs-a.result (magnitude_is (goal.at.returns-then-farther c).After-unsigned_abs-a) (some i) _ c.args.low refl (search (rules, read c.args.z c.ranges.z.sfits))

pub returns-else-farther : goal.returns-else-farther
returns-else-farther c =
    let i = (goal.at.returns-else-farther c).Else-a-eq0 in
    (rw (read c.args.z c.ranges.z.sfits) at c.toward_zero.ensures)
    ∙ end_toward c.args.s c.args.z c.unsigned_abs-a.result (magnitude_is (goal.at.returns-else-farther c).After-unsigned_abs-a) (some i) _ c.args.low refl (search (rules, read c.args.z c.ranges.z.sfits))
