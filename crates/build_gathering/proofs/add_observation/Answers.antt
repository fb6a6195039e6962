use mathlib.Core.Path.{◌≡◌, refl, sym, ap, ◌∙◌}
use mathlib.Core.Bool.{false}
use Prim.Native.Nat.{◌+◌, min}
use native.Mathlib.Omega.{arith}
use borrow.Author.Tests.{lt-ltb, le-ltb}
use Rattle.std.proofs.Common.{rules}
use Rattle.build_gathering.specs.declared.Progress.{Progress}
use Rattle.build_gathering.specs.Gathered.{together, line_at, with_line, kept, is_refused}
use Rattle.build_gathering.proofs.Adding.{taken_outside, taken_same, taken_clash, taken_again, taken_new, added_done, added_refused}
use Rattle.build_gathering.proofs.Places.{met_some, met_none}
use Rattle.build_gathering.proofs.add_observation.Goals as goal
use Rattle.build_gathering.proofs.add_observation.Goals.{After-min-end, After-is_outside_range}

-- nothing is said yet, and one line more is looked at
going-on : (c : After-is_outside_range) → is_refused c.args.g.status ≡ false
going-on c = sym c.is_err.ensures.value ∙ c.if-is_err.false

looked : (c : After-is_outside_range) → c.min.result + 1 ≡ min (c.args.g.lines + 1) 256
looked c = omega (arith, c.min.ensures)

pub returns-then-is_err : goal.returns-then-is_err
returns-then-is_err c = added_refused _ _ (sym c.is_err.ensures.value ∙ c.if-is_err.true)

pub returns-then-is_outside_range : goal.returns-then-is_outside_range
returns-then-is_outside_range c =
    let o = (goal.at.returns-then-is_outside_range c).After-is_outside_range in
    added_done _ _ (going-on o) (looked o)
    (taken_outside _ _ (sym c.is_outside_range.ensures ∙ c.if-is_outside_range.true) (ap (λ (z : Progress). together z c.args.seen.now) c.refuse.ensures))

pub returns-then-l : goal.returns-then-l
returns-then-l c =
    let o = (goal.at.returns-then-l c).After-is_outside_range in
    added_done _ _ (going-on o) (looked o)
    (taken_same _ _ (sym c.is_outside_range.ensures ∙ c.if-is_outside_range.false) c.if-l.true (ap (λ (z : Progress). together z c.args.seen.now) c.refuse-then-l.ensures))

pub returns-then-has_contents : goal.returns-then-has_contents
unfolding line_at
returns-then-has_contents c =
    let o = (goal.at.returns-then-has_contents c).After-is_outside_range in
    let m = met_some c.args.seen.now c.min-end.result c.args.l.key (search rules) (sym c.met_at.ensures ∙ c.in-Some.is) in
    added_done _ _ (going-on o) (looked o)
    (taken_again _ _ (sym c.is_outside_range.ensures ∙ c.if-is_outside_range.false) c.if-l.false c.min-end.ensures
    m.0 m.1 (sym c.has_contents.ensures ∙ c.if-has_contents.true) refl)

pub returns-in-Some : goal.returns-in-Some
unfolding line_at
returns-in-Some c =
    let o = (goal.at.returns-in-Some c).After-is_outside_range in
    let m = met_some c.args.seen.now c.min-end.result c.args.l.key (search rules) (sym c.met_at.ensures ∙ c.in-Some.is) in
    added_done _ _ (going-on o) (looked o)
    (taken_clash _ _ (sym c.is_outside_range.ensures ∙ c.if-is_outside_range.false) c.if-l.false c.min-end.ensures
    m.0 m.1 (sym c.has_contents.ensures ∙ c.if-has_contents.false) (ap (λ (z : Progress). together z c.args.seen.now) c.refuse-in-Some.ensures))

pub returns-then-end-lt256 : goal.returns-then-end-lt256
returns-then-end-lt256 c =
    let o = (goal.at.returns-then-end-lt256 c).After-is_outside_range in
    let m = met_none c.args.seen.now c.min-end.result c.args.l.key (search rules) (sym c.met_at.ensures ∙ c.in_default.is) in
    added_done _ _ (going-on o) (looked o)
    (taken_new _ _ (sym c.is_outside_range.ensures ∙ c.if-is_outside_range.false) c.if-l.false c.min-end.ensures
    refl m (unfold kept with_line in rw (← c.min-end.ensures, lt-ltb _ 256 c.if-end-lt256.true)))

pub returns-else-end-lt256 : goal.returns-else-end-lt256
returns-else-end-lt256 c =
    let o = (goal.at.returns-else-end-lt256 c).After-is_outside_range in
    let m = met_none c.args.seen.now c.min-end.result c.args.l.key (search rules) (sym c.met_at.ensures ∙ c.in_default.is) in
    added_done _ _ (going-on o) (looked o)
    (taken_new _ _ (sym c.is_outside_range.ensures ∙ c.if-is_outside_range.false) c.if-l.false c.min-end.ensures
    refl m (unfold kept in rw (← c.min-end.ensures, le-ltb _ 256 c.if-end-lt256.false)))
