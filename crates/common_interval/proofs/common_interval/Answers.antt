use Rattle.std.proofs.Common.{◌≡◌, ◌∙◌, sym, [], true, false, rules}
use Rattle.std.proofs.lemmas.Result.{err_from_is_err_and}
use Rattle.check_spec.specs.Order.{answer}
use Rattle.check_held.proofs.Refused.{held_accepted, held_refused}
use Rattle.common_spec.specs.declared.CommonRefusal.TheVariants.{First, Second}
use Rattle.common_spec.specs.Proposals.{Proposals, proposal, proposals, short_intervals, same_equations}
use Rattle.common_spec.proofs.Contract.{common_short, common_first, common_second, common_different}
use Rattle.common_interval.proofs.Meeting.{short_low, short_high, long_both, code_refused, code_accepted, equations_ready, meeting_ready, common_met}
use Rattle.common_interval.proofs.common_interval.Goals as goal
use Rattle.common_interval.proofs.common_interval.Goals.{Else-high-lt-COLUMN_LENGTH, Else-not-are_equations_same, In_ok-map_err, In_ok-map_err-2, Start, then-low-lt-COLUMN_LENGTH-via-then-low-lt-COLUMN_LENGTH, then-low-lt-COLUMN_LENGTH-via-else-low-lt-COLUMN_LENGTH+then-high-lt-COLUMN_LENGTH}

abbrev Q : Start → Proposals
Q s =
    let a = s.args in
    proposals
    (proposal a.n1 a.s1 a.t1 a.matrix1.now a.right1.now a.tolerance1.now a.guess1.now a.inverse1.now a.weights1.now)
    (proposal a.n2 a.s2 a.t2 a.matrix2.now a.right2.now a.tolerance2.now a.guess2.now a.inverse2.now a.weights2.now)
    a.low.now a.high.now

-- what the tests showed
long : (c : Else-high-lt-COLUMN_LENGTH) → short_intervals (Q (goal.at.Else-high-lt-COLUMN_LENGTH c).Start) ≡ false
long c = long_both (Q (goal.at.Else-high-lt-COLUMN_LENGTH c).Start) c.if-low-lt-COLUMN_LENGTH.false c.if-high-lt-COLUMN_LENGTH.false

first_code : (c : In_ok-map_err) → answer (Q (goal.at.In_ok-map_err c).Start).first ≡ []
first_code c = code_accepted (Q (goal.at.In_ok-map_err c).Start).first _ c.check_held-first.ensures (held_accepted _ c.in_ok-map_err.ensures.variant)

second_code : (c : In_ok-map_err-2) → answer (Q (goal.at.In_ok-map_err-2 c).Start).second ≡ []
second_code c = code_accepted (Q (goal.at.In_ok-map_err-2 c).Start).second _ c.check_held-second.ensures (held_accepted _ c.in_ok-map_err-2.ensures.variant)

same : (c : Else-not-are_equations_same) → same_equations (Q (goal.at.Else-not-are_equations_same c).Start).first (Q (goal.at.Else-not-are_equations_same c).Start).second ≡ true
same c = sym c.are_equations_same.ensures ∙ c.if-not-are_equations_same.false

pub returns-then-low-lt-COLUMN_LENGTH : goal.returns-then-low-lt-COLUMN_LENGTH
returns-then-low-lt-COLUMN_LENGTH c =
    let q = Q (goal.at.returns-then-low-lt-COLUMN_LENGTH c).Start in
    elim c.then-low-lt-COLUMN_LENGTH.branch [
      | then-low-lt-COLUMN_LENGTH-via-then-low-lt-COLUMN_LENGTH w ↦ common_short q (short_low q w.if-low-lt-COLUMN_LENGTH.true)
      | then-low-lt-COLUMN_LENGTH-via-else-low-lt-COLUMN_LENGTH+then-high-lt-COLUMN_LENGTH w ↦
          common_short q (short_high q w.if-low-lt-COLUMN_LENGTH.false w.if-high-lt-COLUMN_LENGTH.true)
    ]

pub returns-in_err-map_err : goal.returns-in_err-map_err
returns-in_err-map_err c =
    let q = Q (goal.at.returns-in_err-map_err c).Start in
    let p = err_from_is_err_and c.from_residual.result c.from_residual.ensures.1 in
    let w = held_refused _ c.check_held-first.result.outcome c.map_err.result c.map_err.ensures.cases c.in_err-map_err.was in
    let m : c.in_err-map_err.field-0.0 ≡ First w.0 = search (rules, w.2) in
    rw (p.1, p.2, m) (common_first q (long (goal.at.returns-in_err-map_err c).Else-high-lt-COLUMN_LENGTH) _ (code_refused q.first _ c.check_held-first.ensures _ w.1))

pub returns-in_err-map_err-2 : goal.returns-in_err-map_err-2
returns-in_err-map_err-2 c =
    let q = Q (goal.at.returns-in_err-map_err-2 c).Start in
    let p = err_from_is_err_and c.from_residual-in_err-map_err-2.result c.from_residual-in_err-map_err-2.ensures.1 in
    let w = held_refused _ c.check_held-second.result.outcome c.map_err-2.result c.map_err-2.ensures.cases c.in_err-map_err-2.was in
    let m : c.in_err-map_err-2.field-0.0 ≡ Second w.0 = search (rules, w.2) in
    rw (p.1, p.2, m)
    (common_second q (long (goal.at.returns-in_err-map_err-2 c).Else-high-lt-COLUMN_LENGTH) (first_code (goal.at.returns-in_err-map_err-2 c).In_ok-map_err) _ (code_refused q.second _ c.check_held-second.ensures _ w.1))

pub returns-then-not-are_equations_same : goal.returns-then-not-are_equations_same
returns-then-not-are_equations_same c =
    let b = (goal.at.returns-then-not-are_equations_same c).In_ok-map_err-2 in
    common_different (Q (goal.at.returns-then-not-are_equations_same c).Start) (long (goal.at.returns-then-not-are_equations_same c).Else-high-lt-COLUMN_LENGTH)
    (first_code (goal.at.returns-then-not-are_equations_same c).In_ok-map_err) (second_code b)
    (sym c.are_equations_same.ensures ∙ c.if-not-are_equations_same.true)

pub are_equations_same-requires-clause-n1_bound : goal.are_equations_same-requires-clause-n1_bound
are_equations_same-requires-clause-n1_bound c =
    let q = Q (goal.at.are_equations_same-requires-clause-n1_bound c).Start in
    (equations_ready q.first q.second (first_code (goal.at.are_equations_same-requires-clause-n1_bound c).In_ok-map_err) (second_code (goal.at.are_equations_same-requires-clause-n1_bound c).In_ok-map_err-2)).0

pub are_equations_same-requires-clause-in_bounds : goal.are_equations_same-requires-clause-in_bounds
are_equations_same-requires-clause-in_bounds c =
    let q = Q (goal.at.are_equations_same-requires-clause-in_bounds c).Start in
    (equations_ready q.first q.second (first_code (goal.at.are_equations_same-requires-clause-in_bounds c).In_ok-map_err) (second_code (goal.at.are_equations_same-requires-clause-in_bounds c).In_ok-map_err-2)).1.0

pub are_equations_same-requires-clause-in_bounds_2 : goal.are_equations_same-requires-clause-in_bounds_2
are_equations_same-requires-clause-in_bounds_2 c =
    let q = Q (goal.at.are_equations_same-requires-clause-in_bounds_2 c).Start in
    (equations_ready q.first q.second (first_code (goal.at.are_equations_same-requires-clause-in_bounds_2 c).In_ok-map_err) (second_code (goal.at.are_equations_same-requires-clause-in_bounds_2 c).In_ok-map_err-2)).1.1

pub meet-requires-clause-n_bound : goal.meet-requires-clause-n_bound
meet-requires-clause-n_bound c =
    let e = (goal.at.meet-requires-clause-n_bound c).Else-not-are_equations_same in
    (meeting_ready (Q (goal.at.meet-requires-clause-n_bound c).Start) (long (goal.at.meet-requires-clause-n_bound c).Else-high-lt-COLUMN_LENGTH) (first_code (goal.at.meet-requires-clause-n_bound c).In_ok-map_err) (second_code (goal.at.meet-requires-clause-n_bound c).In_ok-map_err-2) (same e)).0

pub meet-requires-clause-s1_bound : goal.meet-requires-clause-s1_bound
meet-requires-clause-s1_bound c =
    let e = (goal.at.meet-requires-clause-s1_bound c).Else-not-are_equations_same in
    (meeting_ready (Q (goal.at.meet-requires-clause-s1_bound c).Start) (long (goal.at.meet-requires-clause-s1_bound c).Else-high-lt-COLUMN_LENGTH) (first_code (goal.at.meet-requires-clause-s1_bound c).In_ok-map_err) (second_code (goal.at.meet-requires-clause-s1_bound c).In_ok-map_err-2) (same e)).1

pub returns : goal.returns
returns c =
    let e = (goal.at.returns c).Else-not-are_equations_same in
    common_met (Q (goal.at.returns c).Start) _ _ c.check_held-first.ensures c.check_held-second.ensures (long (goal.at.returns c).Else-high-lt-COLUMN_LENGTH) (first_code (goal.at.returns c).In_ok-map_err) (second_code (goal.at.returns c).In_ok-map_err-2) (same e) c.meet.ensures
