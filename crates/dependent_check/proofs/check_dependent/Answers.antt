use Rattle.std.proofs.Common.{◌≡◌, ◌≤◌, Ok, rules, arith}
use Rattle.std.proofs.lemmas.Result.{err_from_is_err_and}
use Rattle.linear.proofs.Places.{square}
use Rattle.check_spec.specs.Input.{input}
use Rattle.dependent_spec.specs.Nets.{Nets, nets}
use Rattle.dependent_spec.specs.declared.NetsRefusal.TheVariants.{Main, Dependent}
use Rattle.check_held.proofs.Refused.{held_accepted, held_refused}
use Rattle.dependent_check.proofs.Held.{short_solution, short_inverse, main_refused, marks_few, guess_known, limits_long, inverse_long, dependent_refused, both_accepted}
use Rattle.dependent_check.proofs.check_dependent.Goals as goal
use Rattle.dependent_check.proofs.check_dependent.Goals.{Start, In_ok-map_err, then-solution_bounds1-lt-COLUMN_LENGTH-via-then-solution_bounds1-lt-COLUMN_LENGTH, then-solution_bounds1-lt-COLUMN_LENGTH-via-else-solution_bounds1-lt-COLUMN_LENGTH+then-inverse_bounds1-lt-MATRIX_LENGTH}

abbrev J : Start → Nets
J s =
    let a = s.args in
    nets
    (input a.n1 a.s1 a.t1 a.matrix1.now a.right1.now a.tolerance1.now a.guess1.now a.inverse1.now a.weights1.now a.solution_bounds1.now a.inverse_bounds1.now)
    (input a.n2 a.s2 a.t2 a.matrix2.now a.right2.now a.tolerance2.now a.guess2.now a.inverse2.now a.weights2.now a.solution_bounds2.now a.inverse_bounds2.now)
    a.coupling.now

pub returns-then-solution_bounds1-lt-COLUMN_LENGTH : goal.returns-then-solution_bounds1-lt-COLUMN_LENGTH
returns-then-solution_bounds1-lt-COLUMN_LENGTH c =
    let j = J (goal.at.returns-then-solution_bounds1-lt-COLUMN_LENGTH c).Start in
    elim c.then-solution_bounds1-lt-COLUMN_LENGTH.branch [
      | then-solution_bounds1-lt-COLUMN_LENGTH-via-then-solution_bounds1-lt-COLUMN_LENGTH w ↦ short_solution j w.if-solution_bounds1-lt-COLUMN_LENGTH.true
      | then-solution_bounds1-lt-COLUMN_LENGTH-via-else-solution_bounds1-lt-COLUMN_LENGTH+then-inverse_bounds1-lt-MATRIX_LENGTH w ↦
          short_inverse j w.if-inverse_bounds1-lt-MATRIX_LENGTH.true
    ]

module _ (c : In_ok-map_err) where
  abbrev j : Nets
  j = J (goal.at.In_ok-map_err c).Start

  main_in : c.check_held-main.result.outcome ≡ Ok tt
  main_in = held_accepted _ c.in_ok-map_err.ensures.variant

  few : c.args.n1 ≤ 32
  few = marks_few j c.if-solution_bounds1-lt-COLUMN_LENGTH.false c.if-inverse_bounds1-lt-MATRIX_LENGTH.false c.check_held-main.ensures main_in

pub returns-in_err-map_err : goal.returns-in_err-map_err
returns-in_err-map_err c =
    let p = err_from_is_err_and c.from_residual.result c.from_residual.ensures.1 in
    let w = held_refused _ c.check_held-main.result.outcome c.map_err.result c.map_err.ensures.cases c.in_err-map_err.was in
    let m : c.in_err-map_err.field-0.0 ≡ Main w.0 = search (rules, w.2) in
    rw (p.1, p.2, m) (main_refused (J (goal.at.returns-in_err-map_err c).Start) c.if-solution_bounds1-lt-COLUMN_LENGTH.false c.if-inverse_bounds1-lt-MATRIX_LENGTH.false c.check_held-main.ensures w.0 w.1)

pub returns-in_err-map_err-2 : goal.returns-in_err-map_err-2
returns-in_err-map_err-2 c =
    let a = (goal.at.returns-in_err-map_err-2 c).In_ok-map_err in
    let p = err_from_is_err_and c.from_residual-in_err-map_err-2.result c.from_residual-in_err-map_err-2.ensures.1 in
    let w = held_refused _ c.check_dependent_net.result c.map_err-2.result c.map_err-2.ensures.cases c.in_err-map_err-2.was in
    let m : c.in_err-map_err-2.field-0.0 ≡ Dependent w.0 = search (rules, w.2) in
    rw (p.1, p.2, m) (dependent_refused (j a) a.if-solution_bounds1-lt-COLUMN_LENGTH.false a.if-inverse_bounds1-lt-MATRIX_LENGTH.false a.check_held-main.ensures (main_in a) c.check_dependent_net.ensures w.0 w.1)

pub check_dependent_net-requires-clause-marks_bound : goal.check_dependent_net-requires-clause-marks_bound
check_dependent_net-requires-clause-marks_bound c = few (goal.at.check_dependent_net-requires-clause-marks_bound c).In_ok-map_err

pub check_dependent_net-requires-clause-column_list : goal.check_dependent_net-requires-clause-column_list
check_dependent_net-requires-clause-column_list c =
    let a = (goal.at.check_dependent_net-requires-clause-column_list c).In_ok-map_err in
    guess_known (j a) a.if-solution_bounds1-lt-COLUMN_LENGTH.false a.if-inverse_bounds1-lt-MATRIX_LENGTH.false a.check_held-main.ensures (main_in a)

pub copy_limits-requires : goal.copy_limits-requires
copy_limits-requires c =
    let a = (goal.at.copy_limits-requires c).In_ok-map_err in
    let long = limits_long (j a) a.if-solution_bounds1-lt-COLUMN_LENGTH.false a.if-inverse_bounds1-lt-MATRIX_LENGTH.false a.check_held-main.ensures (main_in a) in
    (omega (arith, few a, long), omega (arith, few a, c.if-solution_bounds1-lt-COLUMN_LENGTH.false))

pub copy_limits-requires-2 : goal.copy_limits-requires-2
copy_limits-requires-2 c =
    let a = (goal.at.copy_limits-requires-2 c).In_ok-map_err in
    let long = inverse_long (j a) a.if-solution_bounds1-lt-COLUMN_LENGTH.false a.if-inverse_bounds1-lt-MATRIX_LENGTH.false a.check_held-main.ensures (main_in a) in
    (omega (arith, square (few a), long), omega (arith, square (few a), c.if-inverse_bounds1-lt-MATRIX_LENGTH.false))

pub returns : goal.returns
returns c =
    let a = (goal.at.returns c).In_ok-map_err in
    both_accepted (j a) a.if-solution_bounds1-lt-COLUMN_LENGTH.false a.if-inverse_bounds1-lt-MATRIX_LENGTH.false a.check_held-main.ensures (main_in a)
    c.check_dependent_net.ensures (held_accepted _ c.in_ok-map_err-2.ensures.variant) c.copy_limits.ensures c.copy_limits-2.ensures
