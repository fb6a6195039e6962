use mathlib.Core.Path.{◌≡◌, sym}
use native.Mathlib.Omega.{arith}
use Rattle.std.proofs.Common.{Some, None}
use Rattle.std.proofs.lemmas.Result.{err_from_is_err_and}
use Rattle.weights_spec.specs.declared.SearchRefusal.TheVariants.{NoneGood}
use Rattle.weights_spec.specs.Request.{Request, request, search_problem}
use Rattle.weights_spec.proofs.Contract.{FitRequest, fit_request, found_list, found_none}
use Rattle.weights_steps.proofs.Stored.{below_of}
use Rattle.weights_search.proofs.find_ready.Goals as goal
use Rattle.weights_search.proofs.find_ready.Goals.{Start}

abbrev Q : Start → Request
Q s = let a = s.args in request a.n a.t a.matrix.now a.inverse.now a.allowance a.weights.now

fit : (s : Start) → FitRequest (Q s)
fit s = fit_request (Q s) s.requires.weights_value s.requires.weights_value_2

pub search-requires-clause-t_bound : goal.search-requires-clause-t_bound
search-requires-clause-t_bound c = let f = fit c in (f.scale, f.n_max)

pub search-requires-clause-matrix_list : goal.search-requires-clause-matrix_list
search-requires-clause-matrix_list c = let f = fit c in (f.matrix, f.inverse)

pub returns-in_err-found : goal.returns-in_err-found
returns-in_err-found c =
    let s = (goal.at.returns-in_err-found c).Start in
    let none : c.search.result ≡ None = grind arith in
    let e = c.search.ensures.none none in
    let p = err_from_is_err_and c.from_residual.result c.from_residual.ensures.1 in
    let why : c.in_err-found.field-0.0 ≡ NoneGood = grind arith in
    rw (p.1, p.2, why) (found_none (Q s) s.requires.weights_value s.requires.weights_value_2 s.args.allowance (sym e) (omega arith))

pub write_weights-requires-clause-n_bound : goal.write_weights-requires-clause-n_bound
write_weights-requires-clause-n_bound c = let f = fit (goal.at.write_weights-requires-clause-n_bound c).Start in (f.n_max, f.long)

pub write_weights-requires-clause-below : goal.write_weights-requires-clause-below
write_weights-requires-clause-below c =
    let some : c.search.result ≡ Some c.in_ok-found.found = grind arith in
    below_of (search_problem (Q (goal.at.write_weights-requires-clause-below c).Start)) _ (c.search.ensures.found _ some).list

pub overflow_add-result : goal.overflow_add-result
overflow_add-result c =
    let some : c.search.result ≡ Some c.in_ok-found.found = grind arith in
    record { fits = omega (arith, (c.search.ensures.found _ some).allowed, c.ranges.allowance.fits) }

pub returns : goal.returns
returns c =
    let s = (goal.at.returns c).Start in
    let some : c.search.result ≡ Some c.in_ok-found.found = grind arith in
    let f = c.search.ensures.found _ some in
    found_list (Q s) s.requires.weights_value s.requires.weights_value_2 _ f.place f.allowed f.list c.write_weights.ensures
