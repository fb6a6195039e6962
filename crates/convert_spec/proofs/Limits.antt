-- What an office on the old edition finds with a new file: "An office that works by 01's rules .. finds the same limits" (docs/FORMAT.md).
--   held_numbers, held_tolerances — the numbers that a state hands to a check are those of its forms
--   numbers_through — equal numbers, by way of a third problem
--   same_limits — 01's own check of what the desk of 01 holds after the new file
use mathlib.Core.Path.{◌≡◌, refl, sym, ap, ◌∙◌}
use mathlib.Core.Bool.{false}
use mathlib.Core.List.{List, []}
use Prim.Native.Nat.{ℕ, ◌+◌, ◌*◌, ◌≤◌, ◌<◌}
use native.Mathlib.Omega.{arith}
use lib.IntN.{nat_abs}
use lib.ListN.{length, get_or}
use Rattle.linear.proofs.Places.{square}
use Rattle.rules.proofs.Ranges.{size_range}
use Rattle.enclosure.specs.Demand.{NoTolerance}
use Rattle.enclosure.specs.Problem.{Problem}
use Rattle.enclosure.specs.Reckoning.{bound, inverse_bound}
use Rattle.check_spec.specs.Before.{answer01, solution_after01, inverse_after01}
use Rattle.check_spec.specs.Input.{Input, problem}
use Rattle.check_spec.specs.Order.{checked_of}
use Rattle.check_spec.proofs.Contract.{answer_ready}
use Rattle.check_spec.proofs.Limits01.{accepted_01, bound_01, inverse_bound_01}
use Rattle.line_form.specs.Form.{Form}
use Rattle.loader_lists.specs.Lists.{short_lists}
use Rattle.loader_lists.specs.Slot.{Matrix, Right, Tolerance, Guess, Inverse, Weight}
use Rattle.loader_lists.proofs.Lists.{long_lent}
use Rattle.loader_runs.specs.Holds.{input_of, InRange}
use Rattle.loader_runs.specs.Lines.{lines_of}
use Rattle.loader_runs.specs.Read.{zeros, reading_of}
use Rattle.loader_runs.specs.Run.{State, from_new, forms}
use Rattle.loader_runs.proofs.Check.{run_long, enough, inside}
use Rattle.loader_runs.proofs.End.{FromForms}
use Rattle.loader_runs.proofs.Whole.{all_run}
use Rattle.file_check.specs.Judged.{problem_from}
use Rattle.file_check.specs.Shown.{input_at}
use Rattle.file_check.proofs.Forms.{wide, narrow}
use Rattle.listing.specs.Listing.{problem_in}
use Rattle.listing.specs.Complete.{Complete}
use Rattle.listing.proofs.Demand.{accepted_parts}
use Rattle.listing.proofs.Entire as entire
use Rattle.convert_spec.specs.File.{new_file}
use Rattle.convert_spec.specs.Numbers.{SameNumbers, SameTolerances}
use Rattle.convert_spec.specs.Promised.{SameLimits}
use Rattle.convert_spec.proofs.Equal.{new_complete, new_reading}
use Rattle.convert_spec.proofs.Same.{same_check, same_bound, same_inverse_bound}
use Rattle.convert_spec.proofs.Values.{same_file, no_tolerance}

module _ (u : State) (fs : List Form) (h : FromForms fs u) where
  pub held_numbers : SameNumbers (problem (input_at u)) (problem_from fs)
  held_numbers = record {
    size = h.size;
    solution = h.scales.0;
    inverse_scale = h.scales.1;
    matrix = wide u fs h Matrix refl;
    right = narrow u fs h Right refl;
    guess = narrow u fs h Guess refl;
    inverse = wide u fs h Inverse refl;
    weights = λ i l. ap nat_abs (narrow u fs h Weight refl i l);
  }

  pub held_tolerances : SameTolerances (problem (input_at u)) (problem_from fs)
  held_tolerances i l = ap nat_abs (narrow u fs h Tolerance refl i l)

numbers_through : {P Q R : Problem} → SameNumbers P Q → SameNumbers Q R → SameNumbers P R
numbers_through a b = record {
  size = a.size ∙ b.size;
  solution = a.solution ∙ b.solution;
  inverse_scale = a.inverse_scale ∙ b.inverse_scale;
  matrix = λ i j li lj. a.matrix i j li lj ∙ b.matrix i j (rw a.size at li) (rw a.size at lj);
  right = λ i l. a.right i l ∙ b.right i (rw a.size at l);
  guess = λ i l. a.guess i l ∙ b.guess i (rw a.size at l);
  inverse = λ i j li lj. a.inverse i j li lj ∙ b.inverse i j (rw a.size at li) (rw a.size at lj);
  weights = λ i l. a.weights i l ∙ b.weights i (rw a.size at l);
}

-- ---- a state in its ranges that holds the numbers of P, which has no tolerance
module _ (u : State) (P : Problem) (same : SameNumbers (problem (input_at u)) P) (untolerant : NoTolerance P) (none : NoTolerance (problem (input_at u))) (r : InRange u)
    (lists : short_lists u.lists ≡ false) (E L : List ℕ) (n_max : 32 ≤ length E) (many : 1024 ≤ length L) where
  abbrev I : Input
  I = input_of u E L

  tolerances : SameTolerances (problem I) P
  tolerances i l = none i l ∙ sym (untolerant i (rw same.size at l))

  small : u.loader.n ≤ 32
  small = (size_range u.loader.n r.size).1

  accepts_here : checked_of P ≡ [] → answer01 I ≡ []
  accepts_here e =
      accepted_01 I (long_lent u.lists lists).tolerance none (answer_ready I (enough u E L lists n_max many) (inside u E L r) ∙ same_check (problem I) P same tolerances ∙ e)

  module _ (e : answer01 I ≡ []) where
    bound_here : (i : ℕ) → i < P.n → get_or (solution_after01 I) i 0 ≡ bound P i
    bound_here i l =
        let m : i < u.loader.n = rw same.size l in
        bound_01 I (long_lent u.lists lists).tolerance none e (omega (arith, small)) i m ∙ same_bound (problem I) P same tolerances i m

    inverse_bound_here : (i j : ℕ) → i < P.n → j < P.n → get_or (inverse_after01 I) (i * P.n + j) 0 ≡ inverse_bound P i j
    inverse_bound_here i j li lj =
        let m : i < u.loader.n = rw same.size li in
        let k : j < u.loader.n = rw same.size lj in
        ap (λ (n : ℕ). get_or (inverse_after01 I) (i * n + j) 0) (sym same.size)
        ∙ inverse_bound_01 I (long_lent u.lists lists).tolerance none e (omega (arith, square small)) i j m k
        ∙ same_inverse_bound (problem I) P same tolerances i j m k

-- ---- the new file of a complete file without tolerance
module _ (file : List ℕ) (c : Complete file) (z : NoTolerance (problem_in file)) (E L : List ℕ) (n_max : 32 ≤ length E) (many : 1024 ≤ length L) where
  abbrev P : Problem
  P = problem_in file

  abbrev u : State
  u = (reading_of (new_file file)).state

  done : Complete (new_file file)
  done = new_complete file c

  given : FromForms (forms (lines_of (new_file file))) u
  given = entire.from (new_file file) done.lines done.end

  same : SameNumbers (problem (input_at u)) P
  same = numbers_through (held_numbers u (forms (lines_of (new_file file))) given) (same_file P)

  none : NoTolerance (problem (input_at u))
  none i l = held_tolerances u (forms (lines_of (new_file file))) given i l ∙ no_tolerance P i (rw given.size at l)

  ready : InRange u
  ready = entire.inside (new_file file) done.lines done.end

  lists : short_lists u.lists ≡ false
  lists =
      rw (all_run 0 (from_new zeros) (lines_of (new_file file)) done.lines)
      (run_long (from_new zeros) (lines_of (new_file file)) (entire.accepts (new_file file) done.lines) entire.zeros_long)

  pub same_limits : SameLimits file (new_file file) E L
  same_limits = record {
    numbers = rw (new_reading file c) same;
    accepts = λ e. rw (new_reading file c) (accepts_here u P same z none ready lists E L n_max many (accepted_parts file e).quiet);
    bounds = rw (new_reading file c) (bound_here u P same z none ready lists E L n_max many);
    inverse_bounds = rw (new_reading file c) (inverse_bound_here u P same z none ready lists E L n_max many);
  }
