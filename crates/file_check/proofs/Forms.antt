-- A file that has come to its end: what the check says of the lists, and what is reported, is what the file's forms give.
--   wide, narrow — the numbers of a matrix list, and of a column list, are those that the forms give
--   checked_forms, reported_forms — what the reckoning says of the lists, and the report, are those of the problem that the forms give
--   n_pos, fine, heavy — n is above 0, t at most 20, every weight at least 1
--   answer_forms — no complete file gives 3, and its check says what the reckoning says
use mathlib.Core.Path.{◌≡◌, refl, sym, ap, ◌∙◌, subst}
use mathlib.Core.Bool.{false}
use mathlib.Core.List.{List}
use Prim.Native.Nat.{ℕ, suc, ◌+◌, ◌*◌, ◌-◌, ◌≤◌, ◌<◌}
use native.Mathlib.Omega.{arith}
use lib.IntN.{pos, nat_abs}
use lib.ListN.{get_or, replicate}
use Rattle.rules.specs.declared.Kind.TheVariants as kind
use Rattle.rules.proofs.AllInRange.{all_at}
use Rattle.rules.proofs.Ranges.{size_range, inverse_scale_range, weight_range}
use Rattle.linear.specs.Slice.{at}
use Rattle.enclosure.specs.Problem.{Problem}
use Rattle.enclosure.proofs.Agreement.{Agreeing}
use Rattle.check_spec.specs.Input.{problem, short}
use Rattle.check_spec.specs.Order.{answer, checked_of}
use Rattle.check_spec.proofs.Contract.{answer_ready}
use Rattle.line_form.specs.Form.{Form}
use Rattle.loader_lists.specs.Slot.{Slot, Matrix, Right, Tolerance, Guess, Inverse, Weight, width}
use Rattle.loader_lists.specs.ListOf.{list_of}
use Rattle.loader_runs.specs.Run.{State}
use Rattle.loader_runs.specs.Given.{value_from}
use Rattle.loader_runs.specs.Holds.{InRange}
use Rattle.loader_runs.proofs.Check.{inside}
use Rattle.loader_runs.proofs.End.{FromForms}
use Rattle.file_check.specs.Judged.{problem_from, reported_of}
use Rattle.file_check.specs.Shown.{input_at}
use Rattle.check_spec.proofs.Agreement.{checked_same}
use Rattle.file_check.proofs.Agreed.{reported_same}

module _ (u : State) (fs : List Form) (from : FromForms fs u) where
  abbrev n : ℕ
  n = u.loader.n

  pub wide : (s : Slot) → width s n ≡ n → (i j : ℕ) → i < n → j < n → get_or (list_of s u.lists) (i * n + j) (pos 0) ≡ value_from fs s (suc i) j
  wide s w i j li lj =
      let place : (suc i - 1) * width s n + j ≡ i * n + j = let f : suc i - 1 ≡ i = omega arith in rw (w, f) in
      subst (λ (k : ℕ). get_or (list_of s u.lists) k (pos 0) ≡ value_from fs s (suc i) j) place (from.values s (suc i) j (omega arith) (omega arith) (rw w lj))

  pub narrow : (s : Slot) → width s n ≡ 1 → (i : ℕ) → i < n → get_or (list_of s u.lists) i (pos 0) ≡ value_from fs s (suc i) 0
  narrow s w i li =
      let place : (suc i - 1) * width s n + 0 ≡ i = rw w (omega arith) in
      subst (λ (k : ℕ). get_or (list_of s u.lists) k (pos 0) ≡ value_from fs s (suc i) 0) place (from.values s (suc i) 0 (omega arith) (omega arith) (rw w (omega arith)))

  -- the problem that the forms give, with the loader's n, s and t
  abbrev given : Problem
  given = record {
    n = n;
    s = u.loader.s;
    t = u.loader.t;
    A = λ (i j : ℕ). value_from fs Matrix (suc i) j;
    b = λ (i : ℕ). value_from fs Right (suc i) 0;
    d = λ (i : ℕ). nat_abs (value_from fs Tolerance (suc i) 0);
    X = λ (i : ℕ). value_from fs Guess (suc i) 0;
    G = λ (i j : ℕ). value_from fs Inverse (suc i) j;
    w = λ (i : ℕ). nat_abs (value_from fs Weight (suc i) 0);
  }

  given_is : given ≡ problem_from fs
  given_is = rw (from.size, from.scales.0, from.scales.1)

  agreeing : Agreeing (problem (input_at u)) given
  agreeing = record {
    matrix = wide Matrix refl;
    right = narrow Right refl;
    tolerance = λ i l. ap nat_abs (narrow Tolerance refl i l);
    guess = narrow Guess refl;
    inverse = wide Inverse refl;
    weights = λ i l. ap nat_abs (narrow Weight refl i l);
  }

  -- what the theorems of the enclosure ask of the problem
  module _ (h : InRange u) where
    pub n_pos : 0 < (problem_from fs).n
    n_pos = rw (sym from.size) (size_range n h.size).0

    pub fine : (problem_from fs).t ≤ 20
    fine = rw (sym from.scales.1) (inverse_scale_range u.loader.t h.inverse_scale)

    pub heavy : (i : ℕ) → i < (problem_from fs).n → 1 ≤ (problem_from fs).w i
    heavy i l =
        let k : i < n = rw from.size l in
        rw (sym (narrow Weight refl i k)) (weight_range (at u.lists.weights i) (all_at kind.Weight n (at u.lists.weights) h.weights i k)).0

  pub checked_forms : checked_of (problem (input_at u)) ≡ checked_of (problem_from fs)
  checked_forms = checked_same (problem (input_at u)) given agreeing ∙ ap checked_of given_is

  pub reported_forms : reported_of (problem (input_at u)) ≡ reported_of (problem_from fs)
  reported_forms = reported_same (problem (input_at u)) given agreeing ∙ ap reported_of given_is

  pub answer_forms : InRange u → short (input_at u) ≡ false → answer (input_at u) ≡ checked_of (problem_from fs)
  answer_forms h long = answer_ready (input_at u) long (inside u (replicate 32 0) (replicate 1024 0) h) ∙ checked_forms
