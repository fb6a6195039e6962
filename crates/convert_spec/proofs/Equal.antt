-- 02, Paper 14, of any complete file and the new file that is written for it: "The old and new file lead to equal checks".
--   natural_weight, used, square, in_range_forms — the numbers that the forms of a state in its ranges give are in their ranges
--   in_range_file — the numbers of a complete file's problem are in their ranges
--   new_complete, new_complete_old — the new file is complete, and so it is for the desk of the old edition
--   new_reading   — the desk of the old edition says of it and holds after it what the loader in force does
--   new_size      — it has at most 21,300 bytes
--   equal_answer, equal_listing — where all tolerances are 0 it has the same answer, and the same listing, byte for byte
--   equal_check, equal_bound, equal_inverse_bound — and the same check: what is said, and every limit
use mathlib.Core.Path.{◌≡◌, refl, sym, ap, subst, ◌∙◌}
use mathlib.Core.Bool.{true}
use mathlib.Core.List.{List}
use Prim.Native.Nat.{ℕ, suc, ◌+◌, ◌*◌, ◌-◌, ◌≤◌, ◌<◌}
use native.Mathlib.Nat.{suc-mul, mul-le-mul_right}
use native.Mathlib.Omega.{arith}
use lib.IntN.{ℤ, pos, nat_abs}
use lib.ListN.{length, get_or}
use Rattle.rules.specs.Range.{ranges, range_of, in_range, all_in_range}
use Rattle.rules.specs.declared.Kind.{Kind}
use Rattle.rules.specs.declared.Kind.TheVariants as kind
use Rattle.rules.proofs.AllInRange.{all_at}
use Rattle.rules.proofs.Ranges.{range_natural}
use Rattle.enclosure.specs.Demand.{NoTolerance}
use Rattle.enclosure.specs.Problem.{Problem}
use Rattle.enclosure.specs.Reckoning.{bound, inverse_bound}
use Rattle.check_spec.specs.Order.{checked_of}
use Rattle.line_form.specs.Form.{Form}
use Rattle.loader_lists.specs.Slot.{Slot, Matrix, Right, Guess, Inverse, Weight, width}
use Rattle.loader_lists.specs.ListOf.{list_of}
use Rattle.loader_runs.specs.Run.{State, forms}
use Rattle.loader_runs.specs.Given.{value_from, size_from}
use Rattle.loader_runs.specs.Holds.{InRange}
use Rattle.loader_runs.specs.Lines.{lines_of}
use Rattle.loader_runs.specs.Read.{reading_of}
use Rattle.loader_runs.proofs.End.{FromForms}
use Rattle.listing_refusal.specs.Refused.{printed}
use Rattle.file_check.specs.Judged.{problem_from, line_or}
use Rattle.listing.specs.Listing.{problem_in, answer_of, listing_of}
use Rattle.listing.specs.Complete.{Complete}
use Rattle.listing.proofs.Entire.{answer_judged, listing_from, from, inside}
use Rattle.convert_spec.specs.Edition.{reading_of_old, CompleteOld}
use Rattle.convert_spec.specs.File.{new_file}
use Rattle.convert_spec.specs.Numbers.{SameNumbers, SameTolerances, NumbersInRange}
use Rattle.convert_spec.proofs.Ends.{file_complete, file_reading, file_complete_old}
use Rattle.convert_spec.proofs.Same.{same_check, same_report, same_bound, same_inverse_bound}
use Rattle.convert_spec.proofs.Size.{old_size}
use Rattle.convert_spec.proofs.Values.{same_file, no_tolerance}

-- a weight in its range is a natural number
natural_weight : (z : ℤ) → in_range kind.Weight z ≡ true → in_range kind.Weight (pos (nat_abs z)) ≡ true
unfolding range_of ranges
natural_weight z h = subst (λ (y : ℤ). in_range kind.Weight y ≡ true) (range_natural kind.Weight 1 z refl h).0 h

-- ---- the numbers of a state are those of its forms
module _ (u : State) (fs : List Form) (h : FromForms fs u) (r : InRange u) where
  abbrev n : ℕ
  n = u.loader.n

  used : (k : Kind) (s : Slot) (m : ℕ) → all_in_range k m (λ (j : ℕ). get_or (list_of s u.lists) j (pos 0)) ≡ true → (i j : ℕ) → i < n → j < width s n → (suc i - 1) * width s n + j < m
      → in_range k (value_from fs s (suc i) j) ≡ true
  used k s m all i j li lj l =
      subst (λ (z : ℤ). in_range k z ≡ true) (h.values s (suc i) j (omega arith) (omega arith) lj)
      (all_at k m (λ (j : ℕ). get_or (list_of s u.lists) j (pos 0)) all ((suc i - 1) * width s n + j) l)

  square : (i j : ℕ) → i < n → j < n → (suc i - 1) * n + j < n * n
  square i j li lj = omega (arith, suc-mul (suc i - 1) n, mul-le-mul_right {m = suc (suc i - 1)} {n = n} n (omega arith))

  below : {i : ℕ} → i < size_from fs → i < n
  below l = rw h.size l

  in_range_forms : NumbersInRange (problem_from fs)
  in_range_forms = record {
    size = subst (λ (m : ℕ). in_range kind.Size (pos m) ≡ true) h.size r.size;
    solution = subst (λ (m : ℕ). in_range kind.SolutionScale (pos m) ≡ true) h.scales.0 r.solution;
    inverse_scale = subst (λ (m : ℕ). in_range kind.InverseScale (pos m) ≡ true) h.scales.1 r.inverse_scale;
    matrix = λ i j li lj. used kind.Matrix Matrix (n * n) r.matrix i j (below li) (below lj) (square i j (below li) (below lj));
    right = λ i li. used kind.Right Right n r.right i 0 (below li) (omega arith) (omega (arith, below li));
    guess = λ i li. used kind.Guess Guess n r.guess i 0 (below li) (omega arith) (omega (arith, below li));
    inverse = λ i j li lj. used kind.Inverse Inverse (n * n) r.inverse i j (below li) (below lj) (square i j (below li) (below lj));
    weights = λ i li. natural_weight _ (used kind.Weight Weight n r.weights i 0 (below li) (omega arith) (omega (arith, below li)));
  }

-- ---- a complete file
module _ (file : List ℕ) (c : Complete file) where
  abbrev P : Problem
  P = problem_in file

  abbrev Q : Problem
  Q = problem_in (new_file file)

  in_range_file : NumbersInRange P
  in_range_file = in_range_forms (reading_of file).state (forms (lines_of file)) (from file c.lines c.end) (inside file c.lines c.end)

  pub new_complete : Complete (new_file file)
  new_complete = file_complete P in_range_file

  pub new_complete_old : CompleteOld (new_file file)
  new_complete_old = file_complete_old P in_range_file

  pub new_reading : reading_of_old (new_file file) ≡ reading_of (new_file file)
  new_reading = file_reading P in_range_file

  pub new_size : length (new_file file) ≤ 21300
  new_size = old_size P in_range_file

  -- ---- without a tolerance
  module _ (none : NoTolerance P) where
    same : SameNumbers Q P
    same = same_file P

    tolerances : SameTolerances Q P
    tolerances i l = no_tolerance P i l ∙ sym (none i (rw same.size at l))

    pub equal_check : checked_of Q ≡ checked_of P
    equal_check = same_check Q P same tolerances

    pub equal_bound : (i : ℕ) → i < Q.n → bound Q i ≡ bound P i
    equal_bound i l = same_bound Q P same tolerances i l

    pub equal_inverse_bound : (i j : ℕ) → i < Q.n → j < Q.n → inverse_bound Q i j ≡ inverse_bound P i j
    equal_inverse_bound i j li lj = same_inverse_bound Q P same tolerances i j li lj

    pub equal_answer : answer_of (new_file file) ≡ answer_of file
    equal_answer =
        answer_judged (new_file file) new_complete.lines new_complete.end
        ∙ ap (printed 0) equal_check
        ∙ sym (answer_judged file c.lines c.end)

    pub equal_listing : listing_of (new_file file) ≡ listing_of file
    equal_listing =
        listing_from (new_file file) equal_answer
        ∙ ap (line_or (answer_of file)) (same_report Q P same tolerances)
        ∙ sym (listing_from file refl)
