-- What the forms of a problem give is the problem, but for its tolerances, which they do not have.
--   value_own, value_else — the numbers of a list, from the forms of its own part, and from what follows the forms of another part
--   value_parts  — from the forms of parts, where that of the list is one of them
--   value_from_lem   — the numbers of every list, from the forms of a problem
--   forms_of     — the forms of a problem's file
--   size_of_old, same_forms, same_file — the problem that the forms, or the file, of P give has the numbers of P;  no_tolerance — and no tolerance
use mathlib.Core.Path.{◌≡◌, refl, sym, ap, subst, ◌∙◌}
use mathlib.Core.Bool.{Bool, true, false, cond}
use mathlib.Core.List.{List, [], ◌∷◌}
use Prim.Native.Nat.{ℕ, zero, suc, ◌+◌, ◌≤◌, ◌<◌}
use native.Mathlib.Decide.{ℕ_discrete}
use native.Mathlib.Omega.{arith}
use borrow.Author.Tests.{eq-eqb, ne_eqb, eqb-true, eqb-false}
use lib.Dec.{eqb}
use lib.IntN.{pos, nat_abs}
use lib.ListN.{get_or}
use Rattle.rules.proofs.Ranges.{both}
use Rattle.enclosure.specs.Demand.{NoTolerance}
use Rattle.enclosure.specs.Problem.{Problem}
use Rattle.line_form.specs.Form.{Form, end}
use Rattle.loader_values.specs.Item.{item_of, part_index}
use Rattle.loader_values.specs.declared.Part.{Part}
use Rattle.loader_values.proofs.Capped.{part_same}
use Rattle.loader_lists.specs.Slot.{Slot, Matrix, Right, Tolerance, Guess, Inverse, Weight, part_of, values_for}
use Rattle.loader_progress.specs.Progress.{total_over}
use Rattle.loader_progress.specs.Ungiven.{parts}
use Rattle.loader_runs.specs.Given.{is_of, value_from, size_from, scales_from}
use Rattle.loader_runs.specs.Lines.{lines_of}
use Rattle.loader_runs.specs.Run.{forms}
use Rattle.loader_runs.proofs.Marks.{hits, once}
use Rattle.loader_runs.proofs.Passing.{forms_spelled}
use Rattle.loader_spelled.proofs.Text.{lines_of_lem}
use Rattle.file_check.specs.Judged.{problem_from}
use Rattle.listing.specs.Listing.{problem_in}
use Rattle.convert_spec.specs.File.{form_for, rising, parts_then, old_forms, old_file}
use Rattle.convert_spec.specs.Numbers.{SameNumbers}
use Rattle.convert_spec.proofs.Numbers.{item_for, row_at}

-- ---- the forms of the part of the list s, by rising i, before others
module _ (P : Problem) (q : Part) (rest : List Form) (j : ℕ) where
  abbrev f : ℕ → Form
  f = form_for P q

  value_own : (s : Slot) → part_of s ≡ q → (c i m : ℕ) → i ≤ m → m < i + c → value_from (rising f i c rest) s (suc m) j ≡ get_or (values_for s (f m)) j (pos 0)
  unfolding rising value_from
  value_own s o zero i m l h = absurd (omega arith)
  value_own s o (suc c) i m l h = go (ℕ_discrete m i) (λ k. value_own s o c (suc i) m k (omega arith))
    where
      go : Dec (m ≡ i) → (suc i ≤ m → value_from (rising f (suc i) c rest) s (suc m) j ≡ get_or (values_for s (f m)) j (pos 0)) → value_from (rising f i (suc c) rest) s (suc m) j ≡ get_or (values_for s (f m)) j (pos 0)
      go (yes e) later =
          let t : is_of (part_of s) (suc m) (item_of (f i)) ≡ true = rw (item_for P q i) (both (eq-eqb (part_index (part_of s)) (part_index q) (ap part_index o)) (eq-eqb (suc m) (suc i) (ap suc e))) in
          rw t (ap (λ (k : ℕ). get_or (values_for s (f k)) j (pos 0)) (sym e))
      go (no e) later =
          let t : is_of (part_of s) (suc m) (item_of (f i)) ≡ false = rw (item_for P q i, eq-eqb (part_index (part_of s)) (part_index q) (ap part_index o), ne_eqb (suc m) (suc i) (λ q. e (omega arith))) in
          rw t (later (omega arith))

  value_else : (s : Slot) (k : ℕ) → (part_index (part_of s) ≡ part_index q → ⊥) → (c i : ℕ) → value_from (rising f i c rest) s k j ≡ value_from rest s k j
  unfolding rising value_from
  value_else s k d zero i = refl
  value_else s k d (suc c) i =
      let t : is_of (part_of s) k (item_of (f i)) ≡ false = rw (item_for P q i, ne_eqb (part_index (part_of s)) (part_index q) d) in
      rw t (value_else s k d c (suc i))

-- ---- the forms of a problem
module _ (P : Problem) (i : ℕ) (l : i < P.n) (j : ℕ) where
  -- from the parts ps, where that of the list s is one of them
  value_parts : (s : Slot) (ps : List Part) (rest : List Form) → 1 ≤ total_over ps (hits (part_of s)) → value_from (parts_then P ps rest) s (suc i) j ≡ get_or (values_for s (form_for P (part_of s) i)) j (pos 0)
  value_parts s [] rest h = absurd (omega arith)
  value_parts s (q ∷ ps) rest h = go (eqb (part_index (part_of s)) (part_index q)) refl h (value_parts s ps rest)
    where
      go : (b : Bool) → eqb (part_index (part_of s)) (part_index q) ≡ b → 1 ≤ cond b 1 0 + total_over ps (hits (part_of s))
          → (1 ≤ total_over ps (hits (part_of s)) → value_from (parts_then P ps rest) s (suc i) j ≡ get_or (values_for s (form_for P (part_of s) i)) j (pos 0))
          → value_from (rising (form_for P q) 0 P.n (parts_then P ps rest)) s (suc i) j ≡ get_or (values_for s (form_for P (part_of s) i)) j (pos 0)
      go true e k later =
          subst (λ (r : Part). value_from (rising (form_for P r) 0 P.n (parts_then P ps rest)) s (suc i) j ≡ get_or (values_for s (form_for P (part_of s) i)) j (pos 0))
          (part_same (part_of s) q (eqb-true (part_index (part_of s)) (part_index q) e)) (value_own P (part_of s) (parts_then P ps rest) j s refl P.n 0 i (omega arith) (omega arith))
      go false e k later = value_else P q (parts_then P ps rest) j s (suc i) (eqb-false (part_index (part_of s)) (part_index q) e) P.n 0 ∙ later (omega arith)

  value_from_lem : (s : Slot) → value_from (old_forms P) s (suc i) j ≡ get_or (values_for s (form_for P (part_of s) i)) j (pos 0)
  unfolding old_forms value_from
  value_from_lem s = value_parts s parts (end ∷ []) (omega (arith, once (part_of s)))

size_of_old : (P : Problem) → size_from (old_forms P) ≡ P.n
unfolding old_forms size_from
size_of_old P = refl

same_forms : (P : Problem) → SameNumbers (problem_from (old_forms P)) P
same_forms P = record {
  size = size_of_old P;
  solution = unfold old_forms in unfold scales_from in refl;
  inverse_scale = unfold old_forms in unfold scales_from in refl;
  matrix = λ i j li lj. value_from_lem P i (rw (size_of_old P) at li) j Matrix ∙ row_at (P.A i) P.n (omega (arith, size_of_old P)) j (rw (size_of_old P) at lj);
  right = λ i li. value_from_lem P i (rw (size_of_old P) at li) 0 Right;
  guess = λ i li. value_from_lem P i (rw (size_of_old P) at li) 0 Guess;
  inverse = λ i j li lj. value_from_lem P i (rw (size_of_old P) at li) j Inverse ∙ row_at (P.G i) P.n (omega (arith, size_of_old P)) j (rw (size_of_old P) at lj);
  weights = λ i li. ap nat_abs (value_from_lem P i (rw (size_of_old P) at li) 0 Weight);
}

none_in_forms : (P : Problem) → NoTolerance (problem_from (old_forms P))
none_in_forms P i li = ap nat_abs (value_from_lem P i (rw (size_of_old P) at li) 0 Tolerance)

pub forms_of : (P : Problem) → forms (lines_of (old_file P)) ≡ old_forms P
forms_of P = ap forms (lines_of_lem (old_forms P)) ∙ forms_spelled (old_forms P)

pub same_file : (P : Problem) → SameNumbers (problem_in (old_file P)) P
same_file P = subst (λ (fs : List Form). SameNumbers (problem_from fs) P) (sym (forms_of P)) (same_forms P)

pub no_tolerance : (P : Problem) → NoTolerance (problem_in (old_file P))
no_tolerance P = subst (λ (fs : List Form). NoTolerance (problem_from fs)) (sym (forms_of P)) (none_in_forms P)
