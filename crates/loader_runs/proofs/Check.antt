-- A check through a loader after an accepted end of lines taken from `new`, on those lists, with limit lists that are long enough.
--   length_put  — a line leaves the lengths of the lists
--   run_long, lists_long — lists that are long enough stay so, and at an accepted end they are
--   enough      — with limit lists that are long enough too, a check does not answer 8
--   computes, end_answers — the check answers accepted, 5, 6 or 7 only
--   inside      — nor 3, where every number is in its range
use mathlib.Core.Path.{◌≡◌, refl, ◌∙◌}
use mathlib.Core.Bool.{Bool, true, false, cond}
use mathlib.Core.List.{List, [], ◌∷◌}
use Prim.Native.Nat.{ℕ, ◌+◌, ◌*◌, ◌-◌, ◌/◌, ◌%◌, ◌≤◌}
use borrow.Author.Tests.{le-ltb}
use lib.Dec.{eqb, ltb}
use lib.IntN.{ℤ, nat_abs}
use lib.ListN.{length}
use lib.Seq.{sets, length-sets}
use Rattle.integer.proofs.Search.{clash}
use Rattle.rules.specs.Order.{verdict}
use Rattle.rules.proofs.Ranges.{both}
use Rattle.line_form.specs.Form.{Form}
use Rattle.loader_values.specs.Item.{item_of, part_index}
use Rattle.loader_values.specs.declared.Item.{Item}
use Rattle.loader_values.specs.declared.Item.TheVariants.{Problem, Scale, Of, End}
use Rattle.loader_values.specs.declared.Part.TheVariants as part
use Rattle.loader_lists.specs.Slot.{Slot, Matrix, Right, Tolerance, Guess, Inverse, Weight, part_of, width, values_for}
use Rattle.loader_lists.specs.Lists.{Lists, short_lists}
use Rattle.loader_lists.specs.Put.{put_item, put, closed_weights}
use Rattle.loader_lists.proofs.Filled.{length_filled}
use Rattle.loader_lists.proofs.Lists.{LongLists, long_lent}
use Rattle.loader_progress.specs.Progress.{set_of, ended}
use Rattle.check_spec.specs.Input.{problem, in_ranges}
use Rattle.check_spec.specs.Input as checker
use Rattle.check_spec.specs.Order.{computed, first_margin, first_residual, first_inverse_place}
use Rattle.check_spec.proofs.Contract.{answer_ready}
use Rattle.loader_order.specs.Through.{answer_through}
use Rattle.loader.specs.declared.Loader.{Loader}
use Rattle.loader.specs.Taken.{lists_with}
use Rattle.loader.proofs.Accepted.{accepted_form}
use Rattle.loader_order.proofs.Through.{answer_ended}
use Rattle.loader_runs.specs.Run.{State, from_new, step}
use Rattle.loader_runs.specs.Accepts.{run, Accepts}
use Rattle.loader_runs.specs.Holds.{input_of, InRange, ComputedSays, accepted, margin, residual, inverse_residual}
use Rattle.loader_runs.proofs.End.{in_range_lem}

-- ---- lengths
length_put : (s : Slot) (n : ℕ) (x : Item) (vs l : List ℤ) → length (put_item s n x vs l) ≡ length l
length_put s n (Problem m) vs l = refl
length_put s n (Scale u v) vs l = refl
length_put s n (Of q i) vs l = go (eqb (part_index (part_of s)) (part_index q))
  where
    go : (b : Bool) → length (cond b (sets l ((nat_abs i - 1) * width s n) vs) l) ≡ length l
    go true = length-sets l ((nat_abs i - 1) * width s n) vs
    go false = refl
length_put s n End vs l = refl

length_weights : (n z : ℕ) (x : Item) (l : List ℤ) → length (closed_weights n z x l) ≡ length l
length_weights n z (Problem m) l = refl
length_weights n z (Scale u v) l = refl
length_weights n z (Of q i) l = refl
length_weights n z End l = length_filled n z l

long_kept : (d : Loader) (f : Form) (l : Lists) → short_lists (lists_with d f l) ≡ short_lists l
long_kept d f l =
    let n = d.n in
    let same : (s : Slot) (k : List ℤ) → length (put s n f k) ≡ length k = λ s k. length_put s n (item_of f) (values_for s f) k in
    rw (length_weights n (set_of d.sets part.Weight) (item_of f) (put Weight n f l.weights), same Matrix l.matrix, same Right l.right, same Tolerance l.tolerance, same Guess l.guess, same Inverse l.inverse, same Weight l.weights)

pub run_long : (u : State) (lines : List (List ℕ)) → Accepts u lines → short_lists u.lists ≡ false → short_lists (run u lines).lists ≡ false
unfolding run
run_long u [] a h = h
run_long u (line ∷ lines) a h =
    let r = accepted_form u.loader u.lists line a.0 in
    run_long (step u line) lines a.1 (rw r.1.lists (long_kept u.loader r.0 u.lists ∙ h))

-- a run that ends has a line, which was accepted, so its lists were long enough
lists_long : (l : Lists) (lines : List (List ℕ)) → Accepts (from_new l) lines → ended (run (from_new l) lines).loader.stage ≡ true → short_lists (run (from_new l) lines).lists ≡ false
lists_long l [] a e = clash false (unfold run in e) refl
lists_long l (line ∷ lines) a e =
    let r = accepted_form (from_new l).loader l line a.0 in
    run_long (from_new l) (line ∷ lines) a r.1.long

-- ---- the check
pub computes : (n m k i : ℕ) → ComputedSays (verdict (computed n m k i))
computes n m k i = go (ltb m n) (ltb k n) (ltb i (n * n))
  where
    go : (a b c : Bool) → ComputedSays (cond a (5 ∷ (m + 1) ∷ []) (cond b (6 ∷ (k + 1) ∷ []) (cond c (7 ∷ (i / n + 1) ∷ (i % n + 1) ∷ []) [])))
    go true b c = margin (m + 1)
    go false true c = residual (k + 1)
    go false false true = inverse_residual (i / n + 1) (i % n + 1)
    go false false false = accepted

pub enough : (u : State) (E L : List ℕ) → short_lists u.lists ≡ false → 32 ≤ length E → 1024 ≤ length L → checker.short (input_of u E L) ≡ false
enough u E L s e l =
    let h : LongLists u.lists = long_lent u.lists s in
    rw (le-ltb _ 1024 h.matrix, le-ltb _ 32 h.right, le-ltb _ 32 h.tolerance, le-ltb _ 32 h.guess, le-ltb _ 1024 h.inverse, le-ltb _ 32 h.weights, le-ltb _ 32 e, le-ltb _ 1024 l)

pub inside : (u : State) (E L : List ℕ) → InRange u → in_ranges (input_of u E L) ≡ true
inside u E L h = both (both h.size (both h.solution h.inverse_scale)) (both h.matrix (both h.right (both h.tolerance (both h.guess (both h.inverse h.weights)))))

module _ (l : Lists) (lines : List (List ℕ)) (a : Accepts (from_new l) lines) (e : ended (run (from_new l) lines).loader.stage ≡ true) (E L : List ℕ) (column-long : 32 ≤ length E) (matrix-long : 1024 ≤ length L) where
  abbrev last : State
  last = run (from_new l) lines

  pub end_answers : ComputedSays (answer_through last.loader.stage (input_of last E L))
  end_answers =
      rw (answer_ended last.loader.stage (input_of last E L) e, answer_ready (input_of last E L) (enough last E L (lists_long l lines a e) column-long matrix-long) (inside last E L (in_range_lem l lines a e)))
      (computes last.loader.n (first_margin (problem (input_of last E L))) (first_residual (problem (input_of last E L))) (first_inverse_place (problem (input_of last E L))))
