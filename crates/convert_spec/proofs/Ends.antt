-- The forms of a problem whose numbers are in range are all taken, one after another, and come to an end.
--   passes_for      — no test refuses the next form of a part
--   After r fs      — the forms fs are taken by any loader that was given the forms up to the rank r
--   part_ends, parts_end, end_ends — the forms of a part by rising i, and of part after part, before forms that come to an end; the end
--   reached_none, forms_taken — the forms of a problem, from the start
--   file_complete, file_reading, file_complete_old — so its file is complete at a new loader; at one of the old edition it is read alike, and complete too
use mathlib.Core.Path.{◌≡◌, refl, subst}
use mathlib.Core.List.{List, [], ◌∷◌}
use Prim.Native.Nat.{ℕ, zero, suc, ◌+◌, ◌*◌, ◌≤◌, ◌<◌}
use native.Mathlib.Omega.{arith}
use borrow.Author.Tests.{le-leb, le-ltb}
use lib.IntN.{pos}
use lib.ListN.{length}
use Rattle.rules.proofs.Ranges.{both}
use Rattle.enclosure.specs.Problem.{Problem}
use Rattle.line_form.specs.Form.{Form, end}
use Rattle.loader_values.specs.Item.{item_of, part_index}
use Rattle.loader_values.specs.declared.Item.TheVariants as item
use Rattle.loader_values.specs.declared.Part.{Part}
use Rattle.loader_values.specs.declared.Part.TheVariants.{Row, Right, Guess, Inverse, Weight}
use Rattle.loader_progress.specs.Ungiven.{ungiven}
use Rattle.loader.specs.declared.Loader.{Loader}
use Rattle.loader.specs.Taken.{fresh, after}
use Rattle.loader_runs.proofs.Sound.{fresh_empty}
use Rattle.loader_spelled.proofs.Forms.{passed_problem, passed_scale, passed_part, passed_end}
use Rattle.listing.specs.Complete.{Complete}
use Rattle.loader_runs.specs.Read.{reading_of}
use Rattle.convert_spec.specs.Edition.{reading_of_old, CompleteOld}
use Rattle.convert_spec.specs.File.{form_for, rising, parts_then, old_forms, old_file}
use Rattle.convert_spec.specs.Numbers.{NumbersInRange}
use Rattle.convert_spec.proofs.Numbers.{size_within, item_for, old_for, miscounted_for, outside_for}
use Rattle.convert_spec.proofs.Reached.{rank, GivenTo, reached_next, reached_part, reached_all, reached_old}
use Rattle.convert_spec.proofs.Taken.{PassesOld, TakesOld, now_complete, old_reading, old_complete}

module _ (P : Problem) (w : NumbersInRange P) where
  abbrev After : ℕ → List Form → Type 0
  After r fs = (d : Loader) → GivenTo P.n r d → TakesOld d fs

  module _ (p : Part) where
    passes_for : (i : ℕ) → i < P.n → {d : Loader} → GivenTo P.n (rank p i) d → PassesOld d (form_for P p i)
    passes_for i l {d} h = record {
      now =
          passed_part d (rw h.size w.size) h.ready (form_for P p i) (item_for P p i) (rw h.size (both (le-leb 1 (suc i) (omega arith)) (le-leb (suc i) P.n (omega arith))))
          (outside_for P (size_within w).0 w p i l) (rw h.size (miscounted_for P (size_within w).0 p i)) (h.clear p (suc i) (omega arith) (omega arith) (omega arith));
      old = old_for P p i;
      counted = rw (item_for P p i);
    }

    part_ends : (c i : ℕ) → i + c ≡ P.n → (rest : List Form) → After (rank p P.n) rest → After (rank p i) (rising (form_for P p) i c rest)
    unfolding rising
    part_ends zero i e rest k d h = let j : i ≡ P.n = omega arith in k d (subst (λ (m : ℕ). GivenTo P.n (rank p m) d) j h)
    part_ends (suc c) i e rest k d h =
        let next = reached_next P.n (size_within w).1 h p (suc i) (omega arith) (omega arith) (omega arith) in
        (h.going, (passes_for i (omega arith) h, part_ends c (suc i) (omega arith) rest k (after d (item_of (form_for P p i))) (rw (item_for P p i) next)))

  -- the parts ps come in their order, from the place m on
  abbrev Follow : ℕ → List Part → Type 0
  Follow m [] = Unit
  Follow m (p ∷ ps) = (part_index p ≡ m) × Follow (suc m) ps

  parts_end : (m : ℕ) (ps : List Part) → Follow m ps → (rest : List Form) → After ((m + length ps) * 33) rest → After (m * 33) (parts_then P ps rest)
  parts_end m [] o rest k d h = k d (subst (λ (r : ℕ). GivenTo P.n r d) (let e : m * 33 ≡ (m + 0) * 33 = omega arith in e) h)
  parts_end m (p ∷ ps) o rest k d h =
      let a : m * 33 ≡ rank p 0 = omega (arith, o.0) in
      let b : (m + length (p ∷ ps)) * 33 ≡ (suc m + length ps) * 33 = omega arith in
      part_ends p P.n 0 (omega arith) (parts_then P ps rest)
      (λ v g. parts_end (suc m) ps o.1 rest (subst (λ (r : ℕ). After r rest) b k) v (reached_part P.n (size_within w).1 p m o.0 g))
      d (subst (λ (r : ℕ). GivenTo P.n r d) a h)

  end_ends : After 165 (end ∷ [])
  end_ends d h =
      let o : PassesOld d end = record {
        now = passed_end d (rw h.size w.size) h.ready (reached_all (size_within w).1 h);
        old = refl;
        counted = le-ltb 0 (ungiven d.n d.sets) (omega (arith, reached_old (size_within w).1 h));
      } in
      (h.going, (o, refl))

  -- the loader after problem, and after scale
  abbrev sized : Loader
  sized = after fresh (item.Problem (pos P.n))

  abbrev ready : Loader
  ready = after sized (item.Scale (pos P.s) (pos P.t))

  reached_none : GivenTo P.n 0 ready
  reached_none = record {
    size = refl;
    ready = refl;
    going = refl;
    five = refl;
    done = λ q k f t l. absurd (omega arith);
    clear = λ q k f t l. fresh_empty q k;
  }

  pub forms_taken : TakesOld fresh (old_forms P)
  unfolding old_forms
  forms_taken = (
    refl,
    (
      record { now = passed_problem fresh (pos P.n) refl w.size; old = refl; counted = refl },
      (
        refl,
        (
          record { now = passed_scale sized w.size (pos P.s) (pos P.t) refl refl w.solution w.inverse_scale; old = refl; counted = refl },
          parts_end 0 (Row ∷ Right ∷ Guess ∷ Inverse ∷ Weight ∷ []) (refl, (refl, (refl, (refl, (refl, tt))))) (end ∷ []) end_ends ready reached_none,
        ),
      ),
    ),
  )

  pub file_complete : Complete (old_file P)
  file_complete = now_complete (old_forms P) forms_taken

  pub file_reading : reading_of_old (old_file P) ≡ reading_of (old_file P)
  file_reading = old_reading (old_forms P) forms_taken

  pub file_complete_old : CompleteOld (old_file P)
  file_complete_old = old_complete (old_forms P) forms_taken
