-- Forms that are all taken, one after another, and come to an end: by the loader in force, and by that of the old edition.
--   PassesOld d f — no test refuses the form f at the loader d, and it is a form of 01 that 01's count does not refuse either
--   TakesOld d fs — the forms fs are such, each at the loader after those before it, and the last is an end
--   weights_given, none_filled — at such a form no weight is filled in
--   old_step, take_old, old_reading — what the loader of the old edition says of such forms and holds after them is what the loader in force does
--   now_complete, old_complete — a file of such forms is complete at a new loader, and at one of the old edition
use mathlib.Core.Path.{◌≡◌, ap, refl, sym, ◌∙◌}
use mathlib.Core.Bool.{true, false}
use mathlib.Core.List.{List, [], ◌∷◌}
use mathlib.Core.Option.{some}
use Prim.Native.Nat.{ℕ, ◌+◌}
use native.Mathlib.Omega.{arith}
use borrow.Author.Tests.{le-ltb, ltb-false}
use lib.Dec.{ltb}
use lib.ListN.{length}
use Rattle.line_form.specs.Form.{Form, problem, scale, row, right, right_within, guess, inverse, weight, end}
use Rattle.line_form.specs.Spelling.{spell}
use Rattle.line_form.proofs.Spelling.{read_spelled}
use Rattle.loader_values.specs.Item.{item_of}
use Rattle.loader_values.specs.declared.Part.TheVariants.{Weight}
use Rattle.loader_bit_set.specs.Places.{lacking}
use Rattle.loader_bit_set.proofs.Places.{lacking_none}
use Rattle.loader_lists.proofs.Filled.{filled_all}
use Rattle.loader_lists.specs.Lists.{Lists, lists, short_lists}
use Rattle.loader_lists.specs.Put.{put_all}
use Rattle.loader_progress.specs.Before.{incomplete01}
use Rattle.loader_progress.specs.Ungiven.{ungiven}
use Rattle.loader_progress.specs.Progress.{set_of, ended}
use Rattle.loader_order.proofs.CodeLaws.{Passed}
use Rattle.loader.specs.declared.Loader.{Loader}
use Rattle.loader.specs.Taken.{fresh, after, lists_with, loader_after, lists_after}
use Rattle.loader.proofs.Exact.{form_case}
use Rattle.loader_runs.specs.Read.{read_from, zeros, reading_of}
use Rattle.loader_runs.specs.Run.{State, from_new, step}
use Rattle.loader_runs.proofs.Passing.{spelled, Whole, step_long}
use Rattle.loader_runs.proofs.Read.{read_none, read_accepted}
use Rattle.loader_spelled.specs.Ones.{text_of}
use Rattle.loader_spelled.proofs.Accepts.{spelled_length, accepts_spelled, spelled_accepted}
use Rattle.loader_spelled.proofs.Text.{lines_of_lem}
use Rattle.listing.specs.Complete.{Complete}
use Rattle.listing.proofs.Entire.{zeros_long}
use Rattle.convert_spec.specs.Edition.{is_old, reading_old, answer_old, loader_old, lists_old, step_old, read_old, reading_of_old, CompleteOld}

pub record PassesOld (d : Loader) (f : Form) : Type 0 where
  pub now : Passed (form_case d f)
  pub old : is_old f ≡ true
  pub counted : incomplete01 d.n d.sets (item_of f) ≡ false

abbrev pub TakesOld : Loader → List Form → Type 0
TakesOld d [] = ended d.stage ≡ true
TakesOld d (f ∷ fs) = (ended d.stage ≡ false) × (PassesOld d f × TakesOld (after d (item_of f)) fs)

-- ---- the loader in force
take_now : (k : ℕ) (u : State) (fs : List Form) → short_lists u.lists ≡ false → TakesOld u.loader fs → Whole (read_from k u (spelled fs))
take_now k u [] long t = rw (read_none k u) (refl, t)
take_now k u (f ∷ fs) long t =
    let a = accepts_spelled u.loader u.lists long t.0 f t.1.0.now in
    let e = (spelled_accepted u.loader u.lists long t.0 f t.1.0.now).loader in
    rw (read_accepted k u (spell f) (spelled fs) a) (take_now (k + 1) (step u (spell f)) fs (step_long u (spell f) a long) (rw e t.1.1))

-- ---- the loader of the old edition
-- where 01's count finds nothing missing every weight was given
weights_given : (n : ℕ) (z : List ℕ) → ltb 0 (ungiven n z) ≡ false → lacking (set_of z Weight) n ≡ 0
unfolding ungiven
weights_given n z e = omega (arith, ltb-false 0 (ungiven n z) e)

-- so an end fills in nothing, and no other form does
none_filled : (d : Loader) (f : Form) → incomplete01 d.n d.sets (item_of f) ≡ false → (l : Lists) → lists_with d f l ≡ put_all d.n f l
none_filled d (problem n) e l = refl
none_filled d (scale s t) e l = refl
none_filled d (row i x others) e l = refl
none_filled d (right i x) e l = refl
none_filled d (right_within i x y) e l = refl
none_filled d (guess i x) e l = refl
none_filled d (inverse i x others) e l = refl
none_filled d (weight i w) e l = refl
none_filled d end e l =
    let z = set_of d.sets Weight in
    ap (lists l.matrix l.right l.tolerance l.guess l.inverse) (filled_all d.n z l.weights (lacking_none z d.n (weights_given d.n d.sets e)))

module _ (u : State) (f : Form) (long : short_lists u.lists ≡ false) (going : ended u.loader.stage ≡ false) (h : PassesOld u.loader f) where
  reads_old : reading_old (spell f) ≡ some f
  reads_old = rw (read_spelled f, h.old)

  old_accepted : answer_old u.loader u.lists (spell f) ≡ []
  unfolding answer_old
  old_accepted =
      rw (
        reads_old,
        long,
        going,
        le-ltb 320 (length (spell f)) (omega (arith, spelled_length u.loader f h.now)),
        h.now.early,
        h.now.misplaced,
        h.now.outside,
        h.now.miscounted,
        h.now.repeated,
        h.counted,
      )

  old_loader : loader_old u.loader u.lists (spell f) ≡ loader_after u.loader u.lists (spell f)
  unfolding loader_old
  old_loader = rw (old_accepted, reads_old) (sym (spelled_accepted u.loader u.lists long going f h.now).loader)

  old_lists : lists_old u.loader u.lists (spell f) ≡ lists_after u.loader u.lists (spell f)
  unfolding lists_old
  old_lists =
      rw (old_accepted, reads_old)
      (sym ((spelled_accepted u.loader u.lists long going f h.now).lists ∙ none_filled u.loader f h.counted u.lists))

  old_step : step_old u (spell f) ≡ step u (spell f)
  old_step = λ i. record { loader = old_loader i; lists = old_lists i }

  old_next : (k : ℕ) (lines : List (List ℕ)) → read_old k u (spell f ∷ lines) ≡ read_old (k + 1) (step u (spell f)) lines
  unfolding read_old
  old_next k lines = rw (old_accepted, old_step)

take_old : (k : ℕ) (u : State) (fs : List Form) → short_lists u.lists ≡ false → TakesOld u.loader fs → read_old k u (spelled fs) ≡ read_from k u (spelled fs)
take_old k u [] long t = unfold read_old in sym (read_none k u)
take_old k u (f ∷ fs) long t =
    let a = accepts_spelled u.loader u.lists long t.0 f t.1.0.now in
    let e = (spelled_accepted u.loader u.lists long t.0 f t.1.0.now).loader in
    old_next u f long t.0 t.1.0 k (spelled fs)
    ∙ take_old (k + 1) (step u (spell f)) fs (step_long u (spell f) a long) (rw e t.1.1)
    ∙ sym (read_accepted k u (spell f) (spelled fs) a)

-- ---- a file of such forms
module _ (fs : List Form) (t : TakesOld fresh fs) where
  pub now_complete : Complete (text_of fs)
  now_complete = let w = take_now 0 (from_new zeros) fs zeros_long t in record { lines = rw (lines_of_lem fs) w.0; end = rw (lines_of_lem fs) w.1 }

  pub old_reading : reading_of_old (text_of fs) ≡ reading_of (text_of fs)
  old_reading = rw (lines_of_lem fs) (take_old 0 (from_new zeros) fs zeros_long t)

  pub old_complete : CompleteOld (text_of fs)
  old_complete = record { lines = rw old_reading now_complete.lines; end = rw old_reading now_complete.end }
