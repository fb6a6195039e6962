-- What a loader holds as given are the forms of the lines that it took (01: 12, "a form given already"; 13, "the count of forms still missing").
--   form_marks, marks_run — the marks after lines that are accepted are those before and one for each of their forms
--   marks_new, given_new — at a new loader: a form of a kind and number was given exactly where one of the lines is of that kind and number
--   missing_new — and those that are missing are those of which no line is
use mathlib.Core.Path.{◌≡◌, refl, sym, ◌∙◌}
use mathlib.Core.Bool.{Bool, true, false, cond}
use mathlib.Core.List.{List, [], ◌∷◌}
use mathlib.Core.Logic.{◌↔◌}
use Prim.Native.Nat.{ℕ, suc, ◌+◌, ◌-◌, ◌≤◌}
use native.Mathlib.Omega.{arith}
use lib.Dec.{eqb}
use Rattle.integer.specs.Finite.{sumℕ}
use Rattle.integer.proofs.Sum.{sumℕ_ext}
use Rattle.line_form.specs.Form.{Form}
use Rattle.loader_values.specs.Item.{item_of}
use Rattle.loader_values.specs.declared.Item.{Item}
use Rattle.loader_values.specs.declared.Item.TheVariants.{Problem, Scale, Of, End}
use Rattle.loader_values.specs.declared.Part.{Part}
use Rattle.loader_values.specs.declared.Part.TheVariants.{Row, Right, Guess, Inverse}
use Rattle.loader_values.proofs.Between.{from_to_lem}
use Rattle.loader_bit_set.specs.Places.{has_place, lacking}
use Rattle.loader_lists.specs.Lists.{Lists}
use Rattle.loader_progress.specs.Progress.{set_of, given, missing, misplaced, repeated}
use Rattle.loader_progress.proofs.Progress.{placed_of}
use Rattle.loader.specs.declared.Loader.{Loader}
use Rattle.loader.specs.Taken.{fresh, after}
use Rattle.loader.proofs.Accepted.{accepted_form}
use Rattle.loader_runs.specs.Given.{is_of}
use Rattle.loader_runs.specs.Run.{State, from_new, step, forms}
use Rattle.loader_runs.specs.Accepts.{run, Accepts}
use Rattle.loader_runs.proofs.Runs.{forms_next}
use Rattle.loader_runs.proofs.Sound.{SoundLoader, fresh_sound, fresh_empty, line_sound}
use Rattle.file_shape.specs.Given.{missing_of}
use Rattle.file_shape.specs.Shape.{how_many}
use Rattle.file_shape.proofs.Marks.{mark, mark_one, count_none, count_next, moved}

-- ---- one form
module _ (d : Loader) (s : SoundLoader d) (f : Form) (fs : List Form) (p : Part) (k : ℕ) (from : 1 ≤ k) where
  other_marks : {x : Item} → item_of f ≡ x → is_of p k x ≡ false → (after d x).sets ≡ d.sets → mark (after d x).sets p k + how_many p k fs ≡ mark d.sets p k + how_many p k (f ∷ fs)
  other_marks {x} e o q =
      let c : ◌≡◌ {A = ℕ} (cond (is_of p k x) 1 0) 0 = rw o in
      rw q (omega (arith, count_next p k f fs e, c))

  form_marks : (x : Item) → item_of f ≡ x → misplaced d.stage d.n x ≡ false → repeated d.stage d.sets x ≡ false →
      mark (after d x).sets p k + how_many p k fs ≡ mark d.sets p k + how_many p k (f ∷ fs)
  form_marks (Problem n) e m r = other_marks e refl refl
  form_marks (Scale u v) e m r = other_marks e refl refl
  form_marks (Of q i) e m r =
      sym (moved d.sets s.five q i (from_to_lem 1 d.n i (placed_of d.stage d.n (Of q i) m)).from r f fs e p k from)
  form_marks End e m r = other_marks e refl refl

-- ---- lines, one after another
marks_run : (u : State) → SoundLoader u.loader → (lines : List (List ℕ)) → Accepts u lines → (p : Part) (k : ℕ) → 1 ≤ k →
    mark (run u lines).loader.sets p k ≡ mark u.loader.sets p k + how_many p k (forms lines)
unfolding run
marks_run u s [] a p k from = unfold forms in omega (arith, count_none p k)
marks_run u s (line ∷ lines) a p k from =
    let r = accepted_form u.loader u.lists line a.0 in
    let h = marks_run (step u line) (line_sound u.loader u.lists line s) lines a.1 p k from in
    let m = form_marks u.loader s r.0 (forms lines) p k from (item_of r.0) refl r.1.fine.misplaced r.1.fine.repeated in
    rw (forms_next line lines r.1.reads) (h ∙ rw r.1.loader m)

module _ (l : Lists) (lines : List (List ℕ)) (a : Accepts (from_new l) lines) where
  abbrev last : Loader
  last = (run (from_new l) lines).loader

  pub marks_new : (p : Part) (k : ℕ) → 1 ≤ k → mark last.sets p k ≡ how_many p k (forms lines)
  marks_new p k from = omega (arith, marks_run (from_new l) fresh_sound lines a p k from, fresh_mark)
    where
      fresh_mark : mark fresh.sets p k ≡ 0
      fresh_mark = rw (fresh_empty p k)

  pub given_new : (p : Part) (k : ℕ) → 1 ≤ k → (given last.sets p k ≡ true) ↔ (how_many p k (forms lines) ≡ 1)
  given_new p k from = (λ e. sym (marks_new p k from) ∙ rw e, λ e. mark_one (given last.sets p k) (marks_new p k from ∙ e))

  lacks : (p : Part) (n : ℕ) → lacking (set_of last.sets p) n ≡ sumℕ n (λ (i : ℕ). cond (eqb (how_many p (suc i) (forms lines)) 0) 1 0)
  unfolding lacking
  lacks p n = sumℕ_ext n (λ (i : ℕ). cond (has_place (set_of last.sets p) i) 0 1) (λ (i : ℕ). cond (eqb (how_many p (suc i) (forms lines)) 0) 1 0) (λ i b. one i)
    where
      go : (i : ℕ) (b : Bool) → has_place (set_of last.sets p) i ≡ b → cond b 1 0 ≡ how_many p (suc i) (forms lines) → ◌≡◌ {A = ℕ} (cond b 0 1) (cond (eqb (how_many p (suc i) (forms lines)) 0) 1 0)
      go i true e q = rw (← q)
      go i false e q = rw (← q)

      one : (i : ℕ) → ◌≡◌ {A = ℕ} (cond (has_place (set_of last.sets p) i) 0 1) (cond (eqb (how_many p (suc i) (forms lines)) 0) 1 0)
      one i = let z : suc i - 1 ≡ i = omega arith in go i (has_place (set_of last.sets p) i) refl (rw z at (marks_new p (suc i) (omega arith)))

  pub missing_new : (n : ℕ) → missing n last.sets ≡ missing_of n (forms lines)
  unfolding missing
  missing_new n = rw (lacks Row n, lacks Right n, lacks Guess n, lacks Inverse n)
