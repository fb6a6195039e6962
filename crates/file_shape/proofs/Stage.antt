-- How far a loader has come, from the forms of the lines that it took.
--   Moves — a stage is reached by this form, or was before;  Since, since — it was reached before lines that are accepted, or by one of their forms
--   IsProblem, IsScale, IsEnd, first_sized, first_scaled, first_ended — by which form each stage is reached
--   from_new_lem, given_by — so a new loader that took lines holds as given just their forms
use mathlib.Core.Path.{◌≡◌, refl, sym, subst}
use mathlib.Core.Bool.{Bool, true, false}
use mathlib.Core.List.{List, [], ◌∷◌}
use Prim.Native.Nat.{ℕ}
use borrow.Author.Tests.{not-false}
use lib.IntN.{ℤ}
use Rattle.integer.specs.Among.{Among, here, there}
use Rattle.integer.proofs.Search.{clash}
use Rattle.line_form.specs.Form.{Form, problem, scale, row, right, right_within, guess, inverse, weight, end}
use Rattle.loader_values.specs.Item.{item_of}
use Rattle.loader_lists.specs.Lists.{Lists}
use Rattle.loader_progress.specs.Progress.{sized, scaled, ended, early}
use Rattle.loader_progress.specs.declared.Stage.{Stage}
use Rattle.loader_progress.proofs.Progress.{late}
use Rattle.loader.specs.declared.Loader.{Loader}
use Rattle.loader.specs.Taken.{after}
use Rattle.loader.proofs.Accepted.{accepted_form}
use Rattle.loader_runs.specs.Run.{State, from_new, step, forms}
use Rattle.loader_runs.specs.Accepts.{run, Accepts}
use Rattle.loader_runs.proofs.Runs.{collected, forms_next}
use Rattle.loader_runs.proofs.Sound.{fresh_sound}
use Rattle.file_shape.specs.Given.{GivenBy}
use Rattle.file_shape.proofs.Missing.{given_new, missing_new}

data Moves (before now : Type 0) : Type 0 where
  was : before → Moves before now
  by_this : now → Moves before now

data Since (before : Type 0) (K : Form → Type 0) (fs : List Form) : Type 0 where
  already : before → Since before K fs
  by_form : (f : Form) → Among f fs → K f → Since before K fs

module _ (reached : Stage → Bool) (K : Form → Type 0)
    (moves : (d : Loader) (f : Form) → early d.stage (item_of f) ≡ false → reached (after d (item_of f)).stage ≡ true → Moves (reached d.stage ≡ true) (K f)) where
  abbrev Reached : Loader → List Form → Type 0
  Reached d fs = Since (reached d.stage ≡ true) K fs

  one : (d : Loader) (f : Form) (fs : List Form) → Moves (reached d.stage ≡ true) (K f) → Reached d (f ∷ fs)
  one d f fs (was q) = already q
  one d f fs (by_this k) = by_form f here k

  back : (d : Loader) (f : Form) (fs : List Form) → early d.stage (item_of f) ≡ false → Reached (after d (item_of f)) fs → Reached d (f ∷ fs)
  back d f fs t (already q) = one d f fs (moves d f t q)
  back d f fs t (by_form g i k) = by_form g (there i) k

  since : (u : State) (lines : List (List ℕ)) → Accepts u lines → reached (run u lines).loader.stage ≡ true → Reached u.loader (forms lines)
  unfolding run
  since u [] a e = already e
  since u (line ∷ lines) a e =
      let r = accepted_form u.loader u.lists line a.0 in
      let h = subst (λ (d : Loader). Reached d (forms lines)) r.1.loader (since (step u line) lines a.1 e) in
      subst (Reached u.loader) (sym (forms_next line lines r.1.reads)) (back u.loader r.0 (forms lines) r.1.fine.early h)

-- ---- the three stages
abbrev IsProblem : Form → Type 0
IsProblem f = (n : ℤ) × (f ≡ problem n)

abbrev IsScale : Form → Type 0
IsScale f = (s : ℤ) × ((t : ℤ) × (f ≡ scale s t))

abbrev IsEnd : Form → Type 0
IsEnd f = f ≡ end

first_sized : (d : Loader) (f : Form) → early d.stage (item_of f) ≡ false → sized (after d (item_of f)).stage ≡ true → Moves (sized d.stage ≡ true) (IsProblem f)
first_sized d (problem m) t e = by_this (m, refl)
first_sized d (scale u v) t e = was (not-false (sized d.stage) t)
first_sized d (row i a zs) t e = was e
first_sized d (right i b) t e = was e
first_sized d (right_within i b c) t e = was e
first_sized d (guess i x) t e = was e
first_sized d (inverse i g zs) t e = was e
first_sized d (weight i w) t e = was e
first_sized d end t e = was (late d.stage t)

first_scaled : (d : Loader) (f : Form) → early d.stage (item_of f) ≡ false → scaled (after d (item_of f)).stage ≡ true → Moves (scaled d.stage ≡ true) (IsScale f)
first_scaled d (problem m) t e = clash false e refl
first_scaled d (scale u v) t e = by_this (u, (v, refl))
first_scaled d (row i a zs) t e = was e
first_scaled d (right i b) t e = was e
first_scaled d (right_within i b c) t e = was e
first_scaled d (guess i x) t e = was e
first_scaled d (inverse i g zs) t e = was e
first_scaled d (weight i w) t e = was e
first_scaled d end t e = was (not-false (scaled d.stage) t)

first_ended : (d : Loader) (f : Form) → early d.stage (item_of f) ≡ false → ended (after d (item_of f)).stage ≡ true → Moves (ended d.stage ≡ true) (IsEnd f)
first_ended d (problem m) t e = clash false e refl
first_ended d (scale u v) t e = clash false e refl
first_ended d (row i a zs) t e = was e
first_ended d (right i b) t e = was e
first_ended d (right_within i b c) t e = was e
first_ended d (guess i x) t e = was e
first_ended d (inverse i g zs) t e = was e
first_ended d (weight i w) t e = was e
first_ended d end t e = by_this refl

-- ---- a new loader
module _ (l : Lists) (lines : List (List ℕ)) (a : Accepts (from_new l) lines) where
  abbrev fs : List Form
  fs = forms lines

  from_new_lem : (K : Form → Type 0) → Since (false ≡ true) K fs → (f : Form) × (Among f fs × K f)
  from_new_lem K (already e) = clash false e refl
  from_new_lem K (by_form f i k) = (f, (i, k))

  pub given_by : GivenBy (run (from_new l) lines).loader fs
  given_by = record {
    problem_given = (
      λ e. let x = from_new_lem IsProblem (since sized IsProblem first_sized (from_new l) lines a e) in (x.1.1.0, subst (λ (f : Form). Among f fs) x.1.1.1 x.1.0),
      λ x. (collected (from_new l) fresh_sound lines a (problem x.0) x.1).stage,
    );
    scale_given = (
      λ e.
          let x = from_new_lem IsScale (since scaled IsScale first_scaled (from_new l) lines a e) in
          (x.1.1.0, (x.1.1.1.0, subst (λ (f : Form). Among f fs) x.1.1.1.1 x.1.0)),
      λ x. (collected (from_new l) fresh_sound lines a (scale x.0 x.1.0) x.1.1).stage,
    );
    end_given = (
      λ e. let x = from_new_lem IsEnd (since ended IsEnd first_ended (from_new l) lines a e) in subst (λ (f : Form). Among f fs) x.1.1 x.1.0,
      λ i. collected (from_new l) fresh_sound lines a end i,
    );
    part_given = given_new l lines a;
    still_missing = missing_new l lines a;
  }
