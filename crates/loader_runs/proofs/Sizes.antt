-- n, s and t of a run of accepted lines are those of problem and scale.
--   size_from_lem, scales_from_lem   — as the forms give them
--   problem_given, scale_given — and one of the lines gave them
use mathlib.Core.Path.{◌≡◌, subst}
use mathlib.Core.Bool.{true, false}
use mathlib.Core.List.{List, [], ◌∷◌}
use Prim.Native.Nat.{ℕ}
use borrow.Author.Tests.{not-false}
use lib.IntN.{ℤ}
use Rattle.integer.proofs.Search.{clash}
use Rattle.line_form.specs.Form.{Form}
use Rattle.loader_values.specs.Item.{item_of}
use Rattle.loader_values.specs.declared.Item.{Item}
use Rattle.loader_values.specs.declared.Item.TheVariants.{Problem, Scale}
use Rattle.loader_progress.specs.Progress.{sized, scaled}
use Rattle.loader_progress.proofs.Progress.{late}
use Rattle.loader.proofs.Accepted.{AcceptedLine, accepted_form}
use Rattle.loader_runs.specs.Run.{State, step, forms}
use Rattle.loader_runs.specs.Accepts.{run, Accepts}
use Rattle.loader_lists.specs.Slot.{Slot, values_for}
use Rattle.loader_runs.specs.Given.{size_from, scales_from, size_by, scale_by, Scales}
use Rattle.integer.specs.Among.{Among, here, there}
use Rattle.loader_runs.specs.Holds.{HoldsForm, HoldsItem}
use Rattle.loader_runs.proofs.Sound.{SoundLoader, line_sound}
use Rattle.loader_runs.proofs.View.{View, view, a_problem, a_scale, a_part, an_end}
use Rattle.loader_runs.proofs.Runs.{step_own, kept_all, forms_next}

-- ---- n, s and t
module _ (u : State) (s : SoundLoader u.loader) (line : List ℕ) (lines : List (List ℕ)) (a : Accepts u (line ∷ lines)) where
  form : Form
  form = (accepted_form u.loader u.lists line a.0).0

  accepted : AcceptedLine u.loader u.lists line form
  unfolding form
  accepted = (accepted_form u.loader u.lists line a.0).1

  -- the first line's form is held to the end
  first_held : HoldsForm form (run (step u line) lines)
  first_held = kept_all (step u line) (line_sound u.loader u.lists line s) lines a.1 form (step_own u s accepted)

  the_view : View u.loader.n form
  the_view = view u.loader.n form accepted.fine.outside accepted.fine.miscounted

  first_form : forms (line ∷ lines) ≡ form ∷ forms lines
  first_form = forms_next line lines accepted.reads

pub size_from_lem : (u : State) → SoundLoader u.loader → (lines : List (List ℕ)) → Accepts u lines → sized u.loader.stage ≡ false → sized (run u lines).loader.stage ≡ true
    → (run u lines).loader.n ≡ size_from (forms lines)
unfolding run size_from
size_from_lem u s [] a before now = clash (sized u.loader.stage) now before
size_from_lem u s (line ∷ lines) a before now = rw (first_form u s line lines a) (go (the_view u s line lines a) (first_held u s line lines a))
  where
    f : Form
    f = form u s line lines a

    go : View u.loader.n f → HoldsForm f (run (step u line) lines) → (run (step u line) lines).loader.n ≡ size_by (item_of f) (size_from (forms lines))
    go (a_problem m e) h = rw e (subst (λ (x : Item). HoldsItem x (λ (s : Slot). values_for s f) (run (step u line) lines)) e h).size
    go (a_scale m t e) h = clash (sized u.loader.stage) (not-false _ (rw e at (accepted u s line lines a).fine.early)) before
    go (a_part q i e c r) h = clash (sized u.loader.stage) (late u.loader.stage (rw e at (accepted u s line lines a).fine.early)) before
    go (an_end e) h = clash (sized u.loader.stage) (late u.loader.stage (rw e at (accepted u s line lines a).fine.early)) before

abbrev pub HasScales : State → Scales → Type 0
HasScales u x = (u.loader.s ≡ x.solution) × (u.loader.t ≡ x.inverse)

pub scales_from_lem : (u : State) → SoundLoader u.loader → (lines : List (List ℕ)) → Accepts u lines → scaled u.loader.stage ≡ false → scaled (run u lines).loader.stage ≡ true
    → HasScales (run u lines) (scales_from (forms lines))
unfolding run scales_from
scales_from_lem u s [] a before now = clash (scaled u.loader.stage) now before
scales_from_lem u s (line ∷ lines) a before now =
    rw (first_form u s line lines a)
    (go (the_view u s line lines a) (first_held u s line lines a) (λ b. scales_from_lem (step u line) (line_sound u.loader u.lists line s) lines a.1 b now))
  where
    f : Form
    f = form u s line lines a

    go : View u.loader.n f → HoldsForm f (run (step u line) lines) → (scaled (step u line).loader.stage ≡ false → HasScales (run (step u line) lines) (scales_from (forms lines))) → HasScales (run (step u line) lines) (scale_by (item_of f) (scales_from (forms lines)))
    go (a_problem m e) h rest = rw e (rest (rw ((accepted u s line lines a).loader, e)))
    go (a_scale m t e) h rest = let k = subst (λ (x : Item). HoldsItem x (λ (s : Slot). values_for s f) (run (step u line) lines)) e h in rw e (k.solution, k.inverse)
    go (a_part q i e c r) h rest = clash (scaled u.loader.stage) (not-false _ (rw e at (accepted u s line lines a).fine.early)) before
    go (an_end e) h rest = clash (scaled u.loader.stage) (not-false _ (rw e at (accepted u s line lines a).fine.early)) before

-- the line that gave n, and the one that gave s and t
pub problem_given : (u : State) → SoundLoader u.loader → (lines : List (List ℕ)) → Accepts u lines → sized u.loader.stage ≡ false → sized (run u lines).loader.stage ≡ true
    → (f : Form) × Among f (forms lines) × (m : ℤ) × (item_of f ≡ Problem m)
unfolding run
problem_given u s [] a before now = clash (sized u.loader.stage) now before
problem_given u s (line ∷ lines) a before now = rw (first_form u s line lines a) (go (the_view u s line lines a))
  where
    f : Form
    f = form u s line lines a

    go : View u.loader.n f → (g : Form) × Among g (f ∷ forms lines) × (m : ℤ) × (item_of g ≡ Problem m)
    go (a_problem m e) = (f, here, m, e)
    go (a_scale m t e) = clash (sized u.loader.stage) (not-false _ (rw e at (accepted u s line lines a).fine.early)) before
    go (a_part q i e c r) = clash (sized u.loader.stage) (late u.loader.stage (rw e at (accepted u s line lines a).fine.early)) before
    go (an_end e) = clash (sized u.loader.stage) (late u.loader.stage (rw e at (accepted u s line lines a).fine.early)) before

pub scale_given : (u : State) → SoundLoader u.loader → (lines : List (List ℕ)) → Accepts u lines → scaled u.loader.stage ≡ false → scaled (run u lines).loader.stage ≡ true
    → (f : Form) × Among f (forms lines) × (x : ℤ) × (y : ℤ) × (item_of f ≡ Scale x y)
unfolding run
scale_given u s [] a before now = clash (scaled u.loader.stage) now before
scale_given u s (line ∷ lines) a before now =
    rw (first_form u s line lines a)
    (go (the_view u s line lines a) (λ b. scale_given (step u line) (line_sound u.loader u.lists line s) lines a.1 b now))
  where
    f : Form
    f = form u s line lines a

    go : View u.loader.n f → (scaled (step u line).loader.stage ≡ false → (g : Form) × Among g (forms lines) × (x : ℤ) × (y : ℤ) × (item_of g ≡ Scale x y))
        → (g : Form) × Among g (f ∷ forms lines) × (x : ℤ) × (y : ℤ) × (item_of g ≡ Scale x y)
    go (a_problem m e) rest = let r = rest (rw ((accepted u s line lines a).loader, e)) in (r.0, there r.1, r.2, r.3, r.4)
    go (a_scale m t e) rest = (f, here, m, t, e)
    go (a_part q i e c r) rest = clash (scaled u.loader.stage) (not-false _ (rw e at (accepted u s line lines a).fine.early)) before
    go (an_end e) rest = clash (scaled u.loader.stage) (not-false _ (rw e at (accepted u s line lines a).fine.early)) before
