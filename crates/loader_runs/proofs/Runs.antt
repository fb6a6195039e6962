-- A run of accepted lines holds exactly what its lines' forms give.
--   collected  — every one of their forms is held at the end
--   found      — what is given at the end, and was not at the start, was given by one of the lines, and has that line's numbers
use mathlib.Core.Path.{◌≡◌, refl, sym, ap, subst, ◌∙◌}
use mathlib.Core.Bool.{Bool, true, false}
use mathlib.Core.List.{List, [], ◌∷◌}
use mathlib.Core.Option.{some}
use Prim.Native.Nat.{ℕ, ◌≤◌}
use borrow.Author.Tests.{eqb-true, eq-eqb}
use lib.Dec.{eqb}
use lib.IntN.{ℤ, pos, nat_abs}
use lib.ListN.{get_or}
use Rattle.integer.proofs.Search.{clash}
use Rattle.rules.proofs.Ranges.{both_left, both_right}
use Rattle.line_form.specs.Form.{Form}
use Rattle.line_form.specs.Reading.{reading}
use Rattle.loader_values.specs.Item.{item_of, part_index, placed}
use Rattle.loader_values.specs.declared.Item.{Item}
use Rattle.loader_values.specs.declared.Item.TheVariants.{Problem, Scale, Of, End}
use Rattle.loader_values.specs.declared.Part.{Part}
use Rattle.loader_values.proofs.Capped.{part_same}
use Rattle.loader_values.proofs.Between.{from_to_lem}
use Rattle.loader_progress.specs.Progress.{given}
use Rattle.loader_progress.proofs.Progress.{placed_of}
use Rattle.loader.specs.declared.Loader.{Loader}
use Rattle.loader.specs.Taken.{after}
use Rattle.loader.proofs.Accepted.{AcceptedLine, accepted_form}
use Rattle.loader_runs.specs.Run.{State, step, forms}
use Rattle.loader_runs.specs.Accepts.{after_form, run, Accepts}
use Rattle.loader_lists.specs.Slot.{Slot, part_of, values_for}
use Rattle.loader_runs.specs.Given.{is_of, value_from}
use Rattle.integer.specs.Among.{Among, here, there}
use Rattle.loader_runs.specs.Holds.{HoldsForm}
use Rattle.loader_runs.proofs.Sound.{SoundLoader, line_sound}
use Rattle.loader_runs.proofs.Collected.{holds_own, holds_kept}
use Rattle.loader_runs.proofs.Marks.{given_else}

-- ---- one line
pub step_next : (u : State) {line : List ℕ} {f : Form} → AcceptedLine u.loader u.lists line f → step u line ≡ after_form u f
step_next u a = λ i. record { loader = a.loader i; lists = a.lists i }

module _ (u : State) (sound : SoundLoader u.loader) {line : List ℕ} {g : Form} (a : AcceptedLine u.loader u.lists line g) where
  pub step_own : HoldsForm g (step u line)
  step_own = rw (step_next u a) (holds_own u sound g a.fine a.long)

  step_kept : (f : Form) → HoldsForm f u → HoldsForm f (step u line)
  step_kept f h = rw (step_next u a) (holds_kept u sound g a.fine a.going f h)

-- ---- all lines
pub kept_all : (u : State) → SoundLoader u.loader → (lines : List (List ℕ)) → Accepts u lines → (f : Form) → HoldsForm f u → HoldsForm f (run u lines)
unfolding run
kept_all u s [] a f h = h
kept_all u s (line ∷ lines) a f h =
    let r = accepted_form u.loader u.lists line a.0 in
    kept_all (step u line) (line_sound u.loader u.lists line s) lines a.1 f (step_kept u s r.1 f h)

pub forms_next : (line : List ℕ) {f : Form} (lines : List (List ℕ)) → reading line ≡ some f → forms (line ∷ lines) ≡ f ∷ forms lines
unfolding forms
forms_next line lines e = rw e

no_forms : List Form → Bool
no_forms [] = true
no_forms (f ∷ fs) = false

in_some : {f : Form} {fs : List Form} → Among f fs → no_forms fs ≡ false
unfolding no_forms
in_some here = refl
in_some (there i) = refl

in_cases : (P : Form → Type 0) {f g : Form} {fs : List Form} → Among f (g ∷ fs) → P g → (Among f fs → P f) → P f
in_cases P here h rest = h
in_cases P (there i) h rest = rest i

some_forms : no_forms (forms []) ≡ false → true ≡ false
unfolding no_forms forms
some_forms e = e

pub collected : (u : State) → SoundLoader u.loader → (lines : List (List ℕ)) → Accepts u lines → (f : Form) → Among f (forms lines) → HoldsForm f (run u lines)
unfolding run
collected u s [] a f i = clash true refl (some_forms (in_some i))
collected u s (line ∷ lines) a f i =
    let r = accepted_form u.loader u.lists line a.0 in
    let s' = line_sound u.loader u.lists line s in
    in_cases (λ (g : Form). HoldsForm g (run (step u line) lines)) (subst (λ (fs : List Form). Among f fs) (forms_next line lines r.1.reads) i)
    (kept_all (step u line) s' lines a.1 r.0 (step_own u s r.1))
    (collected (step u line) s' lines a.1 f)

-- ---- what is given was given by a line
pub is_of_lem : (p : Part) (k : ℕ) (x : Item) → is_of p k x ≡ true → (i : ℤ) × (x ≡ Of p i) × (k ≡ nat_abs i)
is_of_lem p k (Problem n) e = clash false e refl
is_of_lem p k (Scale s t) e = clash false e refl
is_of_lem p k (Of q i) e =
    let a = eqb-true (part_index p) (part_index q) (both_left (eqb (part_index p) (part_index q)) (eqb k (nat_abs i)) e) in
    let b = eqb-true k (nat_abs i) (both_right (eqb (part_index p) (part_index q)) (eqb k (nat_abs i)) e) in
    (i, ap (λ (r : Part). Of r i) (sym (part_same p q a)), b)
is_of_lem p k End e = clash false e refl

-- a form of another part, or for another number, marks nothing there
other_marks : (d : Loader) → SoundLoader d → (p : Part) (k : ℕ) → 1 ≤ k → (x : Item) → placed d.n x ≡ true → is_of p k x ≡ false → given (after d x).sets p k ≡ given d.sets p k
other_marks d s p k l (Problem n) h e = refl
other_marks d s p k l (Scale a b) h e = refl
other_marks d s p k l (Of q i) h e =
    given_else d.sets s.five q (nat_abs i) p k l (from_to_lem 1 d.n i h).from
    (λ a b. clash (is_of p k (Of q i)) (rw (eq-eqb (part_index p) (part_index q) a, eq-eqb k (nat_abs i) b)) e)
other_marks d s p k l End h e = refl

-- the line that gave the part p for the number k, and its numbers
pub record FoundForm (p : Part) (k : ℕ) (fs : List Form) : Type 0 where
  pub form : Form
  pub among : Among form fs
  pub place : ℤ
  pub item : item_of form ≡ Of p place
  pub number : k ≡ nat_abs place
  pub values : (s : Slot) → part_of s ≡ p → (j : ℕ) → value_from fs s k j ≡ get_or (values_for s form) j (pos 0)

found_next : (p : Part) (k : ℕ) (f : Form) (fs : List Form) → is_of p k (item_of f) ≡ false → FoundForm p k fs → FoundForm p k (f ∷ fs)
unfolding value_from
found_next p k f fs e h = record { form = h.form; among = there h.among; place = h.place; item = h.item; number = h.number; values = λ s o j. rw (o, e) (h.values s o j) }

found_here : (p : Part) (k : ℕ) (f : Form) (fs : List Form) → is_of p k (item_of f) ≡ true → FoundForm p k (f ∷ fs)
unfolding value_from
found_here p k f fs e = let i = is_of_lem p k (item_of f) e in record { form = f; among = here; place = i.0; item = i.1; number = i.2; values = λ s o j. rw (o, e) }

pub found : (p : Part) (k : ℕ) → 1 ≤ k → (u : State) → SoundLoader u.loader → (lines : List (List ℕ)) → Accepts u lines
    → given u.loader.sets p k ≡ false → given (run u lines).loader.sets p k ≡ true → FoundForm p k (forms lines)
unfolding run
found p k l u s [] a before after = clash (given u.loader.sets p k) after before
found p k l u s (line ∷ lines) a before now =
    rw (forms_next line lines r.1.reads) (go (is_of p k (item_of r.0)) refl (λ b. found p k l (step u line) (line_sound u.loader u.lists line s) lines a.1 b now))
  where
    r : (g : Form) × AcceptedLine u.loader u.lists line g
    r = accepted_form u.loader u.lists line a.0

    same : is_of p k (item_of r.0) ≡ false → given (step u line).loader.sets p k ≡ false
    same e =
        rw r.1.loader
        (other_marks u.loader s p k l (item_of r.0) (placed_of u.loader.stage u.loader.n (item_of r.0) r.1.fine.misplaced) e ∙ before)

    go : (b : Bool) → is_of p k (item_of r.0) ≡ b → (given (step u line).loader.sets p k ≡ false → FoundForm p k (forms lines)) → FoundForm p k (r.0 ∷ forms lines)
    go true e rest = found_here p k r.0 (forms lines) e
    go false e rest = found_next p k r.0 (forms lines) e (rest (same e))
