-- A weight that no line gives is 1 after an accepted end.
--   WeightsFilled, run_filled — at a loader that has ended every weight that was not given is 1; so it is after a run of accepted lines
--   waits         — before that a weight that was not given is what it was: no line but the end writes it
--   not_given_lem, value_absent — what was not given in the end no form of the lines gives, and `absent` stands for it
use mathlib.Core.Path.{◌≡◌, refl, sym, subst}
use mathlib.Core.Bool.{Bool, true, false}
use mathlib.Core.List.{List, [], ◌∷◌}
use Prim.Native.Nat.{ℕ, ◌≤◌}
use native.Mathlib.Omega.{arith}
use lib.IntN.{pos, nat_abs}
use Rattle.integer.proofs.Search.{clash}
use Rattle.rules.proofs.Ranges.{size_range}
use Rattle.line_form.specs.Form.{Form}
use Rattle.loader_values.specs.Item.{item_of}
use Rattle.loader_values.specs.declared.Item.{Item}
use Rattle.loader_values.specs.declared.Item.TheVariants.{Of}
use Rattle.loader_values.proofs.Between.{from_to_lem}
use Rattle.loader_values.proofs.Capped.{part_same}
use Rattle.loader_values.specs.declared.Part.{Part}
use Rattle.loader_values.specs.declared.Part.TheVariants as part
use Rattle.loader_lists.specs.Slot.{Slot, Weight, part_of, values_for}
use Rattle.loader_lists.specs.Put.{put_all, closed}
use Rattle.loader_lists.proofs.Lists.{long_lent}
use Rattle.loader_progress.specs.Progress.{set_of, given, marked, ended}
use Rattle.loader_progress.proofs.Progress.{late, placed_of}
use Rattle.loader.specs.Taken.{after}
use Rattle.loader.proofs.Accepted.{AcceptedLine, accepted_form}
use Rattle.loader_runs.specs.Run.{State, step, forms}
use Rattle.loader_runs.specs.Accepts.{run, Accepts, after_form}
use Rattle.loader_runs.specs.Given.{is_of, absent, value_from}
use Rattle.integer.specs.Among.{Among, here, there}
use Rattle.loader_runs.specs.Holds.{HoldsItem, cell}
use Rattle.loader_runs.proofs.Sound.{SoundLoader, line_sound}
use Rattle.loader_runs.proofs.Cells.{cell_problem, cell_scale, cell_else, cell_one}
use Rattle.loader_runs.proofs.Marks.{given_own}
use Rattle.loader_runs.proofs.View.{View, view, a_problem, a_scale, a_part, an_end}
use Rattle.loader_runs.proofs.Runs.{step_next, is_of_lem, collected}

-- ---- the ones
abbrev pub WeightsFilled : State → Type 0
WeightsFilled u = ended u.loader.stage ≡ true → (k : ℕ) → 1 ≤ k → k ≤ u.loader.n → given u.loader.sets part.Weight k ≡ false → cell u.lists u.loader.n Weight k 0 ≡ pos 1

module _ (u : State) (sound : SoundLoader u.loader) {line : List ℕ} {g : Form} (a : AcceptedLine u.loader u.lists line g) where
  -- the state after g, g giving the item y
  abbrev by : Item → State
  by y = record { loader = after u.loader y; lists = closed u.loader.n (set_of u.loader.sets part.Weight) y (put_all u.loader.n g u.lists) }

  by_item : {y : Item} → item_of g ≡ y → WeightsFilled (by y) → WeightsFilled (after_form u g)
  by_item e h = subst (λ (y : Item). WeightsFilled (by y)) (sym e) h

  by_view : View u.loader.n g → WeightsFilled (after_form u g)
  by_view (a_problem m e) = by_item e (λ q. clash false q refl)
  by_view (a_scale s t e) = by_item e (λ q. clash false q refl)
  by_view (a_part p i e count inside) = by_item e (λ q. clash (ended u.loader.stage) q a.going)
  by_view (an_end e) =
      let n = size_range u.loader.n (sound.size (late u.loader.stage (rw e at a.fine.early))) in
      by_item e (λ q k f t h. cell_one u.loader.n g u.lists (set_of u.loader.sets part.Weight) e k f t (omega (arith, n.1, (long_lent u.lists a.long).weights)) h)

  step_filled : WeightsFilled (step u line)
  step_filled = subst (λ (v : State). WeightsFilled v) (sym (step_next u a)) (by_view (view u.loader.n g a.fine.outside a.fine.miscounted))

pub run_filled : (u : State) → SoundLoader u.loader → (lines : List (List ℕ)) → Accepts u lines → WeightsFilled u → WeightsFilled (run u lines)
unfolding run
run_filled u s [] a h = h
run_filled u s (line ∷ lines) a h =
    run_filled (step u line) (line_sound u.loader u.lists line s) lines a.1 (step_filled u s (accepted_form u.loader u.lists line a.0).1)

-- ---- before the end
module _ (u : State) (sound : SoundLoader u.loader) {line : List ℕ} {g : Form} (a : AcceptedLine u.loader u.lists line g) where
  abbrev Waits : State → Type 0
  Waits v = ended v.loader.stage ≡ false → (k : ℕ) → 1 ≤ k → given v.loader.sets part.Weight k ≡ false → cell v.lists v.loader.n Weight k 0 ≡ cell u.lists u.loader.n Weight k 0

  waits_item : {y : Item} → item_of g ≡ y → Waits (by u sound a y) → Waits (after_form u g)
  waits_item e h = subst (λ (y : Item). Waits (by u sound a y)) (sym e) h

  own : (p : Part) (i : ℕ) {q : Part} {k : ℕ} → q ≡ p → k ≡ i → given (marked u.loader.sets p i) q k ≡ true
  own p i {q} {k} x y =
      subst (λ (m : ℕ). given (marked u.loader.sets p i) q m ≡ true) (sym y)
      (subst (λ (r : Part). given (marked u.loader.sets p i) r i ≡ true) (sym x) (given_own u.loader.sets sound.five p i))

  waits_view : View u.loader.n g → Waits (after_form u g)
  waits_view (a_problem m e) = waits_item e (λ q k f h. cell_problem u.loader.n g u.lists e Weight k 0)
  waits_view (a_scale s t e) = waits_item e (λ q k f h. cell_scale u.loader.n g u.lists e Weight k 0)
  waits_view (a_part p i e count inside) =
      let b = from_to_lem 1 u.loader.n i (placed_of u.loader.stage u.loader.n (Of p i) (rw e at a.fine.misplaced)) in
      waits_item e
      (λ q k f h. cell_else u.loader.n g u.lists e count b.from Weight k 0 f (omega arith)
      (λ x y. clash (given (marked u.loader.sets p (nat_abs i)) part.Weight k) (own p (nat_abs i) (part_same part.Weight p x) y) h))
  waits_view (an_end e) = waits_item e (λ q. clash true refl q)

  pub waits : Waits (step u line)
  waits = subst (λ (v : State). Waits v) (sym (step_next u a)) (waits_view (view u.loader.n g a.fine.outside a.fine.miscounted))

-- ---- what no line gives
pub not_given_lem : (u : State) → SoundLoader u.loader → (lines : List (List ℕ)) → Accepts u lines → (p : Part) (k : ℕ) → given (run u lines).loader.sets p k ≡ false
    → (f : Form) → Among f (forms lines) → is_of p k (item_of f) ≡ false
not_given_lem u s lines a p k g f i = go (is_of p k (item_of f)) refl
  where
    go : (b : Bool) → is_of p k (item_of f) ≡ b → b ≡ false
    go false e = refl
    go true e =
        let x = is_of_lem p k (item_of f) e in
        let h = subst (λ (y : Item). HoldsItem y (λ (z : Slot). values_for z f) (run u lines)) x.1 (collected u s lines a f i) in
        clash (given (run u lines).loader.sets p k) (rw x.2 h.mark) g

pub value_absent : (s : Slot) (k j : ℕ) (fs : List Form) → ((f : Form) → Among f fs → is_of (part_of s) k (item_of f) ≡ false) → value_from fs s k j ≡ absent s
unfolding value_from
value_absent s k j [] h = refl
value_absent s k j (f ∷ fs) h = rw (h f here) (value_absent s k j fs (λ g i. h g (there i)))
