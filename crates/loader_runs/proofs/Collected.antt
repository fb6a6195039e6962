-- An accepted form: the state holds what it gives, and what was given before.
--   holds_own    — a form that is accepted is held;  holds_kept — a form that is held stays so when another is accepted
use mathlib.Core.Path.{◌≡◌, refl, sym, ap, subst, ◌∙◌}
use mathlib.Core.Bool.{true, false, not}
use mathlib.Core.List.{List}
use Prim.Native.Nat.{ℕ, ◌*◌, ◌≤◌, ◌<◌}
use native.Mathlib.Omega.{arith}
use borrow.Author.Tests.{not-false}
use lib.IntN.{ℤ, pos, nat_abs}
use lib.ListN.{length, get_or}
use Rattle.integer.proofs.Search.{clash}
use Rattle.rules.specs.Range.{in_range}
use Rattle.line_form.specs.Form.{Form}
use Rattle.loader_values.specs.Item.{item_of, part_index, placed, outside, miscounted}
use Rattle.loader_values.specs.declared.Item.{Item}
use Rattle.loader_values.specs.declared.Item.TheVariants.{Problem, Scale, Of, End}
use Rattle.loader_values.specs.declared.Part.{Part}
use Rattle.loader_values.specs.declared.Part.TheVariants as part
use Rattle.loader_values.proofs.Capped.{part_same}
use Rattle.loader_lists.specs.Slot.{Slot, Matrix, Right, Tolerance, Guess, Inverse, Weight, part_of, width, values_for}
use Rattle.loader_lists.specs.Lists.{Lists, short_lists}
use Rattle.loader_lists.specs.ListOf.{list_of}
use Rattle.loader_lists.specs.Put.{put_all, closed}
use Rattle.loader_lists.proofs.Lists.{long_lent}
use Rattle.loader_values.proofs.Between.{from_to_lem}
use Rattle.loader_progress.specs.Progress.{set_of, given, sized, scaled, ended}
use Rattle.loader_progress.proofs.Progress.{scaled_sized, placed_of, size_of, late}
use Rattle.loader.specs.Taken.{after}
use Rattle.loader_order.proofs.CodeLaws.{Passed}
use Rattle.loader.proofs.Exact.{form_case}
use Rattle.loader_runs.specs.Run.{State}
use Rattle.loader_runs.specs.Accepts.{after_form}
use Rattle.loader_runs.specs.Holds.{HoldsForm, HoldsItem, HoldsPart, kind_for}
use Rattle.loader_runs.proofs.Sound.{SoundLoader}
use Rattle.loader_runs.proofs.Marks.{given_own, given_else}
use Rattle.loader_runs.proofs.View.{View, view, a_problem, a_scale, a_part, an_end}
use Rattle.loader_runs.proofs.Cells.{cell_own, cell_else, cell_end}

slot_room : (l : Lists) (n : ℕ) → n ≤ 32 → short_lists l ≡ false → (s : Slot) → 32 * width s n ≤ length (list_of s l)
slot_room l n h e Matrix = omega (arith, (long_lent l e).matrix)
slot_room l n h e Right = omega (arith, (long_lent l e).right)
slot_room l n h e Tolerance = omega (arith, (long_lent l e).tolerance)
slot_room l n h e Guess = omega (arith, (long_lent l e).guess)
slot_room l n h e Inverse = omega (arith, (long_lent l e).inverse)
slot_room l n h e Weight = omega (arith, (long_lent l e).weights)

module _ (u : State) (sound : SoundLoader u.loader) (g : Form) (fine : Passed (form_case u.loader g)) where
  -- the state after g, g giving the item y
  abbrev values : Slot → List ℤ
  values s = values_for s g

  abbrev by : Item → State
  by y = record { loader = after u.loader y; lists = closed u.loader.n (set_of u.loader.sets part.Weight) y (put_all u.loader.n g u.lists) }

  sized_part : {q : Part} {i : ℤ} → item_of g ≡ Of q i → (1 ≤ u.loader.n) × (u.loader.n ≤ 32)
  sized_part {q} {i} e =
      let a : not (scaled u.loader.stage) ≡ false = rw e at fine.early in
      size_of u.loader.stage u.loader.n (Of q i) (late u.loader.stage a) (rw e at fine.misplaced)

  placed_part : {q : Part} {i : ℤ} → item_of g ≡ Of q i → placed u.loader.n (Of q i) ≡ true
  placed_part {q} {i} e = placed_of u.loader.stage u.loader.n (Of q i) (rw e at fine.misplaced)

  -- ---- g itself
  module _ (long-lists : short_lists u.lists ≡ false) where
    own_part : (q : Part) (i : ℤ) → item_of g ≡ Of q i → ((s : Slot) → part_of s ≡ q → length (values s) ≡ width s u.loader.n)
        → ((s : Slot) → part_of s ≡ q → (j : ℕ) → j < width s u.loader.n → in_range (kind_for s) (get_or (values s) j (pos 0)) ≡ true)
        → HoldsItem (Of q i) values (by (Of q i))
    own_part q i e count inside =
        let a : not (scaled u.loader.stage) ≡ false = rw e at fine.early in
        let b = from_to_lem 1 u.loader.n i (placed_part e) in
        record {
          stage = not-false _ a;
          place = placed_part e;
          mark = given_own u.loader.sets sound.five q (nat_abs i);
          cells = λ s o j l.
              cell_own u.loader.n g u.lists e count b.from s o j l (omega (arith, b.to, (sized_part e).1)) (slot_room u.lists u.loader.n (sized_part e).1 long-lists s);
          inside = inside;
        }

    own_at : {x : Item} → item_of g ≡ x → HoldsItem x values (by x) → HoldsForm g (after_form u g)
    own_at e h = subst (λ (x : Item). HoldsItem x values (by x)) (sym e) h

    own_view : View u.loader.n g → HoldsForm g (after_form u g)
    own_view (a_problem m e) = own_at e (record { stage = refl; size = refl })
    own_view (a_scale s t e) = own_at e (record { stage = refl; solution = refl; inverse = refl })
    own_view (a_part q i e count inside) = own_at e (own_part q i e count inside)
    own_view (an_end e) = own_at e refl

    pub holds_own : HoldsForm g (after_form u g)
    holds_own = own_view (view u.loader.n g fine.outside fine.miscounted)

  -- ---- a form that was held before
  not_problem {ℓ} : {A : Type ℓ} {m : ℤ} → item_of g ≡ Problem m → sized u.loader.stage ≡ true → A
  not_problem e s = clash (sized u.loader.stage) s (rw e at fine.repeated)

  not_scale {ℓ} : {A : Type ℓ} {s t : ℤ} → item_of g ≡ Scale s t → scaled u.loader.stage ≡ true → A
  not_scale e s = clash (scaled u.loader.stage) s (rw e at fine.repeated)

  -- another part's form, or that of another number
  apart : (p : Part) (i : ℤ) {q : Part} {k : ℤ} → item_of g ≡ Of q k → given u.loader.sets p (nat_abs i) ≡ true → part_index p ≡ part_index q → nat_abs i ≡ nat_abs k → ⊥
  apart p i {q} {k} e m a b =
      let r : given u.loader.sets q (nat_abs k) ≡ false = rw e at fine.repeated in
      let s : given u.loader.sets q (nat_abs k) ≡ true = rw (← part_same p q a, ← b) m in
      clash (given u.loader.sets q (nat_abs k)) s r

  part_kept : {p q : Part} {i k : ℤ} {vs : Slot → List ℤ} → item_of g ≡ Of q k → ((s : Slot) → part_of s ≡ q → length (values s) ≡ width s u.loader.n) → HoldsPart p i vs u
      → HoldsPart p i vs (by (Of q k))
  part_kept {p} {q} {i} {k} {vs} e count h =
      let b = from_to_lem 1 u.loader.n i h.place in
      let c = from_to_lem 1 u.loader.n k (placed_part e) in
      record {
        stage = h.stage;
        place = h.place;
        mark = given_else u.loader.sets sound.five q (nat_abs k) p (nat_abs i) b.from c.from (apart p i e h.mark) ∙ h.mark;
        cells = λ s o j l.
            cell_else u.loader.n g u.lists e count c.from s (nat_abs i) j b.from l (λ x. apart p i e h.mark (rw (← o) x)) ∙ h.cells s o j l;
        inside = h.inside;
      }

  module _ (going : ended u.loader.stage ≡ false) where
    kept_at : (x : Item) (vs : Slot → List ℤ) {y : Item} → item_of g ≡ y → HoldsItem x vs (by y) → HoldsItem x vs (after_form u g)
    kept_at x vs e h = subst (λ (y : Item). HoldsItem x vs (by y)) (sym e) h

    kept_view : (x : Item) (vs : Slot → List ℤ) → HoldsItem x vs u → View u.loader.n g → HoldsItem x vs (after_form u g)
    kept_view (Problem n) vs h (a_problem m e) = not_problem e h.stage
    kept_view (Problem n) vs h (a_scale s t e) = kept_at (Problem n) vs e (record { stage = refl; size = h.size })
    kept_view (Problem n) vs h (a_part q k e count inside) = kept_at (Problem n) vs e (record { stage = h.stage; size = h.size })
    kept_view (Problem n) vs h (an_end e) = kept_at (Problem n) vs e (record { stage = refl; size = h.size })
    kept_view (Scale a b) vs h (a_problem m e) = not_problem e (scaled_sized u.loader.stage h.stage)
    kept_view (Scale a b) vs h (a_scale s t e) = not_scale e h.stage
    kept_view (Scale a b) vs h (a_part q k e count inside) = kept_at (Scale a b) vs e (record { stage = h.stage; solution = h.solution; inverse = h.inverse })
    kept_view (Scale a b) vs h (an_end e) = kept_at (Scale a b) vs e (record { stage = refl; solution = h.solution; inverse = h.inverse })
    kept_view (Of p i) vs h (a_problem m e) = not_problem e (scaled_sized u.loader.stage h.stage)
    kept_view (Of p i) vs h (a_scale s t e) = not_scale e h.stage
    kept_view (Of p i) vs h (a_part q k e count inside) = kept_at (Of p i) vs e (part_kept e count h)
    kept_view (Of p i) vs h (an_end e) =
        kept_at (Of p i) vs e
        (record {
          stage = refl;
          place = h.place;
          mark = h.mark;
          cells = λ s o j l.
              cell_end u.loader.n g u.lists (set_of u.loader.sets part.Weight) e s (nat_abs i) j (from_to_lem 1 u.loader.n i h.place).from l
              (λ q. subst (λ (r : Part). given u.loader.sets r (nat_abs i) ≡ true) (sym o ∙ ap part_of q) h.mark)
              ∙ h.cells s o j l;
          inside = h.inside;
        })
    kept_view End vs h v = clash (ended u.loader.stage) h going

    pub holds_kept : (f : Form) → HoldsForm f u → HoldsForm f (after_form u g)
    holds_kept f h = kept_view (item_of f) (λ (s : Slot). values_for s f) h (view u.loader.n g fine.outside fine.miscounted)
