-- An accepted form by what it gives.
--   View, view — problem with n, scale with s and t, a part's form with its numbers, all of them in range, or the end
use mathlib.Core.Path.{◌≡◌, refl, sym, subst, ◌∙◌}
use mathlib.Core.Bool.{true, false, not, ◌&&◌}
use mathlib.Core.List.{List, [], ◌∷◌}
use Prim.Native.Nat.{ℕ, zero, suc, ◌<◌}
use native.Mathlib.Omega.{arith}
use borrow.Author.Tests.{not-false, eqb-true}
use lib.Dec.{eqb}
use lib.IntN.{ℤ, pos}
use lib.ListN.{length, get_or}
use Rattle.rules.specs.Range.{in_range}
use Rattle.rules.specs.declared.Kind.{Kind}
use Rattle.rules.specs.declared.Kind.TheVariants as kind
use Rattle.rules.proofs.Ranges.{both_left, both_right, zero_tolerance}
use Rattle.line_form.specs.Form.{Form, problem, scale, row, right, right_within, guess, inverse, weight, end}
use Rattle.line_form.specs.List.{all_inside}
use Rattle.loader_values.specs.Item.{item_of, outside, miscounted}
use Rattle.loader_values.specs.declared.Item.TheVariants.{Problem, Scale, Of, End}
use Rattle.loader_values.specs.declared.Part.{Part}
use Rattle.loader_values.specs.declared.Part.TheVariants.{Row, Right, Guess, Inverse, Weight}
use Rattle.loader_lists.specs.Slot.{Slot, part_of, width, right_value, values_for}
use Rattle.loader_lists.proofs.Slot.{slot_of, of_part, of_right, other_part}
use Rattle.loader_runs.specs.Holds.{kind_for}

pub data View (n : ℕ) (f : Form) : Type 0 where
  a_problem : (m : ℤ) → item_of f ≡ Problem m → View n f
  a_scale : (s t : ℤ) → item_of f ≡ Scale s t → View n f
  a_part : (q : Part) (i : ℤ) → item_of f ≡ Of q i → ((s : Slot) → part_of s ≡ q → length (values_for s f) ≡ width s n)
      → ((s : Slot) → part_of s ≡ q → (j : ℕ) → j < width s n → in_range (kind_for s) (get_or (values_for s f) j (pos 0)) ≡ true) → View n f
  an_end : item_of f ≡ End → View n f

inside_at : (k : Kind) (zs : List ℤ) → all_inside k zs ≡ true → (j : ℕ) → j < length zs → in_range k (get_or zs j (pos 0)) ≡ true
unfolding all_inside
inside_at k [] h j l = absurd (omega arith)
inside_at k (z ∷ zs) h zero l = both_left (in_range k z) (all_inside k zs) h
inside_at k (z ∷ zs) h (suc j) l = inside_at k zs (both_right (in_range k z) (all_inside k zs) h) j (omega arith)

list_inside : (k : Kind) (n : ℕ) (zs : List ℤ) → not (all_inside k zs) ≡ false → not (eqb (length zs) n) ≡ false → (j : ℕ) → j < n → in_range k (get_or zs j (pos 0)) ≡ true
list_inside k n zs o c j l = inside_at k zs (not-false _ o) j (omega (arith, eqb-true (length zs) n (not-false _ c)))

single_inside : (k : Kind) (z : ℤ) → in_range k z ≡ true → (j : ℕ) → j < 1 → in_range k (get_or (z ∷ []) j (pos 0)) ≡ true
single_inside k z o zero l = o
single_inside k z o (suc j) l = absurd (omega arith)

-- what holds of the list of a part other than right holds of every list of that part
module _ (n : ℕ) (p : Part) (other : p ≡ Right → ⊥) (zs : List ℤ) where
  count_of : length zs ≡ width (slot_of p) n → (s : Slot) → part_of s ≡ p → length zs ≡ width s n
  count_of h s e = rw (of_part s e other) h

  inside_of : ((j : ℕ) → j < width (slot_of p) n → in_range (kind_for (slot_of p)) (get_or zs j (pos 0)) ≡ true) → (s : Slot) → part_of s ≡ p → (j : ℕ) → j < width s n
      → in_range (kind_for s) (get_or zs j (pos 0)) ≡ true
  inside_of h s e = subst (λ (t : Slot). (j : ℕ) → j < width t n → in_range (kind_for t) (get_or zs j (pos 0)) ≡ true) (sym (of_part s e other)) h

listed_viewed : (n : ℕ) (k : Kind) (p : Part) → (p ≡ Right → ⊥) → (i : ℤ) (f : Form) (zs : List ℤ) → kind_for (slot_of p) ≡ k → width (slot_of p) n ≡ n → item_of f ≡ Of p i → ((s : Slot) → values_for s f ≡ zs)
    → not (all_inside k zs) ≡ false → not (eqb (length zs) n) ≡ false → View n f
listed_viewed n k p other i f zs ek ew e vs o c =
    a_part p i e (λ s h. rw (vs s) (count_of n p other zs (eqb-true (length zs) n (not-false _ c) ∙ sym ew) s h))
    (λ s h. rw (vs s) (inside_of n p other zs (rw (ek, ew) (list_inside k n zs o c)) s h))

single_viewed : (n : ℕ) (k : Kind) (p : Part) → (p ≡ Right → ⊥) → (i : ℤ) (f : Form) (z : ℤ) → kind_for (slot_of p) ≡ k → width (slot_of p) n ≡ 1 → item_of f ≡ Of p i → ((s : Slot) → values_for s f ≡ z ∷ [])
    → not (in_range k z) ≡ false → View n f
single_viewed n k p other i f z ek ew e vs o =
    a_part p i e (λ s h. rw (vs s) (count_of n p other (z ∷ []) (sym ew) s h)) (λ s h. rw (vs s) (inside_of n p other (z ∷ []) (rw (ek, ew) (single_inside k z (not-false _ o))) s h))

-- a right side has two lists
right_viewed : (n : ℕ) (i b d : ℤ) (f : Form) → item_of f ≡ Of Right i → ((s : Slot) → values_for s f ≡ right_value s b d ∷ []) → in_range kind.Right b ≡ true → in_range kind.Tolerance d ≡ true
    → View n f
right_viewed n i b d f e vs hb hd =
    a_part Right i e (λ s h. rw (vs s) (of_right (λ t. 1 ≡ width t n) refl refl s h))
    (λ s h. rw (vs s)
    (of_right (λ t. (j : ℕ) → j < width t n → in_range (kind_for t) (get_or (right_value t b d ∷ []) j (pos 0)) ≡ true) (single_inside kind.Right b hb) (single_inside kind.Tolerance d hd) s h))

pub view : (n : ℕ) (f : Form) → outside f ≡ false → miscounted n f ≡ false → View n f
view n (problem m) o c = a_problem m refl
view n (scale s t) o c = a_scale s t refl
view n (row i a others) o c = listed_viewed n kind.Matrix Row (λ e. other_part e tt) i (row i a others) (a ∷ others) refl refl refl (λ s. refl) o c
view n (right i b) o c = right_viewed n i b (pos 0) (right i b) refl (λ s. refl) (not-false _ o) zero_tolerance
view n (right_within i b d) o c =
    let h : in_range kind.Right b && in_range kind.Tolerance d ≡ true = not-false _ o in
    right_viewed n i b d (right_within i b d) refl (λ s. refl) (both_left (in_range kind.Right b) (in_range kind.Tolerance d) h) (both_right (in_range kind.Right b) (in_range kind.Tolerance d) h)
view n (guess i x) o c = single_viewed n kind.Guess Guess (λ e. other_part e tt) i (guess i x) x refl refl refl (λ s. refl) o
view n (inverse i g others) o c = listed_viewed n kind.Inverse Inverse (λ e. other_part e tt) i (inverse i g others) (g ∷ others) refl refl refl (λ s. refl) o c
view n (weight i w) o c = single_viewed n kind.Weight Weight (λ e. other_part e tt) i (weight i w) w refl refl refl (λ s. refl) o
view n end o c = an_end refl
