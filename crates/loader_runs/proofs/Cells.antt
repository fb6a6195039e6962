-- The numbers of the lists after a form.
--   sets_before, sets_inside, sets_after — a number of a list after a run of stores
--   rows_apart — the numbers for different i stand apart
--   cell_own   — a form's own cells hold its numbers;  cell_else — every other cell is as before
--   cell_end, cell_one — at an end, too, but for the weights that were not given, which are 1
use mathlib.Core.Path.{◌≡◌, refl, ap, ◌∙◌}
use mathlib.Core.Bool.{Bool, true, false, cond}
use mathlib.Core.List.{List, [], ◌∷◌}
use Prim.Native.Nat.{ℕ, zero, suc, ◌+◌, ◌*◌, ◌-◌, ◌≤◌, ◌<◌}
use native.Mathlib.Decide.{dec_lt}
use native.Mathlib.Nat.{add-zero, suc-mul, mul-le-mul_right}
use native.Mathlib.Omega.{arith}
use borrow.Author.Tests.{eq-eqb, eqb-true}
use lib.Dec.{eqb}
use lib.IntN.{ℤ, pos, nat_abs}
use lib.ListN.{length, get_or, set, length-set}
use lib.Seq.{sets, get_or-set_same, get_or-set_other}
use Rattle.line_form.specs.Form.{Form}
use Rattle.loader_values.specs.Item.{item_of, part_index}
use Rattle.loader_values.specs.declared.Item.TheVariants.{Problem, Scale, Of, End}
use Rattle.loader_values.specs.declared.Part.{Part}
use Rattle.loader_values.proofs.Capped.{part_same}
use Rattle.loader_lists.specs.Slot.{Slot, Matrix, Right, Tolerance, Guess, Inverse, Weight, part_of, width, values_for}
use Rattle.loader_lists.specs.Lists.{Lists}
use Rattle.loader_lists.specs.ListOf.{list_of}
use Rattle.loader_lists.specs.Put.{put, put_all, closed}
use Rattle.loader_lists.proofs.Filled.{filled_given, filled_one}
use Rattle.loader_bit_set.specs.Places.{has_place}
use Rattle.loader_runs.specs.Holds.{cell}

-- ---- a run of stores
pub sets_before : (vs l : List ℤ) (k m : ℕ) → m < k → get_or (sets l k vs) m (pos 0) ≡ get_or l m (pos 0)
sets_before [] l k m h = refl
sets_before (a ∷ vs) l k m h = sets_before vs (set l k a) (suc k) m (omega arith) ∙ get_or-set_other l k m a (pos 0) (λ e. omega arith)

pub sets_after : (vs l : List ℤ) (k m : ℕ) → k + length vs ≤ m → get_or (sets l k vs) m (pos 0) ≡ get_or l m (pos 0)
sets_after [] l k m h = refl
sets_after (a ∷ vs) l k m h = sets_after vs (set l k a) (suc k) m (omega arith) ∙ get_or-set_other l k m a (pos 0) (λ e. omega arith)

sets_inside : (vs l : List ℤ) (k j : ℕ) → j < length vs → k + length vs ≤ length l → get_or (sets l k vs) (k + j) (pos 0) ≡ get_or vs j (pos 0)
sets_inside [] l k j h q = absurd (omega arith)
sets_inside (a ∷ vs) l k zero h q =
    ap (λ (m : ℕ). get_or (sets (set l k a) (suc k) vs) m (pos 0)) (add-zero k)
    ∙ sets_before vs (set l k a) (suc k) k (omega arith)
    ∙ get_or-set_same l k a (pos 0) (omega arith)
sets_inside (a ∷ vs) l k (suc j) h q =
    let e : k + suc j ≡ suc k + j = omega arith in
    ap (λ (m : ℕ). get_or (sets (set l k a) (suc k) vs) m (pos 0)) e
    ∙ sets_inside vs (set l k a) (suc k) j (omega arith) (rw length-set (omega arith))

-- ---- rows
rows_apart : (w i k j : ℕ) → 1 ≤ i → i < k → j < w → (i - 1) * w + j < (k - 1) * w
rows_apart w i k j h l q = omega (arith, suc-mul (i - 1) w, mul-le-mul_right {m = suc (i - 1)} {n = k - 1} w (omega arith))

module _ (w : ℕ) (vs l : List ℤ) (i : ℕ) (from : 1 ≤ i) (count : length vs ≡ w) where
  row_else : (k j : ℕ) → 1 ≤ k → j < w → (k ≡ i → ⊥) → get_or (sets l ((i - 1) * w) vs) ((k - 1) * w + j) (pos 0) ≡ get_or l ((k - 1) * w + j) (pos 0)
  row_else k j h q e = go (dec_lt k i)
    where
      go : Dec (k < i) → get_or (sets l ((i - 1) * w) vs) ((k - 1) * w + j) (pos 0) ≡ get_or l ((k - 1) * w + j) (pos 0)
      go (yes r) = sets_before vs l ((i - 1) * w) ((k - 1) * w + j) (rows_apart w k i j h r q)
      go (no r) =
          let less : i < k = omega arith in
          sets_after vs l ((i - 1) * w) ((k - 1) * w + j) (rw count (omega (arith, suc-mul (i - 1) w, mul-le-mul_right {m = suc (i - 1)} {n = k - 1} w (omega arith))))

  row_own : (j : ℕ) → j < w → i ≤ 32 → 32 * w ≤ length l → get_or (sets l ((i - 1) * w) vs) ((i - 1) * w + j) (pos 0) ≡ get_or vs j (pos 0)
  row_own j q to fits =
      sets_inside vs l ((i - 1) * w) j (omega arith) (rw count (omega (arith, suc-mul (i - 1) w, mul-le-mul_right {m = suc (i - 1)} {n = 32} w (omega arith))))

-- ---- cells
list_put : (s : Slot) (n : ℕ) (f : Form) (l : Lists) → list_of s (put_all n f l) ≡ put s n f (list_of s l)
list_put Matrix n f l = refl
list_put Right n f l = refl
list_put Tolerance n f l = refl
list_put Guess n f l = refl
list_put Inverse n f l = refl
list_put Weight n f l = refl

module _ (n : ℕ) (f : Form) (l : Lists) where
  cell_put : (s : Slot) (k j : ℕ) → cell (put_all n f l) n s k j ≡ get_or (put s n f (list_of s l)) ((k - 1) * width s n + j) (pos 0)
  cell_put s k j = ap (λ (x : List ℤ). get_or x ((k - 1) * width s n + j) (pos 0)) (list_put s n f l)

  pub cell_problem : {m : ℤ} → item_of f ≡ Problem m → (s : Slot) (k j : ℕ) → cell (put_all n f l) n s k j ≡ cell l n s k j
  cell_problem e s k j = cell_put s k j ∙ rw e

  pub cell_scale : {u v : ℤ} → item_of f ≡ Scale u v → (s : Slot) (k j : ℕ) → cell (put_all n f l) n s k j ≡ cell l n s k j
  cell_scale e s k j = cell_put s k j ∙ rw e

  -- an end: a weight that was not given is 1, and every other number is as before
  module _ (z : ℕ) (e : item_of f ≡ End) where
    abbrev after : Lists
    after = closed n z End (put_all n f l)

    pub cell_end : (s : Slot) (k j : ℕ) → 1 ≤ k → j < width s n → (s ≡ Weight → has_place z (k - 1) ≡ true) → cell after n s k j ≡ cell l n s k j
    cell_end Matrix k j h r g = cell_put Matrix k j ∙ rw e
    cell_end Right k j h r g = cell_put Right k j ∙ rw e
    cell_end Tolerance k j h r g = cell_put Tolerance k j ∙ rw e
    cell_end Guess k j h r g = cell_put Guess k j ∙ rw e
    cell_end Inverse k j h r g = cell_put Inverse k j ∙ rw e
    cell_end Weight k j h r g =
        let p : (k - 1) * 1 + j ≡ k - 1 = omega arith in
        filled_given n z (put_all n f l).weights ((k - 1) * 1 + j) (rw p (g refl)) ∙ cell_put Weight k j ∙ rw e

    pub cell_one : (k : ℕ) → 1 ≤ k → k ≤ n → n ≤ length l.weights → has_place z (k - 1) ≡ false → cell after n Weight k 0 ≡ pos 1
    cell_one k h t long g =
        let p : (k - 1) * 1 + 0 ≡ k - 1 = omega arith in
        let same : put Weight n f l.weights ≡ l.weights = rw e in
        rw (p, same) (filled_one n z l.weights (k - 1) g (omega arith) long)

  module _ {q : Part} {i : ℤ} (e : item_of f ≡ Of q i) (count : (s : Slot) → part_of s ≡ q → length (values_for s f) ≡ width s n) (from : 1 ≤ nat_abs i) where
    pub cell_own : (s : Slot) → part_of s ≡ q → (j : ℕ) → j < width s n → nat_abs i ≤ 32 → 32 * width s n ≤ length (list_of s l) → cell (put_all n f l) n s (nat_abs i) j ≡ get_or (values_for s f) j (pos 0)
    cell_own s o j h to fits =
        cell_put s (nat_abs i) j
        ∙ rw (e, eq-eqb (part_index (part_of s)) (part_index q) (ap (λ (p : Part). part_index p) o)) (row_own (width s n) (values_for s f) (list_of s l) (nat_abs i) from (count s o) j h to fits)

    pub cell_else : (s : Slot) (k j : ℕ) → 1 ≤ k → j < width s n → (part_index (part_of s) ≡ part_index q → k ≡ nat_abs i → ⊥) → cell (put_all n f l) n s k j ≡ cell l n s k j
    cell_else s k j h r other = cell_put s k j ∙ rw e (go (eqb (part_index (part_of s)) (part_index q)) refl)
      where
        go : (b : Bool) → eqb (part_index (part_of s)) (part_index q) ≡ b
            → get_or (cond b (sets (list_of s l) ((nat_abs i - 1) * width s n) (values_for s f)) (list_of s l)) ((k - 1) * width s n + j) (pos 0) ≡ cell l n s k j
        go false t = refl
        go true t =
            let x = eqb-true (part_index (part_of s)) (part_index q) t in
            row_else (width s n) (values_for s f) (list_of s l) (nat_abs i) from (count s (part_same (part_of s) q x)) k j h r (other x)
