-- What the code writes of a form that no test refuses is what the exact form leaves.
--   all_exact — in all lists
use mathlib.Core.Path.{◌≡◌, refl, sym, ap, ap₂, ◌∙◌}
use mathlib.Core.Bool.{Bool, true, false, not, ◌&&◌, cond}
use mathlib.Core.List.{List, [], ◌∷◌, ◌++◌}
use Prim.Native.Nat.{ℕ, zero, suc, ◌+◌, ◌*◌, ◌-◌, ◌≤◌}
use native.Mathlib.Omega.{arith}
use borrow.Author.Tests.{eqb-true, not-false}
use lib.Dec.{eqb}
use lib.IntN.{ℤ, pos, nat_abs}
use lib.ListN.{length, take, drop, set, replicate}
use lib.Seq.{sets, sets-eq, paste, paste-zero, length-take-le}
use Rattle.rules.specs.Range.{in_range}
use Rattle.rules.specs.declared.Kind.{Kind}
use Rattle.rules.specs.declared.Kind.TheVariants as kind
use Rattle.rules.proofs.Ranges.{both_left, both_right, zero_tolerance}
use Rattle.line_numeral.specs.Numeral.{cap}
use Rattle.line_numeral.proofs.Cap.{cap_in}
use Rattle.line_form.specs.Form.{Form, problem, scale, row, right, right_within, guess, inverse, weight, end}
use Rattle.line_form.specs.List.{no_numbers, numbers_of, all_inside, first_values}
use Rattle.line_parts.specs.Line.{capped_form, numbers_in}
use Rattle.loader_values.specs.Item.{item_of, part_index, outside, miscounted}
use Rattle.loader_values.specs.Capped.{values_in}
use Rattle.loader_values.specs.declared.Item.TheVariants.{Of}
use Rattle.loader_values.specs.declared.Part.{Part}
use Rattle.loader_values.specs.declared.Part.TheVariants as part
use Rattle.loader_values.proofs.Capped.{part_same}
use Rattle.loader_lists.specs.Slot.{Slot, Matrix, Right, Tolerance, Guess, Inverse, Weight, part_of, width, right_value}
use Rattle.loader_lists.specs.Lists.{Lists, short_lists}
use Rattle.loader_lists.specs.Put.{put_item, put, put_all}
use Rattle.loader_lists.specs.Span.{Narrow, Room, nowhere, span_of, pasted_at}
use Rattle.loader_lists.specs.Pasted.{written_to, pasted_all}
use Rattle.loader_lists.proofs.Lists.{lists-≡, rooms}
use Rattle.loader_lists.proofs.Put.{InSpan, span_fits}
use Rattle.loader_lists.proofs.Slot.{slot_of, of_part, of_right, other_part}

-- ---- the numbers of a form
values_exact : (k : Kind) (m : ℕ) (zs : List ℤ) → length zs ≤ m → all_inside k zs ≡ true → take (length zs) (first_values m zs) ≡ zs
unfolding all_inside first_values
values_exact k m [] l h = refl
values_exact k zero (z ∷ zs) l h = absurd (omega arith)
values_exact k (suc m) (z ∷ zs) l h =
    ap₂ ◌∷◌ (cap_in k z (both_left (in_range k z) (all_inside k zs) h)) (values_exact k m zs (omega arith) (both_right (in_range k z) (all_inside k zs) h))

list_exact : (k : Kind) (n : ℕ) (zs : List ℤ) → n ≤ 32 → not (all_inside k zs) ≡ false → not (eqb (length zs) n) ≡ false → take n (first_values 32 zs) ≡ zs
list_exact k n zs l o c =
    let e : length zs ≡ n = eqb-true (length zs) n (not-false _ c) in
    ap (λ (m : ℕ). take m (first_values 32 zs)) (sym e) ∙ values_exact k 32 zs (omega arith) (not-false _ o)

one_exact : (k : Kind) (z : ℤ) → not (in_range k z) ≡ false → ◌≡◌ {A = List ℤ} (cap z ∷ []) (z ∷ [])
one_exact k z o = ap (λ (y : ℤ). y ∷ []) (cap_in k z (not-false _ o))

-- ---- one list
pasted : (l vs : List ℤ) (k n : ℕ) → k + n ≤ length l → n ≤ length vs → paste l k vs n ≡ sets l k (take n vs)
pasted l vs k n p q =
    let e = length-take-le n vs q in
    sym (sets-eq (take n vs) l k (rw e p) ∙ ap (λ (m : ℕ). take k l ++ take n vs ++ drop (k + m) l) e)

module _ (s : Slot) (n : ℕ) (us vs l : List ℤ) (many : length us ≡ 32) where
  -- numbers that begin with those of the form
  put_by : (q : Part) (i : ℤ) → Room (width s n) (length l) (Of q i) → (part_of s ≡ q → take (width s n) us ≡ vs)
      → pasted_at (span_of (part_of s) (Of q i) (width s n)) us l ≡ put_item s n (Of q i) vs l
  put_by q i r e = go (eqb (part_index (part_of s)) (part_index q)) refl (span_fits (part_of s) (width s n) (length l) (Of q i) r)
    where
      k : ℕ
      k = (nat_abs i - 1) * width s n

      go : (b : Bool) → eqb (part_index (part_of s)) (part_index q) ≡ b → InSpan (cond b (record { at = k; count = width s n }) nowhere) (length l)
          → pasted_at (cond b (record { at = k; count = width s n }) nowhere) us l ≡ cond b (sets l k vs) l
      go true t h =
          pasted l us k (width s n) h.end (omega (arith, h.count_max))
          ∙ ap (sets l k) (e (part_same (part_of s) q (eqb-true (part_index (part_of s)) (part_index q) t)))
      go false t h = sym (paste-zero l 0 us)

-- what is written to a list of a part other than right
written_same : (us : List ℤ) (s : Slot) → (part_of s ≡ part.Right → ⊥) → written_to s us ≡ us
written_same us Matrix o = refl
written_same us Right o = refl
written_same us Tolerance o = absurd (o refl)
written_same us Guess o = refl
written_same us Inverse o = refl
written_same us Weight o = refl

wide_part : (s : Slot) (n : ℕ) {p : Part} (us vs : List ℤ) → (p ≡ part.Right → ⊥) → take (width (slot_of p) n) us ≡ vs → part_of s ≡ p → take (width s n) (written_to s us) ≡ vs
wide_part s n us vs o h e = rw (written_same us s (λ x. o (sym e ∙ x))) (ap (λ (t : Slot). take (width t n) us) (of_part s e o) ∙ h)

-- a right side and its tolerance
right_exact : (n : ℕ) (b d : ℤ) → in_range kind.Right b ≡ true → in_range kind.Tolerance d ≡ true
    → (s : Slot) → part_of s ≡ part.Right → take (width s n) (written_to s (set (set (replicate 32 (pos 0)) 0 (cap b)) 1 (cap d))) ≡ right_value s b d ∷ []
right_exact n b d h k =
    of_right (λ s. take (width s n) (written_to s (set (set (replicate 32 (pos 0)) 0 (cap b)) 1 (cap d))) ≡ right_value s b d ∷ [])
    (ap (λ (y : ℤ). y ∷ []) (cap_in kind.Right b h))
    (ap (λ (y : ℤ). y ∷ []) (cap_in kind.Tolerance d k))

length_written : (s : Slot) (us : List ℤ) → length us ≡ 32 → length (written_to s us) ≡ 32
length_written Matrix us h = h
length_written Right us h = h
length_written Tolerance us h = refl
length_written Guess us h = h
length_written Inverse us h = h
length_written Weight us h = h

put_exact : (s : Slot) (n : ℕ) (f : Form) (l : List ℤ) → Narrow n (item_of f) → length (written_to s (values_in (capped_form f) (numbers_in f).values)) ≡ 32 → Room (width s n) (length l) (item_of f)
    → outside f ≡ false → miscounted n f ≡ false → pasted_at (span_of (part_of s) (item_of f) (width s n)) (written_to s (values_in (capped_form f) (numbers_in f).values)) l ≡ put s n f l
unfolding numbers_of cap
put_exact s n (problem m) l count_max many r o c = sym (paste-zero l 0 (written_to s no_numbers.values))
put_exact s n (scale u v) l count_max many r o c = sym (paste-zero l 0 (written_to s no_numbers.values))
put_exact s n (row i a others) l count_max many r o c =
    put_by s n (written_to s (first_values 32 (a ∷ others))) (a ∷ others) l many part.Row i r (wide_part s n (first_values 32 (a ∷ others)) (a ∷ others) (λ e. other_part e tt) (list_exact kind.Matrix n (a ∷ others) count_max.0 o c))
put_exact s n (right i b) l count_max many r o c =
    put_by s n (written_to s (set (set (replicate 32 (pos 0)) 0 (cap b)) 1 (pos 0))) (right_value s b (pos 0) ∷ []) l many part.Right i r (right_exact n b (pos 0) (not-false _ o) zero_tolerance s)
put_exact s n (right_within i b d) l count_max many r o c =
    let h : in_range kind.Right b && in_range kind.Tolerance d ≡ true = not-false _ o in
    put_by s n (written_to s (set (set (replicate 32 (pos 0)) 0 (cap b)) 1 (cap d))) (right_value s b d ∷ []) l many part.Right i r
    (right_exact n b d (both_left (in_range kind.Right b) (in_range kind.Tolerance d) h) (both_right (in_range kind.Right b) (in_range kind.Tolerance d) h) s)
put_exact s n (guess i x) l count_max many r o c =
    put_by s n (written_to s (set (replicate 32 (pos 0)) 0 (cap x))) (x ∷ []) l many part.Guess i r (wide_part s n (set (replicate 32 (pos 0)) 0 (cap x)) (x ∷ []) (λ e. other_part e tt) (one_exact kind.Guess x o))
put_exact s n (inverse i g others) l count_max many r o c =
    put_by s n (written_to s (first_values 32 (g ∷ others))) (g ∷ others) l many part.Inverse i r (wide_part s n (first_values 32 (g ∷ others)) (g ∷ others) (λ e. other_part e tt) (list_exact kind.Inverse n (g ∷ others) count_max.0 o c))
put_exact s n (weight i w) l count_max many r o c =
    put_by s n (written_to s (set (replicate 32 (pos 0)) 0 (cap w))) (w ∷ []) l many part.Weight i r (wide_part s n (set (replicate 32 (pos 0)) 0 (cap w)) (w ∷ []) (λ e. other_part e tt) (one_exact kind.Weight w o))
put_exact s n end l count_max many r o c = sym (paste-zero l 0 (written_to s no_numbers.values))

-- ---- all lists
first_length : (m : ℕ) (zs : List ℤ) → length (first_values m zs) ≡ m
unfolding first_values
first_length zero [] = refl
first_length zero (z ∷ zs) = refl
first_length (suc m) [] = ap suc (first_length m [])
first_length (suc m) (z ∷ zs) = ap suc (first_length m zs)

values_length : (f : Form) → length (values_in (capped_form f) (numbers_in f).values) ≡ 32
unfolding numbers_of
values_length (problem n) = refl
values_length (scale s t) = refl
values_length (row i a others) = first_length 32 (a ∷ others)
values_length (right i b) = refl
values_length (right_within i b d) = refl
values_length (guess i x) = refl
values_length (inverse i g others) = first_length 32 (g ∷ others)
values_length (weight i w) = refl
values_length end = refl

module _ (n : ℕ) (f : Form) (l : Lists) (enough : short_lists l ≡ false) (count_max : Narrow n (item_of f)) (o : outside f ≡ false) (c : miscounted n f ≡ false) where
  one : (s : Slot) (k : List ℤ) → Room (width s n) (length k) (item_of f) → pasted_at (span_of (part_of s) (item_of f) (width s n)) (written_to s (values_in (capped_form f) (numbers_in f).values)) k ≡ put s n f k
  one s k r = put_exact s n f k count_max (length_written s _ (values_length f)) r o c

  pub all_exact : pasted_all n (item_of f) (values_in (capped_form f) (numbers_in f).values) l ≡ put_all n f l
  all_exact =
      let r = rooms n (item_of f) l enough count_max in
      lists-≡ (one Matrix l.matrix r.matrix) (one Right l.right r.right) (one Tolerance l.tolerance r.tolerance) (one Guess l.guess r.guess) (one Inverse l.inverse r.inverse) (one Weight l.weights r.weights)
