-- Laws of what one line adds to the row of a mark.
--   plus_fits, plus_read, minus_fits, minus_read, product_fits, product_read — the arithmetic fits, and what the machine reads back
--   joined    — the two places that a line joins, and every other place
--   at_to, at_from, not_at — what a line adds to the row of the mark that it leads to, that it leads from, and of any other mark
--   grown_to, grown_from — so for a whole row;  same_row — a line at other marks adds nothing
use mathlib.Core.Path.{◌≡◌, refl, sym, ap, ◌∙◌}
use mathlib.Core.Bool.{Bool, true, false, cond, ◌&&◌, ◌||◌}
use mathlib.Core.List.{List}
use Prim.Native.Nat.{ℕ, ◌≤◌, ◌<◌, ◌^◌}
use native.Mathlib.Nat.{mul-le-mul}
use native.Mathlib.Omega.{arith}
use borrow.Author.Tests.{eqb-true, eqb-false, eq-eqb, ne_eqb}
use lib.Dec.{eqb}
use lib.IntN.{ℤ, pos, neg_ℤ, nat_abs, ◌+ℤ◌, ◌-ℤ◌, ◌*ℤ◌, +ℤ_idl, +ℤ_idr}
use lib.ListN.{length, set, length-set}
use lib.Seq.{get_or-set_same, get_or-set_other}
use mir.Syntax.{w64}
use mir.Val.{SFits, to_z, of_z}
use mir.ValLaws.{to_z-of_z}
use Rattle.integer.proofs.Absolute.{abs-+, abs_sub, abs-*}
use Rattle.integer.proofs.Machine.{small}
use Rattle.linear.specs.Slice.{at}
use Rattle.rules.proofs.Ranges.{neither_left, neither_right, and_true}
use Rattle.build_lines.specs.declared.Observation.{Observation}
use Rattle.build_lines.specs.Distinct.{when, touches, weight_at, gain}
use Rattle.build_gathering.specs.Gathered.{Proper}
use Rattle.build_equations.specs.declared.Row.{Row}
use Rattle.build_equations.specs.Kept.{Grown}

-- ---- machine numbers
module _ {a b x y : ℤ} (p : x ≡ a) (q : y ≡ b) (h : nat_abs a ≤ 2 ^ 31) (k : nat_abs b ≤ 2 ^ 31) where
  pub plus_fits : SFits w64 (x +ℤ y)
  plus_fits = rw (p, q) (small (a +ℤ b) (omega (arith, abs-+ a b)))

  pub plus_read : to_z w64 (of_z w64 (x +ℤ y)) ≡ a +ℤ b
  plus_read = to_z-of_z w64 (x +ℤ y) plus_fits ∙ rw (p, q)

  pub minus_fits : SFits w64 (x -ℤ y)
  minus_fits = rw (p, q) (small (a -ℤ b) (omega (arith, abs_sub a b)))

  pub minus_read : to_z w64 (of_z w64 (x -ℤ y)) ≡ a -ℤ b
  minus_read = to_z-of_z w64 (x -ℤ y) minus_fits ∙ rw (p, q)

abbrev weighted_difference : Observation → ℤ
weighted_difference l = pos l.weight *ℤ l.difference

module _ (l : Observation) (proper : Proper l) where
  pub product_magnitude : nat_abs (weighted_difference l) ≤ 2 ^ 22
  product_magnitude = omega (arith, abs-* (pos l.weight) l.difference, mul-le-mul proper.weight proper.difference)

  module _ {a b : ℤ} (p : a ≡ pos l.weight) (q : b ≡ l.difference) where
    pub product_fits : SFits w64 (a *ℤ b)
    product_fits = rw (p, q) (small (weighted_difference l) (omega (arith, product_magnitude)))

    pub product_read : to_z w64 (of_z w64 (a *ℤ b)) ≡ weighted_difference l
    product_read = to_z-of_z w64 (a *ℤ b) product_fits ∙ rw (p, q)

-- ---- what a line adds
-- the place k and the other one, of a line with weight w
abbrev added_at : ℕ → ℕ → ℤ → ℕ → ℤ
added_at k other w m = cond (eqb k m) w (when (eqb other m) (neg_ℤ w))

pub joined : (l : List ℤ) (k other : ℕ) (w : ℤ) → (k ≡ other → ⊥) → k < length l → other < length l → (m : ℕ) →
    at (set (set l k (at l k +ℤ w)) other (at l other -ℤ w)) m ≡ at l m +ℤ added_at k other w m
joined l k other w apart p q m = go (eqb k m) refl (eqb other m) refl
  where
    two : List ℤ
    two = set l k (at l k +ℤ w)

    go : (a : Bool) → eqb k m ≡ a → (b : Bool) → eqb other m ≡ b → at (set two other (at l other -ℤ w)) m ≡ at l m +ℤ cond a w (when b (neg_ℤ w))
    go true e b f =
        let i = eqb-true k m e in
        get_or-set_other two other m (at l other -ℤ w) (pos 0) (λ j. apart (i ∙ j)) ∙ ap (at two) (sym i) ∙ get_or-set_same l k (at l k +ℤ w) (pos 0) p ∙ ap (λ (z : ℕ). at l z +ℤ w) i
    go false e true f =
        let i = eqb-true other m f in
        ap (at (set two other (at l other -ℤ w))) (sym i) ∙ get_or-set_same two other (at l other -ℤ w) (pos 0) (omega (arith, length-set l k (at l k +ℤ w), q)) ∙ ap (λ (z : ℕ). at l z -ℤ w) i
    go false e false f =
        get_or-set_other two other m (at l other -ℤ w) (pos 0) (λ j. eqb-false other m f (sym j))
        ∙ get_or-set_other l k m (at l k +ℤ w) (pos 0) (λ j. eqb-false k m e (sym j)) ∙ sym (+ℤ_idr (at l m))

or_and_false : (a b : Bool) → a || b && false ≡ a
or_and_false true b = refl
or_and_false false true = refl
or_and_false false false = refl

module _ (k : ℕ) (l : Observation) (proper : Proper l) where
  module _ (e : l.to ≡ k) where
    away : eqb l.«from» k ≡ false
    away = ne_eqb l.«from» k (λ p. proper.apart (p ∙ sym e))

    at_to : (m : ℕ) → weight_at k m l ≡ added_at k l.«from» (pos l.weight) m
    unfolding weight_at
    at_to m = rw (away, eq-eqb l.to k e, and_true (eqb l.«from» m) refl)

    gain_to : gain k l ≡ weighted_difference l
    unfolding gain
    gain_to = rw (away, eq-eqb l.to k e) (+ℤ_idr (weighted_difference l))

  module _ (e : l.to ≡ k → ⊥) (t : touches k l ≡ true) where
    here : l.«from» ≡ k
    here = eqb-true l.«from» k (go (eqb l.«from» k) (rw (ne_eqb l.to k e) at t))
      where
        go : (b : Bool) → b || false ≡ true → b ≡ true
        go true p = refl
        go false p = p

    at_from : (m : ℕ) → weight_at k m l ≡ added_at k l.to (pos l.weight) m
    unfolding weight_at
    at_from m = rw (ne_eqb l.to k e, eq-eqb l.«from» k here, or_and_false (eqb l.to m) (eqb l.«from» m))

    gain_from : gain k l ≡ neg_ℤ (weighted_difference l)
    unfolding gain
    gain_from = rw (ne_eqb l.to k e, eq-eqb l.«from» k here) (+ℤ_idl (neg_ℤ (weighted_difference l)))

-- ---- a whole row
module _ (k : ℕ) (l : Observation) (proper : Proper l) (n_max : k ≤ 32) (row : Row) (long : length row.sums ≡ 33) where
  abbrev twice : ℕ → List ℤ
  twice other = set (set row.sums k (at row.sums k +ℤ pos l.weight)) other (at row.sums other -ℤ pos l.weight)

  twice_long : (other : ℕ) → length (twice other) ≡ 33
  twice_long other = length-set (set row.sums k _) other _ ∙ length-set row.sums k _ ∙ long

  pub grown_to : {sums : List ℤ} {right : ℤ} → l.to ≡ k → sums ≡ twice l.«from» → right ≡ row.right +ℤ weighted_difference l → Grown k l row (record { sums = sums; right = right })
  grown_to e p q = record {
    long = ap length p ∙ twice_long l.«from»;
    sums = λ m b.
        ap (λ (z : List ℤ). at z m) p ∙ joined row.sums k l.«from» (pos l.weight) (λ i. proper.apart (sym i ∙ sym e)) (omega (arith, long)) (omega (arith, long, proper.start)) m
        ∙ ap (λ (z : ℤ). at row.sums m +ℤ z) (sym (at_to k l proper e m));
    right = q ∙ ap (λ (z : ℤ). row.right +ℤ z) (sym (gain_to k l proper e));
  }

  pub grown_from : {sums : List ℤ} {right : ℤ} → (l.to ≡ k → ⊥) → touches k l ≡ true → sums ≡ twice l.to → right ≡ row.right -ℤ weighted_difference l → Grown k l row (record { sums = sums; right = right })
  grown_from e t p q = record {
    long = ap length p ∙ twice_long l.to;
    sums = λ m b.
        ap (λ (z : List ℤ). at z m) p ∙ joined row.sums k l.to (pos l.weight) (λ i. e (sym i)) (omega (arith, long)) (omega (arith, long, proper.end)) m
        ∙ ap (λ (z : ℤ). at row.sums m +ℤ z) (sym (at_from k l proper e t m));
    right = q ∙ ap (λ (z : ℤ). row.right +ℤ z) (sym (gain_from k l proper e t));
  }

-- a line at other marks
module _ (k : ℕ) (l : Observation) (t : touches k l ≡ false) where
  not_at : (m : ℕ) → weight_at k m l ≡ pos 0
  unfolding weight_at
  not_at m =
      rw (t, neither_left (eqb l.«from» k) (eqb l.to k) t, neither_right (eqb l.«from» k) (eqb l.to k) t)
      (go (eqb k m) (eqb l.«from» m))
    where
      go : (a b : Bool) → cond a (pos 0) (when (b && false) (neg_ℤ (pos l.weight))) ≡ pos 0
      go true b = refl
      go false true = refl
      go false false = refl

  no_gain : gain k l ≡ pos 0
  unfolding gain
  no_gain = rw (neither_left (eqb l.«from» k) (eqb l.to k) t, neither_right (eqb l.«from» k) (eqb l.to k) t)

  pub same_row : (row : Row) → length row.sums ≡ 33 → Grown k l row row
  same_row row long = record {
    long = long;
    sums = λ m b. sym (ap (λ (z : ℤ). at row.sums m +ℤ z) (not_at m) ∙ +ℤ_idr (at row.sums m));
    right = sym (ap (λ (z : ℤ). row.right +ℤ z) no_gain ∙ +ℤ_idr row.right);
  }
