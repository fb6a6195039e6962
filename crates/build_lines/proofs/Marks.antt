-- What one line adds to the whole diagonal.
--   InsideLine, inside_line — the marks of a line whose numbers are in range are 0 to n, its weight is at most 64, its difference at most 2 ^ 16 in absolute value
--   pick      — of the numbers v 1, .., v n only v m is left by the test for m, where v 0 is 0
--   line_diagonal — a line is twice on the diagonal, the fixed mark counted in
use mathlib.Core.Path.{◌≡◌, refl, sym, ap, subst, ◌∙◌}
use mathlib.Core.Bool.{Bool, true, false, cond, ◌&&◌, ◌||◌}
use Prim.Native.Nat.{ℕ, zero, suc, ◌+◌, ◌≤◌, ◌^◌}
use native.Mathlib.Numerals.{add-one}
use native.Mathlib.Omega.{arith}
use borrow.Author.Tests.{eqb-true, eqb-false, eq-eqb, ne_eqb, leb-true, not-false}
use lib.Dec.{T, eqb}
use lib.IntN.{ℤ, pos, nat_abs, ◌+ℤ◌, ◌-ℤ◌, ◌*ℤ◌, +ℤ_idl, +ℤ_idr}
use Rattle.integer.specs.Finite.{sum}
use Rattle.integer.proofs.Ring.{ring, zero-*, one-*}
use Rattle.integer.proofs.Sum.{sum_ext, sum_zero, sum-+}
use Rattle.linear.specs.Matrix.{identity}
use Rattle.linear.proofs.Product.{sum_identity}
use Rattle.rules.specs.Range.{in_range}
use Rattle.rules.specs.declared.Kind.TheVariants as kind
use Rattle.rules.proofs.Ranges.{both_left, both_right, line_weight_range, difference_range}
use Rattle.build_lines.specs.declared.Observation.{Observation}
use Rattle.build_lines.specs.Line.{is_mark, outside_range}
use Rattle.build_lines.specs.Distinct.{when, touches, weight_at}
use Rattle.build_lines.specs.Stated.{Passes}

-- ---- the numbers of a good line
pub record InsideLine (n : ℕ) (l : Observation) : Type 0 where
  pub start : l.«from» ≤ n
  pub end : l.to ≤ n
  pub difference : nat_abs l.difference ≤ 2 ^ 16
  pub weight : l.weight ≤ 64

pub inside_line : (n : ℕ) (l : Observation) → outside_range n l ≡ false → InsideLine n l
unfolding outside_range
inside_line n l e =
    let e₀ = not-false _ e in
    let e₁ = both_right (in_range kind.Key (pos l.key)) _ e₀ in
    let e₂ = both_right (is_mark n l.«from») _ e₁ in
    let e₃ = both_right (is_mark n l.to) _ e₂ in
    record {
      start = leb-true _ _ (both_right (in_range kind.Mark (pos l.«from»)) _ (both_left (is_mark n l.«from») _ e₁));
      end = leb-true _ _ (both_right (in_range kind.Mark (pos l.to)) _ (both_left (is_mark n l.to) _ e₂));
      difference = difference_range l.difference (both_left (in_range kind.Difference l.difference) _ e₃);
      weight = (line_weight_range l.weight (both_right (in_range kind.Difference l.difference) _ e₃)).1;
    }

-- ---- one mark of many
when_identity : (b : Bool) (z : ℤ) → when b z ≡ cond b (pos 1) (pos 0) *ℤ z
when_identity true z = sym (one-* z)
when_identity false z = sym (zero-* z)

next_mark : (m i : ℕ) → eqb (suc m) (i + 1) ≡ eqb m i
next_mark m i = go (eqb m i) refl
  where
    go : (b : Bool) → eqb m i ≡ b → eqb (suc m) (i + 1) ≡ b
    go true p = eq-eqb (suc m) (i + 1) (omega (arith, eqb-true m i p))
    go false p = ne_eqb (suc m) (i + 1) (λ e. eqb-false m i p (omega (arith, e)))

pub pick : (n m : ℕ) (v : ℕ → ℤ) → m ≤ n → v 0 ≡ pos 0 → sum n (λ (i : ℕ). when (eqb m (i + 1)) (v (i + 1))) ≡ v m
unfolding identity
pick n zero v h e = sum_ext n (λ (i : ℕ). when (eqb 0 (i + 1)) (v (i + 1))) (λ (i : ℕ). pos 0) (λ i l. rw (ne_eqb 0 (i + 1) (λ p. omega arith))) ∙ sum_zero n ∙ sym e
pick n (suc m) v h e =
    sum_ext n (λ (i : ℕ). when (eqb (suc m) (i + 1)) (v (i + 1))) (λ (i : ℕ). identity m i *ℤ v (i + 1)) (λ i l. rw (next_mark m i) (when_identity (eqb m i) (v (i + 1))))
    ∙ sum_identity n m (λ (i : ℕ). v (i + 1)) h ∙ ap v (add-one m)

pub sum_sub : (n : ℕ) (f g : ℕ → ℤ) → sum n (λ (i : ℕ). f i -ℤ g i) ≡ sum n f -ℤ sum n g
unfolding sum
sum_sub zero f g = refl
sum_sub (suc n) f g = rw (sum_sub n f g) (simp ring)

-- ---- the diagonal
either_when : (a b : Bool) (z : ℤ) → a && b ≡ false → when (a || b) z ≡ when a z +ℤ when b z
either_when true true z e = absurd (subst T e tt)
either_when true false z e = sym (+ℤ_idr z)
either_when false b z e = sym (+ℤ_idl (when b z))

not_both_ends : (l : Observation) (k : ℕ) → (l.«from» ≡ l.to → ⊥) → eqb l.«from» k && eqb l.to k ≡ false
not_both_ends l k h = go (eqb l.«from» k) refl (eqb l.to k) refl
  where
    go : (a : Bool) → eqb l.«from» k ≡ a → (b : Bool) → eqb l.to k ≡ b → a && b ≡ false
    go true p true q = absurd (h (eqb-true l.«from» k p ∙ sym (eqb-true l.to k q)))
    go true p false q = refl
    go false p b q = refl

-- a mark is the fixed one or one of the others, once
once_joined : (n m : ℕ) (z : ℤ) → m ≤ n → sum n (λ (i : ℕ). when (eqb m (i + 1)) z) +ℤ when (eqb m 0) z ≡ z
once_joined n m z h =
    let v : ℕ → ℤ = λ (k : ℕ). cond (eqb k 0) (pos 0) z in
    let e : sum n (λ (i : ℕ). when (eqb m (i + 1)) z) ≡ v m =
    sum_ext n (λ (i : ℕ). when (eqb m (i + 1)) z) (λ (i : ℕ). when (eqb m (i + 1)) (v (i + 1))) (λ i l. rw (ne_eqb (i + 1) 0 (λ p. omega arith))) ∙ pick n m v h refl in
    ap (λ (x : ℤ). x +ℤ when (eqb m 0) z) e ∙ go (eqb m 0)
  where
    go : (b : Bool) → cond b (pos 0) z +ℤ when b z ≡ z
    go true = +ℤ_idl z
    go false = +ℤ_idr z

pub line_diagonal : (n : ℕ) (l : Observation) → Passes n l → sum n (λ (i : ℕ). weight_at (i + 1) (i + 1) l) +ℤ when (touches 0 l) (pos l.weight) ≡ pos l.weight +ℤ pos l.weight
unfolding weight_at
line_diagonal n l g =
    let w = pos l.weight in
    let f : ℕ → ℤ = λ (i : ℕ). when (eqb l.«from» (i + 1)) w in
    let t : ℕ → ℤ = λ (i : ℕ). when (eqb l.to (i + 1)) w in
    let r = inside_line n l g.inside in
    let split : (k : ℕ) → when (touches k l) w ≡ when (eqb l.«from» k) w +ℤ when (eqb l.to k) w = λ k. either_when (eqb l.«from» k) (eqb l.to k) w (not_both_ends l k g.apart) in
    let rows : sum n (λ (i : ℕ). weight_at (i + 1) (i + 1) l) ≡ sum n f +ℤ sum n t =
    sum_ext n (λ (i : ℕ). weight_at (i + 1) (i + 1) l) (λ (i : ℕ). f i +ℤ t i) (λ i h. rw (eq-eqb (i + 1) (i + 1) refl) (split (i + 1))) ∙ sum-+ n f t in
    rw (rows, split 0)
    (four (sum n f) (sum n t) (when (eqb l.«from» 0) w) (when (eqb l.to 0) w) ∙ rw (once_joined n l.«from» w r.start, once_joined n l.to w r.end))
  where
    four : (a b c d : ℤ) → a +ℤ b +ℤ (c +ℤ d) ≡ a +ℤ c +ℤ (b +ℤ d)
    four a b c d = simp ring
