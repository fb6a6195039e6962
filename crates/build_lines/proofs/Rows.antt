-- A line's part of a row of A·h, where the heights fit it.
--   line_row — it is q times the line's part of the right side
use mathlib.Core.Path.{◌≡◌, refl, sym, ap, subst, ◌∙◌}
use mathlib.Core.Bool.{Bool, true, false, cond, ◌&&◌, ◌||◌}
use Prim.Native.Nat.{ℕ, ◌+◌, ◌≤◌}
use borrow.Author.Tests.{eqb-true}
use lib.Dec.{T, eqb}
use lib.IntN.{ℤ, pos, neg_ℤ, ◌-ℤ◌, ◌*ℤ◌}
use Rattle.integer.specs.Finite.{sum}
use Rattle.integer.proofs.Ring.{ring, ring₀, moves, by_zero, zero-*, *-zero}
use Rattle.integer.proofs.Sum.{sum_ext, sum_zero}
use Rattle.build_lines.specs.declared.Observation.{Observation}
use Rattle.build_lines.specs.Distinct.{when, weight_at, gain}
use Rattle.build_lines.specs.Stated.{Passes}
use Rattle.build_lines.proofs.Marks.{inside_line, pick, sum_sub}

less_none : (z : ℤ) → z ≡ z -ℤ pos 0
less_none z = by_zero (simp ring (simp moves (simp ring₀)))

from_none : (w x : ℤ) → neg_ℤ w *ℤ x ≡ pos 0 -ℤ w *ℤ x
from_none w x = by_zero (simp ring (simp moves (simp ring₀)))

-- the number at mark m of the row of a mark that the line leads from, and of one that it leads to
leads_from : (c d e : Bool) (w x : ℤ) → (c ≡ true → d ≡ false) → cond c (when (true || false) w) (when ((true && d) || (e && false)) (neg_ℤ w)) *ℤ x ≡ when c (w *ℤ x) -ℤ when d (w *ℤ x)
leads_from true true e w x h = absurd (subst T (h refl) tt)
leads_from true false e w x h = less_none (w *ℤ x)
leads_from false true e w x h = from_none w x
leads_from false false true w x h = zero-* x
leads_from false false false w x h = zero-* x

leads_to : (c d e : Bool) (w x : ℤ) → (c ≡ true → e ≡ false) → cond c (when (false || true) w) (when ((false && d) || (e && true)) (neg_ℤ w)) *ℤ x ≡ when c (w *ℤ x) -ℤ when e (w *ℤ x)
leads_to true d true w x h = absurd (subst T (h refl) tt)
leads_to true d false w x h = less_none (w *ℤ x)
leads_to false d true w x h = from_none w x
leads_to false d false w x h = zero-* x

leads_past : (c d e : Bool) (w x : ℤ) → cond c (when (false || false) w) (when ((false && d) || (e && false)) (neg_ℤ w)) *ℤ x ≡ pos 0
leads_past true d e w x = zero-* x
leads_past false d true w x = zero-* x
leads_past false d false w x = zero-* x

-- heights that fit
fit_from : (w f t q d : ℤ) → t -ℤ f ≡ q *ℤ d → w *ℤ f -ℤ w *ℤ t ≡ q *ℤ (pos 0 -ℤ w *ℤ d)
fit_from w f t q d e = turn ∙ ap (λ (z : ℤ). neg_ℤ (w *ℤ z)) e ∙ by_zero (simp ring (simp moves (simp ring₀)))
  where
    turn : w *ℤ f -ℤ w *ℤ t ≡ neg_ℤ (w *ℤ (t -ℤ f))
    turn = by_zero (simp ring (simp moves (simp ring₀)))

fit_to : (w f t q d : ℤ) → t -ℤ f ≡ q *ℤ d → w *ℤ t -ℤ w *ℤ f ≡ q *ℤ (w *ℤ d -ℤ pos 0)
fit_to w f t q d e = turn ∙ ap (λ (z : ℤ). w *ℤ z) e ∙ by_zero (simp ring (simp moves (simp ring₀)))
  where
    turn : w *ℤ t -ℤ w *ℤ f ≡ w *ℤ (t -ℤ f)
    turn = by_zero (simp ring (simp moves (simp ring₀)))

module _ (n : ℕ) (l : Observation) (q : ℕ) (h : ℕ → ℤ) (k : ℕ) (good : Passes n l) (count_max : k ≤ n) (fixed : h 0 ≡ pos 0) (fits : h l.to -ℤ h l.«from» ≡ pos q *ℤ l.difference) where
  abbrev w : ℤ
  w = pos l.weight

  abbrev at : ℕ → ℕ → ℤ
  at m i = when (eqb m (i + 1)) (w *ℤ h (i + 1))

  picked : (m : ℕ) → m ≤ n → sum n (at m) ≡ w *ℤ h m
  picked m p = pick n m (λ (i : ℕ). w *ℤ h i) p (ap (λ (z : ℤ). w *ℤ z) fixed ∙ *-zero w)

  row : (m : ℕ) → m ≤ n → sum n (λ (i : ℕ). at k i -ℤ at m i) ≡ w *ℤ h k -ℤ w *ℤ h m
  row m p = sum_sub n (at k) (at m) ∙ rw (picked k count_max, picked m p)

  pub line_row : sum n (λ (i : ℕ). weight_at k (i + 1) l *ℤ h (i + 1)) ≡ pos q *ℤ gain k l
  unfolding weight_at gain
  line_row = go (eqb l.«from» k) refl (eqb l.to k) refl
    where
      term : ℕ → ℤ
      term i = weight_at k (i + 1) l *ℤ h (i + 1)

      go : (a : Bool) → eqb l.«from» k ≡ a → (b : Bool) → eqb l.to k ≡ b → sum n term ≡ pos q *ℤ gain k l
      go true p true r = absurd (good.apart (eqb-true l.«from» k p ∙ sym (eqb-true l.to k r)))
      go true p false r =
          sum_ext n term (λ (i : ℕ). at k i -ℤ at l.to i)
          (λ i s. rw (p, r) (leads_from (eqb k (i + 1)) (eqb l.to (i + 1)) (eqb l.«from» (i + 1)) w (h (i + 1)) (λ c. ap (eqb l.to) (sym (eqb-true k (i + 1) c)) ∙ r)))
          ∙ row l.to (inside_line n l good.inside).end ∙ ap (λ (m : ℕ). w *ℤ h m -ℤ w *ℤ h l.to) (sym (eqb-true l.«from» k p))
          ∙ fit_from w (h l.«from») (h l.to) (pos q) l.difference fits ∙ sym (rw (p, r))
      go false p true r =
          sum_ext n term (λ (i : ℕ). at k i -ℤ at l.«from» i)
          (λ i s. rw (p, r) (leads_to (eqb k (i + 1)) (eqb l.to (i + 1)) (eqb l.«from» (i + 1)) w (h (i + 1)) (λ c. ap (eqb l.«from») (sym (eqb-true k (i + 1) c)) ∙ p)))
          ∙ row l.«from» (inside_line n l good.inside).start ∙ ap (λ (m : ℕ). w *ℤ h m -ℤ w *ℤ h l.«from») (sym (eqb-true l.to k r))
          ∙ fit_to w (h l.«from») (h l.to) (pos q) l.difference fits ∙ sym (rw (p, r))
      go false p false r =
          sum_ext n term (λ (i : ℕ). pos 0) (λ i s. rw (p, r) (leads_past (eqb k (i + 1)) (eqb l.to (i + 1)) (eqb l.«from» (i + 1)) w (h (i + 1))))
          ∙ sum_zero n ∙ sym (rw (p, r) (*-zero (pos q)))
