-- Fractions within e steps of a number x, seen from v whole units: N / q with |s·N − q·x| ≤ q·e, where s steps make a unit.
--   covers   — such a fraction lies within (e + |x − s·v|) / s units of v, rounded up
--   farthest — over s, one of these fractions, which lies just (e + |x − s·v|) / s units from v;  least — no whole number below that, rounded up, covers it
use mathlib.Core.Path.{◌≡◌, refl, sym, ap, ◌∙◌}
use Prim.Native.Nat.{ℕ, ◌+◌, ◌*◌, ◌≤◌, ◌<◌}
use native.Mathlib.Omega.{arith}
use native.Mathlib.Nat.{mul-le-mul_left, le_of_mul-le-mul_left}
use lib.IntN.{ℤ, pos, negsuc, neg_ℤ, nat_abs, ◌+ℤ◌, ◌-ℤ◌, ◌*ℤ◌}
use Rattle.integer.specs.Quotient.{ceil_div}
use Rattle.integer.proofs.Absolute.{abs-*, abs-+, abs_neg}
use Rattle.integer.proofs.Difference.{is, zz}
use Rattle.integer.proofs.Ring.{ring}
use Rattle.integer.proofs.Rounding.{ceil_covers, ceil_least}

split : (s q N x v₀ : ℤ) → s *ℤ (N -ℤ q *ℤ v₀) ≡ s *ℤ N -ℤ q *ℤ x +ℤ q *ℤ (x -ℤ s *ℤ v₀)
split s q N x v₀ = left s q N v₀ ∙ (between (s *ℤ N) (q *ℤ x) (s *ℤ (q *ℤ v₀)) ∙ ap (λ (z : ℤ). s *ℤ N -ℤ q *ℤ x +ℤ z) (right s q x v₀))
  where
    left : (s q N v₀ : ℤ) → s *ℤ (N -ℤ q *ℤ v₀) ≡ s *ℤ N -ℤ s *ℤ (q *ℤ v₀)
    left s q N v₀ = simp ring

    between : (u v w : ℤ) → u -ℤ w ≡ u -ℤ v +ℤ (v -ℤ w)
    between u v w = rw (is u, is v, is w) (simp zz (omega arith))

    right : (s q x v₀ : ℤ) → q *ℤ x -ℤ s *ℤ (q *ℤ v₀) ≡ q *ℤ (x -ℤ s *ℤ v₀)
    right s q x v₀ = simp ring

pub covers : (s q e : ℕ) (N x v₀ : ℤ) → 0 < s → nat_abs (pos s *ℤ N -ℤ pos q *ℤ x) ≤ q * e →
    nat_abs (N -ℤ pos q *ℤ v₀) ≤ q * ceil_div (e + nat_abs (x -ℤ pos s *ℤ v₀)) s
covers s q e N x v₀ o h =
    let a : ℤ = pos s *ℤ N -ℤ pos q *ℤ x in
    let d : ℤ = x -ℤ pos s *ℤ v₀ in
    let f : s * nat_abs (N -ℤ pos q *ℤ v₀) ≡ nat_abs (a +ℤ pos q *ℤ d) = sym (abs-* (pos s) (N -ℤ pos q *ℤ v₀)) ∙ ap nat_abs (split (pos s) (pos q) N x v₀) in
    le_of_mul-le-mul_left (omega (arith, f, abs-+ a (pos q *ℤ d), abs-* (pos q) d, h, mul-le-mul_left q (ceil_covers (e + nat_abs d) s o))) o

-- ---- the farthest of them
-- e or −e, whichever takes a number farther from 0
moved_outward : ℤ → ℕ → ℤ
moved_outward (pos a) e = pos e
moved_outward (negsuc a) e = neg_ℤ (pos e)

outward_magnitude : (z : ℤ) (e : ℕ) → nat_abs (moved_outward z e) ≡ e
unfolding moved_outward
outward_magnitude (pos a) e = refl
outward_magnitude (negsuc a) e = abs_neg (pos e)

outward_far : (z : ℤ) (e : ℕ) → nat_abs (z +ℤ moved_outward z e) ≡ e + nat_abs z
unfolding moved_outward
outward_far (pos a) e = omega arith
outward_far (negsuc a) e = simp zz (omega arith)

pub farthest : ℕ → ℕ → ℤ → ℤ → ℤ
farthest s e x v₀ = x +ℤ moved_outward (x -ℤ pos s *ℤ v₀) e

pub farthest_within : (s e : ℕ) (x v₀ : ℤ) → nat_abs (pos s *ℤ farthest s e x v₀ -ℤ pos s *ℤ x) ≤ s * e
unfolding farthest
farthest_within s e x v₀ =
    let y : ℤ = moved_outward (x -ℤ pos s *ℤ v₀) e in
    let magnitude : nat_abs (pos s *ℤ y) ≡ s * nat_abs y = abs-* (pos s) y in
    rw (moved (pos s) x y, magnitude, outward_magnitude (x -ℤ pos s *ℤ v₀) e) (omega arith)
  where
    moved : (s x y : ℤ) → s *ℤ (x +ℤ y) -ℤ s *ℤ x ≡ s *ℤ y
    moved s x y = rw (is s, is x, is y) (simp zz (omega arith))

farthest_distance : (s e : ℕ) (x v₀ : ℤ) → nat_abs (farthest s e x v₀ -ℤ pos s *ℤ v₀) ≡ e + nat_abs (x -ℤ pos s *ℤ v₀)
unfolding farthest
farthest_distance s e x v₀ = ap nat_abs (aside x (moved_outward (x -ℤ pos s *ℤ v₀) e) (pos s *ℤ v₀)) ∙ outward_far (x -ℤ pos s *ℤ v₀) e
  where
    aside : (x y u : ℤ) → x +ℤ y -ℤ u ≡ x -ℤ u +ℤ y
    aside x y u = rw (is x, is y, is u) (simp zz (omega arith))

pub farthest_reached : (s e : ℕ) (x v₀ : ℤ) → s * nat_abs (farthest s e x v₀ -ℤ pos s *ℤ v₀) ≡ s * (e + nat_abs (x -ℤ pos s *ℤ v₀))
farthest_reached s e x v₀ = rw (farthest_distance s e x v₀)

pub least : (s e : ℕ) (x v₀ : ℤ) (c : ℕ) → 0 < s → nat_abs (farthest s e x v₀ -ℤ pos s *ℤ v₀) ≤ s * c → ceil_div (e + nat_abs (x -ℤ pos s *ℤ v₀)) s ≤ c
least s e x v₀ c o h = ceil_least (e + nat_abs (x -ℤ pos s *ℤ v₀)) s c o (omega (arith, farthest_distance s e x v₀, h))
