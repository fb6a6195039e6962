-- ℤ is a commutative ring, and how a ring identity is proved, in one line.
--   simp ring — both sides multiplied out and sorted, under sums too; for identities where nothing cancels: try it first
--   by_zero (simp ring (simp moves (simp ring₀))) — any identity with coefficients ±1: what cancels is moved over first
--   swapped_zero — a·(b·x) − b·(a·x) = 0
-- For numeral coefficients see Difference.
use mathlib.Core.Path.{◌≡◌, sym, ◌∙◌}
use mathlib.Core.Logic.{◌↔◌}
use native.Mathlib.Omega.{arith}
use lib.IntN.{ℤ, pos, neg_ℤ, ◌+ℤ◌, ◌-ℤ◌, ◌*ℤ◌, *ℤ_comm, +ℤ_assoc, +ℤ_comm, +ℤ_idl, +ℤ_idr, +ℤ_invl, +ℤ_invr, +ℤ-neg_ℤ_cancel, -ℤ-+ℤ_cancel, neg_ℤ-+ℤ, neg_ℤ-neg_ℤ}
use Rattle.integer.proofs.Difference.{is, zz, +-left_comm}

pub *-+ : (a b c : ℤ) → a *ℤ (b +ℤ c) ≡ a *ℤ b +ℤ a *ℤ c
*-+ a b c = rw (is a, is b, is c) (simp zz (omega arith))

pub +-* : (a b c : ℤ) → (a +ℤ b) *ℤ c ≡ a *ℤ c +ℤ b *ℤ c
+-* a b c = rw (is a, is b, is c) (simp zz (omega arith))

pub *-assoc : (a b c : ℤ) → a *ℤ b *ℤ c ≡ a *ℤ (b *ℤ c)
*-assoc a b c = rw (is a, is b, is c) (simp zz (omega arith))

pub *-left_comm : (a b c : ℤ) → a *ℤ (b *ℤ c) ≡ b *ℤ (a *ℤ c)
*-left_comm a b c = rw (is a, is b, is c) (simp zz (omega arith))

pub neg-* : (a b : ℤ) → neg_ℤ a *ℤ b ≡ neg_ℤ (a *ℤ b)
neg-* a b = rw (is a, is b) (simp zz (omega arith))

pub *-neg : (a b : ℤ) → a *ℤ neg_ℤ b ≡ neg_ℤ (a *ℤ b)
*-neg a b = rw (is a, is b) (simp zz (omega arith))

pub one-* : (a : ℤ) → pos 1 *ℤ a ≡ a
one-* a = rw (is a) (simp zz (omega arith))

pub zero-* : (a : ℤ) → pos 0 *ℤ a ≡ pos 0
zero-* a = rw (is a) (simp zz (omega arith))

pub *-zero : (a : ℤ) → a *ℤ pos 0 ≡ pos 0
*-zero a = rw (is a) (simp zz (omega arith))

pub ruleset ring = (*-+, +-*, *-assoc, *ℤ_comm, *-left_comm, +ℤ_assoc, +ℤ_comm, +-left_comm, neg_ℤ-+ℤ, neg_ℤ-neg_ℤ, neg-*, *-neg)

pub ruleset ring₀ = (ring, +ℤ_idl, +ℤ_idr, zero-*, *-zero, one-*)

-- ---- what cancels
pub +-unassoc : (a b c : ℤ) → a +ℤ (b +ℤ c) ≡ a +ℤ b +ℤ c
+-unassoc a b c = sym (+ℤ_assoc a b c)

pub move_r : (x y z : ℤ) → (x +ℤ neg_ℤ y ≡ z) ↔ (x ≡ z +ℤ y)
move_r x y z = ((λ p. rw (← p) (sym (-ℤ-+ℤ_cancel x y))), (λ p. rw p (+ℤ-neg_ℤ_cancel z y)))

pub neg_r : (x z : ℤ) → (neg_ℤ x ≡ z) ↔ (pos 0 ≡ z +ℤ x)
neg_r x z = ((λ p. rw (← p) (sym (+ℤ_invl x))), (λ p. sym (+ℤ_idl (neg_ℤ x)) ∙ rw p (+ℤ-neg_ℤ_cancel z x)))

pub ruleset moves = (+-unassoc, move_r, neg_r)

pub by_zero : {x y : ℤ} → x +ℤ neg_ℤ y ≡ pos 0 → x ≡ y
by_zero {x} {y} p = (move_r x y (pos 0)).0 p ∙ +ℤ_idl y

pub swapped_zero : (a b x : ℤ) → a *ℤ (b *ℤ x) -ℤ b *ℤ (a *ℤ x) ≡ pos 0
swapped_zero a b x = rw (*-left_comm a b x) (+ℤ_invr (b *ℤ (a *ℤ x)))
