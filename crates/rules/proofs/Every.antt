-- Laws of `every` (integer/specs/Finite).
--   every_none, every_next, every_end — at none, at n + 1 and at the end, for loops
--   every_at, every_in — each one holds, and the converse;  every_fails, every_not — one does not, and the converse
--   every_ext — equal tests are alike
use mathlib.Core.Path.{◌≡◌, refl, sym, ap, ◌∙◌, subst}
use mathlib.Core.Bool.{Bool, true, false, ◌&&◌}
use Prim.Native.Nat.{ℕ, zero, suc, ◌+◌, ◌≤◌, ◌<◌}
use native.Mathlib.Nat.{le_antisymm}
use native.Mathlib.Numerals.{add-one}
use native.Mathlib.Omega.{arith}
use lib.Dec.{T}
use Rattle.integer.specs.Finite.{every}
use Rattle.integer.proofs.Search.{upto}
use Rattle.rules.proofs.Ranges.{both, both_left, both_right}

pub every_none : (p : ℕ → Bool) → every 0 p ≡ true
unfolding every
every_none p = refl

pub every_next : (n : ℕ) (p : ℕ → Bool) → every (n + 1) p ≡ p n && every n p
unfolding every
every_next n p = rw add-one

pub every_end : {i n : ℕ} (p : ℕ → Bool) → i ≤ n → n ≤ i → every i p ≡ every n p
every_end p h k = ap (λ (m : ℕ). every m p) (le_antisymm h k)

pub every_at : (n : ℕ) (p : ℕ → Bool) → every n p ≡ true → (i : ℕ) → i < n → p i ≡ true
unfolding every
every_at zero p e i l = absurd (omega arith)
every_at (suc n) p e i l = upto (λ (j : ℕ). p j ≡ true) n i l (every_at n p (both_right (p n) (every n p) e)) (both_left (p n) (every n p) e)

pub every_in : (n : ℕ) (p : ℕ → Bool) → ((i : ℕ) → i < n → p i ≡ true) → every n p ≡ true
unfolding every
every_in zero p h = refl
every_in (suc n) p h = both (h n (omega arith)) (every_in n p (λ i l. h i (omega arith)))

pub every_fails : (n : ℕ) (p : ℕ → Bool) → every n p ≡ false → (i : ℕ) × (i < n) × (p i ≡ false)
unfolding every
every_fails zero p e = absurd (subst T e tt)
every_fails (suc n) p e = go (p n) refl e (λ r. every_fails n p r)
  where
    go : (b : Bool) → p n ≡ b → b && every n p ≡ false → (every n p ≡ false → (i : ℕ) × (i < n) × (p i ≡ false)) → (i : ℕ) × (i < suc n) × (p i ≡ false)
    go false h r rest = (n, omega arith, h)
    go true h r rest = let w = rest r in (w.0, omega (arith, w.1), w.2)

pub every_not : (n : ℕ) (p : ℕ → Bool) (i : ℕ) → i < n → p i ≡ false → every n p ≡ false
every_not n p i l e = go (every n p) refl
  where
    go : (b : Bool) → every n p ≡ b → b ≡ false
    go false h = refl
    go true h = absurd (subst T (sym (every_at n p h i l) ∙ e) tt)

pub every_ext : (n : ℕ) (p q : ℕ → Bool) → ((i : ℕ) → i < n → p i ≡ q i) → every n p ≡ every n q
unfolding every
every_ext zero p q h = refl
every_ext (suc n) p q h = rw (h n (omega arith), every_ext n p q (λ i l. h i (omega arith)))
