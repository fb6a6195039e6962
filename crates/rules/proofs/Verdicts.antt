-- Laws of refusals in their order.
--   accepted_new, accepted_old — what is left where nothing is said, and where something is
--   nothing_is_not — something said is not nothing;  else_none — nothing is said by either of two
use mathlib.Core.Path.{◌≡◌, refl}
use mathlib.Core.List.{List, [], ◌∷◌}
use Prim.Native.Nat.{ℕ}
use native.Mathlib.Omega.{arith}
use Rattle.rules.specs.Order.{if_accepted, or_else}

pub accepted_new : {A : Type 0} {code : List ℕ} (new old : A) → code ≡ [] → if_accepted code new old ≡ new
accepted_new new old e = rw e

pub accepted_old : {A : Type 0} {code : List ℕ} {k : ℕ} {ks : List ℕ} (new old : A) → code ≡ k ∷ ks → if_accepted code new old ≡ old
accepted_old new old e = rw e

pub nothing_is_not : {k : ℕ} {ks : List ℕ} → k ∷ ks ≡ [] → ⊥
nothing_is_not e = let z : ◌≡◌ {A = ℕ} 0 1 = cc in omega arith

pub else_none : (a b : List ℕ) → or_else a b ≡ [] → (a ≡ []) × (b ≡ [])
else_none [] b e = (refl, e)
else_none (k ∷ ks) b e = absurd (nothing_is_not e)
