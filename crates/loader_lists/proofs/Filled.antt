-- Laws of the ones that an end fills in.
--   length_filled — the list keeps its length
--   filled_given, filled_one, filled_past — a weight that was given stays; one that was not is 1; no place from n on changes
--   filled_all — where every weight was given the list stays as it is
use mathlib.Core.Path.{◌≡◌, refl, ◌∙◌}
use mathlib.Core.Bool.{Bool, true, false, cond}
use mathlib.Core.List.{List}
use Prim.Native.Nat.{ℕ, zero, suc, ◌≤◌, ◌<◌}
use native.Mathlib.Decide.{ℕ_discrete}
use native.Mathlib.Omega.{arith}
use lib.IntN.{ℤ, pos}
use lib.ListN.{length, get_or, set, length-set}
use lib.Seq.{get_or-set_same, get_or-set_other}
use Rattle.loader_bit_set.specs.Places.{has_place}
use Rattle.loader_lists.specs.Put.{filled_at, filled}

module _ (z k : ℕ) (l : List ℤ) where
  length_at : length (filled_at z k l) ≡ length l
  length_at = go (has_place z k)
    where
      go : (b : Bool) → length (cond b l (set l k (pos 1))) ≡ length l
      go true = refl
      go false = length-set l k (pos 1)

  at_given : has_place z k ≡ true → get_or (filled_at z k l) k (pos 0) ≡ get_or l k (pos 0)
  at_given e = rw e

  at_open : has_place z k ≡ false → k < length l → get_or (filled_at z k l) k (pos 0) ≡ pos 1
  at_open e h = rw e (get_or-set_same l k (pos 1) (pos 0) h)

  at_other : (i : ℕ) → (i ≡ k → ⊥) → get_or (filled_at z k l) i (pos 0) ≡ get_or l i (pos 0)
  at_other i e = go (has_place z k)
    where
      go : (b : Bool) → get_or (cond b l (set l k (pos 1))) i (pos 0) ≡ get_or l i (pos 0)
      go true = refl
      go false = get_or-set_other l k i (pos 1) (pos 0) e

pub length_filled : (n z : ℕ) (l : List ℤ) → length (filled n z l) ≡ length l
unfolding filled
length_filled zero z l = refl
length_filled (suc n) z l = length_at z n (filled n z l) ∙ length_filled n z l

pub filled_past : (n z : ℕ) (l : List ℤ) (i : ℕ) → n ≤ i → get_or (filled n z l) i (pos 0) ≡ get_or l i (pos 0)
unfolding filled
filled_past zero z l i h = refl
filled_past (suc n) z l i h = at_other z n (filled n z l) i (λ e. omega arith) ∙ filled_past n z l i (omega arith)

pub filled_given : (n z : ℕ) (l : List ℤ) (i : ℕ) → has_place z i ≡ true → get_or (filled n z l) i (pos 0) ≡ get_or l i (pos 0)
unfolding filled
filled_given zero z l i h = refl
filled_given (suc n) z l i h = go (ℕ_discrete i n) ∙ filled_given n z l i h
  where
    go : Dec (i ≡ n) → get_or (filled_at z n (filled n z l)) i (pos 0) ≡ get_or (filled n z l) i (pos 0)
    go (yes e) = rw e (at_given z n (filled n z l) (rw e at h))
    go (no e) = at_other z n (filled n z l) i e

pub filled_all : (n z : ℕ) (l : List ℤ) → ((i : ℕ) → i < n → has_place z i ≡ true) → filled n z l ≡ l
unfolding filled
filled_all zero z l h = refl
filled_all (suc n) z l h = rw (h n (omega arith)) (filled_all n z l (λ i m. h i (omega arith)))

pub filled_one : (n z : ℕ) (l : List ℤ) (i : ℕ) → has_place z i ≡ false → i < n → n ≤ length l → get_or (filled n z l) i (pos 0) ≡ pos 1
unfolding filled
filled_one zero z l i h a b = absurd (omega arith)
filled_one (suc n) z l i h a b = go (ℕ_discrete i n) (λ c. filled_one n z l i h c (omega arith))
  where
    go : Dec (i ≡ n) → (i < n → get_or (filled n z l) i (pos 0) ≡ pos 1) → get_or (filled_at z n (filled n z l)) i (pos 0) ≡ pos 1
    go (yes e) below = rw e (at_open z n (filled n z l) (rw e at h) (rw (length_filled n z l) (omega arith)))
    go (no e) below = at_other z n (filled n z l) i e ∙ below (omega arith)
