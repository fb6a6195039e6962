-- Laws of the largest value and of the first place (specs/Finite).
--   first_none, first_next, first_end — at none, at n + 1 and at the end, for loops
--   largest_none, largest_next, largest_end — the same of the largest value
--   largest_at, largest-≤, largest_ext — a value is at most the largest; the largest is at most what all values are; equal values have the same largest
--   upto      — what holds of all below n, and of n, holds of all below n + 1
--   Searched, searched — the test holds at the first place and nowhere before it, or nowhere;  first_past — at n it holds nowhere
--   first_most — it is at most n
--   clash     — a test does not both hold and fail
--   first_is, first_never — the converse: what has these properties is the first place
--   first_ext — equal tests have the same first place
use mathlib.Core.Path.{◌≡◌, refl, sym, ap, subst, ◌∙◌}
use mathlib.Core.Bool.{Bool, true, false}
use Prim.Native.Nat.{ℕ, zero, suc, ◌+◌, ◌≤◌, ◌<◌, max}
use native.Mathlib.Omega.{arith}
use native.Mathlib.Decide.{ℕ_discrete, dec_le}
use native.Mathlib.Nat.{le_antisymm}
use native.Mathlib.Numerals.{add-one}
use borrow.Author.Tests.{lt-ltb, le-ltb}
use lib.Dec.{T}
use Rattle.integer.specs.Finite.{largest, first, first_or}

pub upto : (P : ℕ → Type 0) (n j : ℕ) → j < suc n → ((i : ℕ) → i < n → P i) → P n → P j
upto P n j l f p = go (ℕ_discrete j n)
  where
    go : Dec (j ≡ n) → P j
    go (yes e) = rw e p
    go (no e) = f j (omega arith)

pub largest_none : (f : ℕ → ℕ) → largest 0 f ≡ 0
unfolding largest
largest_none f = refl

pub largest_next : (n : ℕ) (f : ℕ → ℕ) → largest (n + 1) f ≡ max (largest n f) (f n)
unfolding largest
largest_next n f = ap (λ (k : ℕ). largest k f) (add-one n)

pub largest_end : {i n : ℕ} (f : ℕ → ℕ) → i ≤ n → n ≤ i → largest i f ≡ largest n f
largest_end f p q = ap (λ (m : ℕ). largest m f) (le_antisymm p q)

pub largest_at : (n : ℕ) (f : ℕ → ℕ) (i : ℕ) → i < n → f i ≤ largest n f
unfolding largest
largest_at zero f i h = absurd (omega arith)
largest_at (suc n) f i h = upto (λ (j : ℕ). f j ≤ max (largest n f) (f n)) n i h (λ j l. omega (arith, largest_at n f j l)) (omega arith)

pub largest-≤ : (n : ℕ) (f : ℕ → ℕ) (b : ℕ) → ((i : ℕ) → i < n → f i ≤ b) → largest n f ≤ b
unfolding largest
largest-≤ zero f b h = omega arith
largest-≤ (suc n) f b h = omega (arith, largest-≤ n f b (λ i l. h i (omega arith)), h n (omega arith))

pub largest_ext : (n : ℕ) (f g : ℕ → ℕ) → ((i : ℕ) → i < n → f i ≡ g i) → largest n f ≡ largest n g
unfolding largest
largest_ext zero f g h = refl
largest_ext (suc n) f g h = rw (h n (omega arith), largest_ext n f g (λ i l. h i (omega arith)))

pub first_none : (f : ℕ → Bool) → first 0 f ≡ 0
unfolding first
first_none f = refl

pub first_next : (n : ℕ) (f : ℕ → Bool) → first (n + 1) f ≡ first_or (first n f) n (f n)
unfolding first
first_next n f = ap (λ (k : ℕ). first k f) (add-one n)

pub first_end : {i n : ℕ} (f : ℕ → Bool) → i ≤ n → n ≤ i → first i f ≡ first n f
first_end f p q = ap (λ (m : ℕ). first m f) (le_antisymm p q)

-- the two outcomes of a search: the test holds at a place and nowhere before it, or nowhere
pub data Searched (n : ℕ) (f : ℕ → Bool) : Type 0 where
  found : (i : ℕ) → i < n → first n f ≡ i → f i ≡ true → ((k : ℕ) → k < i → f k ≡ false) → Searched n f
  nowhere : first n f ≡ n → ((k : ℕ) → k < n → f k ≡ false) → Searched n f

pub searched : (n : ℕ) (f : ℕ → Bool) → Searched n f
unfolding first
searched zero f = nowhere refl (λ k l. absurd (omega arith))
searched (suc n) f = go (searched n f) (f n) refl
  where
    go : Searched n f → (b : Bool) → f n ≡ b → Searched (suc n) f
    go (found i l e p h) b q = found i (omega arith) (rw (lt-ltb (first n f) n (omega arith)) e) p h
    go (nowhere e h) true q = found n (omega arith) (rw (le-ltb (first n f) n (omega arith), q)) q h
    go (nowhere e h) false q = nowhere (rw (le-ltb (first n f) n (omega arith), q) (omega arith)) (λ k l. upto (λ (j : ℕ). f j ≡ false) n k l h q)

pub first_past : (n : ℕ) (f : ℕ → Bool) → n ≤ first n f → (k : ℕ) → k < n → f k ≡ false
first_past n f past = go (searched n f)
  where
    go : Searched n f → (k : ℕ) → k < n → f k ≡ false
    go (found i l e p h) = absurd (omega arith)
    go (nowhere e h) = h

pub first_most : {x : ℕ} (n : ℕ) (f : ℕ → Bool) → x ≡ first n f → x ≤ n
first_most {x} n f e = go (searched n f)
  where
    go : Searched n f → x ≤ n
    go (found i l p q h) = omega arith
    go (nowhere p h) = omega arith

pub clash {ℓ} : {A : Type ℓ} (b : Bool) → b ≡ true → b ≡ false → A
clash b p q = absurd (subst T (sym p ∙ q) tt)

-- a place where the test holds and before which it does not is the first
pub first_is : (n : ℕ) (f : ℕ → Bool) (i : ℕ) → i < n → f i ≡ true → ((k : ℕ) → k < i → f k ≡ false) → first n f ≡ i
first_is n f i l p h = go (searched n f) (dec_le i (first n f)) (dec_le (first n f) i)
  where
    go : Searched n f → Dec (i ≤ first n f) → Dec (first n f ≤ i) → first n f ≡ i
    go (nowhere e r) a b = clash (f i) p (r i l)
    go (found k m e q r) (no a) b = clash (f k) q (h k (omega arith))
    go (found k m e q r) (yes a) (no b) = clash (f i) p (r i (omega arith))
    go (found k m e q r) (yes a) (yes b) = omega arith

-- a test that holds nowhere below n has no first place
pub first_never : (n : ℕ) (f : ℕ → Bool) → ((k : ℕ) → k < n → f k ≡ false) → first n f ≡ n
first_never n f h = go (searched n f)
  where
    go : Searched n f → first n f ≡ n
    go (found i l e p r) = clash (f i) p (h i l)
    go (nowhere e r) = e

pub first_ext : (n : ℕ) (f g : ℕ → Bool) → ((i : ℕ) → i < n → f i ≡ g i) → first n f ≡ first n g
unfolding first
first_ext zero f g h = refl
first_ext (suc n) f g h = rw (h n (omega arith), first_ext n f g (λ i l. h i (omega arith)))
