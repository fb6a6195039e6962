-- n equations in n + 1 unknowns have a solution in whole numbers that is not zero: elimination without fractions.
--   skip, unskip — the places without place p, and back
--   sum_skip     — a sum is one of its terms and the sum over the other places
--   Kernel       — a vector whose first m numbers are not all 0, with B·v = 0 in the first n rows
--   more_unknowns — there is one where m is n + 1
use mathlib.Core.Path.{◌≡◌, refl, sym, ap, ◌∙◌}
use mathlib.Core.Bool.{Bool, true, false, cond}
use Prim.Native.Nat.{ℕ, zero, suc, ◌-◌, ◌≤◌, ◌<◌}
use native.Mathlib.Omega.{arith}
use native.Mathlib.Decide.{ℕ_discrete}
use native.Mathlib.Nat.{mul-le-mul}
use borrow.Author.Tests.{ltb-true, ltb-false, lt-ltb, le-ltb, eq-eqb, ne_eqb}
use lib.Dec.{ltb, eqb}
use lib.IntN.{ℤ, pos, neg_ℤ, nat_abs, ◌+ℤ◌, ◌-ℤ◌, ◌*ℤ◌}
use Rattle.integer.specs.Finite.{sum}
use Rattle.integer.proofs.Absolute.{abs-*, abs_zero}
use Rattle.integer.proofs.Ring.{ring, ring₀, moves, by_zero, zero-*, *-zero}
use Rattle.integer.proofs.Search.{Searched, found, nowhere, searched, upto}
use Rattle.integer.proofs.Sum.{sum_ext, sum_zero, sum-*}
use Rattle.linear.specs.Matrix.{Vec, Mat, apply}

abbrev skip : ℕ → ℕ → ℕ
skip p j = cond (ltb j p) j (suc j)

abbrev unskip : ℕ → ℕ → ℕ
unskip p i = cond (ltb i p) i (i - 1)

skip_low : (p j : ℕ) → j < p → skip p j ≡ j
skip_low p j h = rw (lt-ltb j p h)

skip_high : (p j : ℕ) → p ≤ j → skip p j ≡ suc j
skip_high p j h = rw (le-ltb j p h)

unskip_skip : (p j : ℕ) → unskip p (skip p j) ≡ j
unskip_skip p j = go (ltb j p) refl
  where
    go : (b : Bool) → ltb j p ≡ b → unskip p (cond b j (suc j)) ≡ j
    go true e = rw e
    go false e = rw (le-ltb (suc j) p (omega (arith, ltb-false j p e))) (omega arith)

skip_other : (p j : ℕ) → eqb (skip p j) p ≡ false
skip_other p j = go (ltb j p) refl
  where
    go : (b : Bool) → ltb j p ≡ b → eqb (cond b j (suc j)) p ≡ false
    go true e = ne_eqb j p (λ q. omega (arith, ltb-true j p e))
    go false e = ne_eqb (suc j) p (λ q. omega (arith, ltb-false j p e))

sum_skip : (n p : ℕ) (f : ℕ → ℤ) → p < suc n → sum (suc n) f ≡ f p +ℤ sum n (λ (j : ℕ). f (skip p j))
unfolding sum
sum_skip zero p f h = let e : p ≡ 0 = omega arith in rw e (simp ring₀)
sum_skip (suc n) p f h = go (ℕ_discrete p (suc n)) (sum_skip n p f)
  where
    go : Dec (p ≡ suc n) → (p < suc n → sum (suc n) f ≡ f p +ℤ sum n (λ (j : ℕ). f (skip p j)))
        → sum (suc n) f +ℤ f (suc n) ≡ f p +ℤ (sum n (λ (j : ℕ). f (skip p j)) +ℤ f (skip p n))
    go (yes e) ih =
        let s : sum (suc n) (λ (j : ℕ). f (skip p j)) ≡ sum (suc n) f = sum_ext (suc n) (λ (j : ℕ). f (skip p j)) f (λ j l. rw (skip_low p j (omega arith))) in
        rw (ap f (sym e)) (rw (← s) (simp ring))
    go (no e) ih = rw (ih (omega arith), skip_high p n (omega arith)) (simp ring)

pub record Kernel (n m : ℕ) (B : Mat) : Type 0 where
  pub v : Vec
  pub at : ℕ
  pub below : at < m
  pub pivot_pos : 0 < nat_abs (v at)
  pub zero : (k : ℕ) → k < n → apply m B v k ≡ pos 0

-- ---- the last equation has no coefficient
module _ (n : ℕ) (B : Mat) (none : (j : ℕ) → j < suc (suc n) → B n j ≡ pos 0) (K : Kernel n (suc n) B) where
  unfoldable longer : Vec
  longer j = cond (ltb j (suc n)) (K.v j) (pos 0)

  same : (j : ℕ) → j < suc n → longer j ≡ K.v j
  unfolding longer
  same j l = rw (lt-ltb j (suc n) l)

  without : Kernel (suc n) (suc (suc n)) B
  unfolding apply sum longer
  without = record {
    v = longer;
    at = K.at;
    below = omega (arith, K.below);
    pivot_pos = rw (same K.at K.below) K.pivot_pos;
    zero = λ k l. upto (λ (i : ℕ). sum (suc (suc n)) (λ (j : ℕ). B i j *ℤ longer j) ≡ pos 0) n k l earlier last;
  }
    where
      earlier : (k : ℕ) → k < n → sum (suc (suc n)) (λ (j : ℕ). B k j *ℤ longer j) ≡ pos 0
      earlier k l =
          let s : sum (suc n) (λ (j : ℕ). B k j *ℤ longer j) ≡ pos 0 =
          sum_ext (suc n) (λ (j : ℕ). B k j *ℤ longer j) (λ (j : ℕ). B k j *ℤ K.v j) (λ j h. rw (same j h)) ∙ K.zero k l in
          let e : longer (suc n) ≡ pos 0 = rw (le-ltb (suc n) (suc n) (omega arith)) in
          rw (s, e) (simp ring₀)

      last : sum (suc (suc n)) (λ (j : ℕ). B n j *ℤ longer j) ≡ pos 0
      last = sum_ext (suc (suc n)) (λ (j : ℕ). B n j *ℤ longer j) (λ (j : ℕ). pos 0) (λ j h. rw (none j h) (zero-* (longer j))) ∙ sum_zero (suc (suc n))

-- ---- it has one at place p
abbrev reduced : ℕ → ℕ → Mat → Mat
reduced n p B k j = B n p *ℤ B k (skip p j) -ℤ B k p *ℤ B n (skip p j)

module _ (n p : ℕ) (B : Mat) (inside : p < suc (suc n)) (pivot_pos : 0 < nat_abs (B n p)) (K : Kernel n (suc n) (reduced n p B)) where
  -- the sums of row k over the other places
  unfoldable rest : ℕ → ℤ
  rest k = sum (suc n) (λ (j : ℕ). B k (skip p j) *ℤ K.v j)

  unfoldable whole : Vec
  whole i = cond (eqb i p) (neg_ℤ (rest n)) (B n p *ℤ K.v (unskip p i))

  at_pivot : whole p ≡ neg_ℤ (rest n)
  unfolding whole rest
  at_pivot = rw (eq-eqb p p refl)

  elsewhere : (j : ℕ) → whole (skip p j) ≡ B n p *ℤ K.v j
  unfolding whole
  elsewhere j = rw (skip_other p j) (ap (λ (i : ℕ). B n p *ℤ K.v i) (unskip_skip p j))

  row_is : (k : ℕ) → sum (suc (suc n)) (λ (j : ℕ). B k j *ℤ whole j) ≡ B k p *ℤ neg_ℤ (rest n) +ℤ B n p *ℤ rest k
  unfolding rest
  row_is k =
      let f : ℕ → ℤ = λ j. B k j *ℤ whole j in
      let s : sum (suc n) (λ (j : ℕ). f (skip p j)) ≡ B n p *ℤ rest k =
      sum_ext (suc n) (λ (j : ℕ). f (skip p j)) (λ (j : ℕ). B n p *ℤ (B k (skip p j) *ℤ K.v j)) (λ j l. rw (elsewhere j) (simp ring))
      ∙ sum-* (suc n) (B n p) (λ (j : ℕ). B k (skip p j) *ℤ K.v j) in
      sum_skip (suc n) p f inside ∙ rw (at_pivot, s)

  reduced_is : (m k : ℕ) → sum m (λ (j : ℕ). reduced n p B k j *ℤ K.v j) ≡ B n p *ℤ sum m (λ (j : ℕ). B k (skip p j) *ℤ K.v j) -ℤ B k p *ℤ sum m (λ (j : ℕ). B n (skip p j) *ℤ K.v j)
  unfolding sum
  reduced_is zero k = sym (rw (*-zero (B n p), *-zero (B k p)))
  reduced_is (suc m) k = rw (reduced_is m k) (simp ring)

  with_pivot : Kernel (suc n) (suc (suc n)) B
  unfolding apply rest
  with_pivot = record {
    v = whole;
    at = skip p K.at;
    below = low (ltb K.at p) refl;
    pivot_pos = rw (elsewhere K.at, abs-* (B n p) (K.v K.at)) (mul-le-mul pivot_pos K.pivot_pos);
    zero = λ k l. upto (λ (i : ℕ). sum (suc (suc n)) (λ (j : ℕ). B i j *ℤ whole j) ≡ pos 0) n k l earlier last;
  }
    where
      low : (b : Bool) → ltb K.at p ≡ b → cond b K.at (suc K.at) < suc (suc n)
      low true e = omega (arith, K.below)
      low false e = omega (arith, K.below)

      earlier : (k : ℕ) → k < n → sum (suc (suc n)) (λ (j : ℕ). B k j *ℤ whole j) ≡ pos 0
      earlier k l = row_is k ∙ (by_zero (simp ring (simp moves (simp ring₀))) ∙ (sym (reduced_is (suc n) k) ∙ K.zero k l))

      last : sum (suc (suc n)) (λ (j : ℕ). B n j *ℤ whole j) ≡ pos 0
      last = row_is n ∙ by_zero (simp ring (simp moves (simp ring₀)))

is_zero : (z : ℤ) → ltb 0 (nat_abs z) ≡ false → z ≡ pos 0
is_zero z e = abs_zero z (ltb-false 0 (nat_abs z) e)

pub more_unknowns : (n : ℕ) (B : Mat) → Kernel n (suc n) B
more_unknowns zero B = record { v = λ j. pos 1; at = 0; below = omega arith; pivot_pos = omega arith; zero = λ k l. absurd (omega arith) }
more_unknowns (suc n) B = go (searched (suc (suc n)) (λ (j : ℕ). ltb 0 (nat_abs (B n j)))) (more_unknowns n B) (λ p. more_unknowns n (reduced n p B))
  where
    go : Searched (suc (suc n)) (λ (j : ℕ). ltb 0 (nat_abs (B n j))) → Kernel n (suc n) B → ((p : ℕ) → Kernel n (suc n) (reduced n p B)) → Kernel (suc n) (suc (suc n)) B
    go (nowhere e h) K L = without n B (λ j l. is_zero (B n j) (h j l)) K
    go (found p l e t h) K L = with_pivot n p B l (ltb-true 0 (nat_abs (B n p)) t) (L p)
