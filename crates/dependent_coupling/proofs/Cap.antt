-- A slack with each limit capped just above what is allowed does as well as the exact one.
--   capped_test  — with a residual's magnitude z and a rest y of the slack, both are above c alike
--   capped_equal — where they are not, the two sums are equal;  capped_where — the same by the test of the exact slack
use mathlib.Core.Path.{◌≡◌, refl, sym, ap, ◌∙◌}
use mathlib.Core.Bool.{Bool, true, false}
use Prim.Native.Nat.{ℕ, zero, suc, ◌+◌, ◌*◌, ◌≤◌, min}
use native.Mathlib.Omega.{arith}
use native.Mathlib.Nat.{mul-le-mul_left, mul-le-mul_right}
use borrow.Author.Tests.{ltb-true, ltb-false, lt-ltb, le-ltb}
use lib.Dec.{ltb}
use Rattle.integer.specs.Finite.{sumℕ}
use Rattle.integer.proofs.Sum.{sumℕ_ext, sumℕ_mono, sumℕ_at}

module _ (n c : ℕ) (a E : ℕ → ℕ) where
  abbrev capped : ℕ → ℕ
  capped k = a k * min (E k) (c + 1)

  abbrev exact : ℕ → ℕ
  exact k = a k * E k

  -- a term that is at most c: a is 0, or E below the cap
  term : (x e : ℕ) → x * min e (c + 1) ≤ c → x * min e (c + 1) ≡ x * e
  term zero e h = omega arith
  term (suc x) e h =
      let low : min e (c + 1) ≤ c = omega (arith, mul-le-mul_right {m = 1} {n = suc x} (min e (c + 1)) (omega arith)) in
      ap (λ (y : ℕ). suc x * y) (omega arith)

  capped_equal : (z y : ℕ) → z + (sumℕ n capped + y) ≤ c → sumℕ n capped ≡ sumℕ n exact
  capped_equal z y h = sumℕ_ext n capped exact (λ k l. term (a k) (E k) (omega (arith, sumℕ_at n capped k l)))

  capped_most : sumℕ n capped ≤ sumℕ n exact
  capped_most = sumℕ_mono n capped exact (λ k l. mul-le-mul_left (a k) (omega arith))

  pub capped_test : (z y : ℕ) → ltb c (z + (sumℕ n capped + y)) ≡ ltb c (z + (sumℕ n exact + y))
  capped_test z y = go (ltb c (z + (sumℕ n capped + y))) refl
    where
      go : (x : Bool) → ltb c (z + (sumℕ n capped + y)) ≡ x → x ≡ ltb c (z + (sumℕ n exact + y))
      go true e = sym (lt-ltb c (z + (sumℕ n exact + y)) (omega (arith, ltb-true c (z + (sumℕ n capped + y)) e, capped_most)))
      go false e =
          let h : z + (sumℕ n capped + y) ≤ c = ltb-false c (z + (sumℕ n capped + y)) e in
          sym (le-ltb c (z + (sumℕ n exact + y)) (omega (arith, h, capped_equal z y h)))

  pub capped_where : (z y : ℕ) → ltb c (z + (sumℕ n exact + y)) ≡ false → sumℕ n capped ≡ sumℕ n exact
  capped_where z y e = capped_equal z y (ltb-false c (z + (sumℕ n capped + y)) (capped_test z y ∙ e))
