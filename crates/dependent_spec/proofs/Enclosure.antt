-- The enclosure of a net that depends on marks with guesses X₁ and limits E₁, in the steps of its problem P, over plain vectors.
--   shifted_both — A·(S·N − q·X) less q times the residual S·b − C·X₁ − A·X is S·(A·N + C·N₁ − q·b) less C·(S·N₁ − q·X₁)
--   carried  — |C·(S·N₁ − q·X₁)| ≤ q·Σ|C|·E₁ where every S·N₁ is within q·E₁ of q·X₁
--   dependent_within — then A·N + C·N₁ within q·d of q·b gives |S·N_i − q·X_i| ≤ q·E_i, for the limits E of that residual and the slack Σ|C|·E₁ + S·d
use mathlib.Core.Path.{◌≡◌, ap, ◌∙◌}
use Prim.Native.Nat.{ℕ, ◌+◌, ◌*◌, ◌≤◌, ◌<◌}
use native.Mathlib.Omega.{arith}
use native.Mathlib.Nat.{mul-le-mul_left}
use lib.IntN.{ℤ, pos, nat_abs, ◌+ℤ◌, ◌-ℤ◌, ◌*ℤ◌}
use Rattle.integer.specs.Finite.{sumℕ}
use Rattle.integer.proofs.Absolute.{abs-*, abs_sub}
use Rattle.integer.proofs.Difference.{is, zz}
use Rattle.integer.proofs.Ring.{ring}
use Rattle.integer.proofs.Sum.{sumℕ_mono, sumℕ-*}
use Rattle.linear.specs.Matrix.{Vec, Mat, apply}
use Rattle.linear.proofs.Product.{apply_vectors, abs_apply}
use Rattle.enclosure.specs.Problem.{Problem, S}
use Rattle.enclosure.specs.Reckoning.{slack, bound_with}
use Rattle.enclosure.specs.Demand.{InLimits}
use Rattle.enclosure.specs.Sound.{Margins}
use Rattle.enclosure.proofs.Demands.{within}

shifted_both : (s q an ax cn cx b : ℤ) → s *ℤ an -ℤ q *ℤ ax -ℤ q *ℤ (s *ℤ b -ℤ cx -ℤ ax) ≡ s *ℤ (an +ℤ cn -ℤ q *ℤ b) -ℤ (s *ℤ cn -ℤ q *ℤ cx)
shifted_both s q an ax cn cx b =
    ap (λ (z : ℤ). s *ℤ an -ℤ q *ℤ ax -ℤ z) (apart s q ax cx b)
    ∙ (cancel (s *ℤ an) (q *ℤ ax) (s *ℤ (q *ℤ b)) (q *ℤ cx) (s *ℤ cn) ∙ ap (λ (z : ℤ). z -ℤ (s *ℤ cn -ℤ q *ℤ cx)) (joined s q an cn b))
  where
    apart : (s q ax cx b : ℤ) → q *ℤ (s *ℤ b -ℤ cx -ℤ ax) ≡ s *ℤ (q *ℤ b) -ℤ q *ℤ cx -ℤ q *ℤ ax
    apart s q ax cx b = simp ring

    cancel : (u v w x y : ℤ) → u -ℤ v -ℤ (w -ℤ x -ℤ v) ≡ u +ℤ y -ℤ w -ℤ (y -ℤ x)
    cancel u v w x y = rw (is u, is v, is w, is x, is y) (simp zz (omega arith))

    joined : (s q an cn b : ℤ) → s *ℤ an +ℤ s *ℤ cn -ℤ s *ℤ (q *ℤ b) ≡ s *ℤ (an +ℤ cn -ℤ q *ℤ b)
    joined s q an cn b = simp ring

module _ (P : Problem) (n₁ : ℕ) (C : Mat) (X₁ : Vec) (E₁ : ℕ → ℕ) where
  -- the residual and the slack
  abbrev r : Vec
  r k = pos (S P) *ℤ P.b k -ℤ apply n₁ C X₁ k -ℤ apply P.n P.A P.X k

  abbrev σ : ℕ → ℕ
  σ k = sumℕ n₁ (λ (j : ℕ). nat_abs (C k j) * E₁ j) + slack P k

  module _ (q : ℕ) (N₁ : Vec) (h₁ : (j : ℕ) → j < n₁ → nat_abs (pos (S P) *ℤ N₁ j -ℤ pos q *ℤ X₁ j) ≤ q * E₁ j) where
    carried : (k : ℕ) → nat_abs (pos (S P) *ℤ apply n₁ C N₁ k -ℤ pos q *ℤ apply n₁ C X₁ k) ≤ q * sumℕ n₁ (λ (j : ℕ). nat_abs (C k j) * E₁ j)
    carried k =
        let e : Vec = λ j. pos (S P) *ℤ N₁ j -ℤ pos q *ℤ X₁ j in
        let y : ℕ → ℕ = λ j. nat_abs (C k j) * E₁ j in
        let s : sumℕ n₁ (λ (j : ℕ). nat_abs (C k j) * nat_abs (e j)) ≤ sumℕ n₁ (λ (j : ℕ). y j * q) =
        sumℕ_mono n₁ (λ (j : ℕ). nat_abs (C k j) * nat_abs (e j)) (λ (j : ℕ). y j * q) (λ j l. omega (arith, mul-le-mul_left (nat_abs (C k j)) (h₁ j l))) in
        rw (← apply_vectors n₁ C (pos (S P)) (pos q) N₁ X₁ k) (omega (arith, abs_apply n₁ C e k, s, sumℕ-* n₁ q y))

    module _ (N : Vec) (h : (k : ℕ) → k < P.n → nat_abs (apply P.n P.A N k +ℤ apply n₁ C N₁ k -ℤ pos q *ℤ P.b k) ≤ q * P.d k) where
      near : (k : ℕ) → k < P.n → nat_abs (apply P.n P.A (λ (i : ℕ). pos (S P) *ℤ N i -ℤ pos q *ℤ P.X i) k -ℤ pos q *ℤ r k) ≤ q * σ k
      near k l =
          let t : ℤ = apply P.n P.A N k +ℤ apply n₁ C N₁ k -ℤ pos q *ℤ P.b k in
          rw (
            apply_vectors P.n P.A (pos (S P)) (pos q) N P.X k,
            shifted_both (pos (S P)) (pos q) (apply P.n P.A N k) (apply P.n P.A P.X k) (apply n₁ C N₁ k) (apply n₁ C X₁ k) (P.b k),
          )
          (omega (arith, abs_sub (pos (S P) *ℤ t) (pos (S P) *ℤ apply n₁ C N₁ k -ℤ pos q *ℤ apply n₁ C X₁ k), abs-* (pos (S P)) t, mul-le-mul_left (S P) (h k l), carried k))

      pub dependent_within : ((i : ℕ) → i < P.n → 1 ≤ P.w i) → Margins P → InLimits P (bound_with P r σ) N q
      dependent_within hw hm = within P hw hm q (λ i. pos (S P) *ℤ N i -ℤ pos q *ℤ P.X i) r σ near
