-- Source document 002, Theorem 1, with a tolerance: the limits come from one vector v that meets condition (2.9) for every right side within the tolerances.
--   start_next   — u_0 − u_1 is G·(S·β − ρ·(A·X)) in steps of 1/(ρ·S·T), up to its sign
--   next_near    — so it is at most |p_i| with its slack, in steps of 1/(S·T)
--   largest_ratio_row     — there is a row where |p_k| with its slack over g_k is largest
--   condition    — v_i = w_i·sizes_k / (g_k·S) meets (2.9) for such a row k
--   bound_is_v   — limit i is S·v_i rounded up
--   v_before     — where there is no tolerance, as in 002, v_i is w_i·|p_k| / (g_k·S)
use mathlib.Core.Path.{◌≡◌, sym, ap, ◌∙◌}
use Prim.Native.Nat.{ℕ, ◌+◌, ◌*◌, ◌≤◌, ◌<◌}
use native.Mathlib.Omega.{arith}
use native.Mathlib.Nat.{mul-le-mul_left}
use lib.IntN.{ℤ, pos, neg_ℤ, nat_abs, ◌+ℤ◌, ◌-ℤ◌, ◌*ℤ◌}
use Rattle.integer.specs.Finite.{sumℕ}
use Rattle.integer.specs.Quotient.{ceil_div}
use Rattle.integer.proofs.Absolute.{abs-*, abs_neg}
use Rattle.integer.proofs.Ring.{ring, ring₀, moves, by_zero, *-+}
use Rattle.integer.proofs.LargestRatio.{largest_ratio_of}
use Rattle.integer.proofs.Sum.{sumℕ_ext, sumℕ-*}
use Rattle.linear.specs.Matrix.{Vec, apply}
use Rattle.linear.proofs.Product.{apply_vectors}
use Rattle.enclosure.specs.Problem.{Problem, S, T}
use Rattle.enclosure.specs.Reckoning.{defect, load, margin, residual, slack, magnitudes_with, magnitudes, bound_with, bound}
use Rattle.enclosure.specs.Demand.{RightSide, NoTolerance}
use Rattle.enclosure.specs.Sound.{Margins}
use Rattle.enclosure.specs.Schroeder.{image, u0, u1, v, Condition29, LargestRatioRow}
use Rattle.enclosure.proofs.Before.{magnitudes_before}
use Rattle.enclosure.proofs.Bounds.{bound_at}
use Rattle.enclosure.proofs.Enclosure.{apply_defect, image_near, abs_split}
use Rattle.enclosure.proofs.Margin.{margin_sum, margin_above}
use Rattle.enclosure.proofs.Tolerance.{residual_shifted}

swap : (r d x y : ℤ) → r *ℤ (d +ℤ x) -ℤ (r *ℤ d +ℤ y) ≡ neg_ℤ (y -ℤ r *ℤ x)
swap r d x y = rw (*-+ r d x) (cancel (r *ℤ d) (r *ℤ x) y)
  where
    cancel : (d x y : ℤ) → d +ℤ x -ℤ (d +ℤ y) ≡ neg_ℤ (y -ℤ x)
    cancel d x y = by_zero (simp ring (simp moves (simp ring₀)))

module _ (P : Problem) (β : Vec) (ρ : ℕ) where
  -- S·β − ρ·(A·X)
  abbrev away : Vec
  away k = pos (S P) *ℤ β k -ℤ pos ρ *ℤ apply P.n P.A P.X k

  start_next : (i : ℕ) → i < P.n → nat_abs (u0 P ρ i -ℤ u1 P β ρ i) ≡ nat_abs (apply P.n P.G away i)
  unfolding u0 u1
  start_next i l =
      let d : ℤ = apply P.n (defect P) P.X i in
      let x : ℤ = apply P.n P.G (apply P.n P.A P.X) i in
      let y : ℤ = pos (S P) *ℤ apply P.n P.G β i in
      let e : pos ρ *ℤ (pos (T P) *ℤ P.X i) -ℤ (pos ρ *ℤ d +ℤ y) ≡ neg_ℤ (y -ℤ pos ρ *ℤ x) = rw (apply_defect P P.X i l) (swap (pos ρ) d x y) in
      ap nat_abs e ∙ abs_neg (y -ℤ pos ρ *ℤ x) ∙ ap nat_abs (sym (apply_vectors P.n P.G (pos (S P)) (pos ρ) β (apply P.n P.A P.X) i))

  next_near : RightSide P β ρ → (i : ℕ) → i < P.n → nat_abs (u0 P ρ i -ℤ u1 P β ρ i) ≤ ρ * magnitudes P i
  unfolding magnitudes magnitudes_with residual
  next_near x i l =
      let p : ℤ = apply P.n P.G (residual P) i in
      omega (
        arith,
        start_next i l,
        abs_split (apply P.n P.G away i) (pos ρ *ℤ p),
        abs-* (pos ρ) p,
        image_near P ρ away (residual P) (slack P) near i,
      )
    where
      near : (k : ℕ) → k < P.n → nat_abs (away k -ℤ pos ρ *ℤ residual P k) ≤ ρ * slack P k
      near k lk =
          rw (residual_shifted (pos (S P)) (pos ρ) (β k) (apply P.n P.A P.X k) (P.b k), abs-* (pos (S P)) (β k -ℤ pos ρ *ℤ P.b k))
          (omega (arith, mul-le-mul_left (S P) (x.near k lk)))

-- g·u + ρ·(L·z) ≤ ρ·(t·(w·z)) from u ≤ ρ·y, y·g ≤ z·h and h + L = t·w
met_row : (g u ρ L z t w y h : ℕ) → u ≤ ρ * y → y * g ≤ z * h → h + L ≡ t * w → g * u + ρ * (L * z) ≤ ρ * (t * (w * z))
met_row g u ρ L z t w y h a b e = omega (arith, mul-le-mul_left g a, mul-le-mul_left ρ b, ap (λ (x : ℕ). ρ * (z * x)) e)

module _ (P : Problem) (hm : Margins P) where
  pub largest_ratio_row : 0 < P.n → (k : ℕ) × LargestRatioRow P k
  largest_ratio_row = largest_ratio_of (magnitudes P) (λ (m : ℕ). nat_abs (margin P m)) P.n (λ m l. margin_above P m (hm m l))

  pub condition : (k : ℕ) → LargestRatioRow P k → Condition29 P k
  condition k x = record {
    holds = λ β ρ y i l.
        let f : ℕ → ℕ = λ j. nat_abs (defect P i j) * P.w j in
        let e : sumℕ P.n (λ (j : ℕ). nat_abs (defect P i j) * v P k j) ≡ sumℕ P.n f * magnitudes P k =
        sumℕ_ext P.n (λ (j : ℕ). nat_abs (defect P i j) * v P k j) (λ (j : ℕ). f j * magnitudes P k) (λ j lj. omega arith) ∙ sumℕ-* P.n (magnitudes P k) f in
        rw e (met_row (nat_abs (margin P k)) (nat_abs (u0 P ρ i -ℤ u1 P β ρ i)) ρ (sumℕ P.n f) (magnitudes P k) (T P) (P.w i) (magnitudes P i) (nat_abs (margin P i))
        (next_near P β ρ y i l) (x.most i l) (unfold load in margin_sum P i (hm i l)));
  }

  pub bound_is_v : (k : ℕ) → LargestRatioRow P k → (i : ℕ) → bound P i ≡ ceil_div (v P k i) (nat_abs (margin P k))
  unfolding bound bound_with magnitudes
  bound_is_v k x i = bound_at P.n (magnitudes P) (λ (m : ℕ). nat_abs (margin P m)) P.w i k (λ m l. margin_above P m (hm m l)) x

  pub v_before : NoTolerance P → (k i : ℕ) → v P k i ≡ P.w i * nat_abs (image P k)
  v_before h k i = ap (λ (x : ℕ). P.w i * x) (magnitudes_before P h k)
