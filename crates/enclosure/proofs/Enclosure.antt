-- The enclosure, once, with a slack σ: if |(A·e)_k − q·r_k| ≤ q·σ_k for every row k, all margins are above 0 and w_i·P_m ≤ E_i·g_m with
-- P_m = magnitudes_with P r σ m = |(G·r)_m| + Σ_j |G_mj|·σ_j, then |e_i| ≤ q·E_i. Document 01's is σ = 0.
--   apply_defect — T·e = D·e + G·(A·e)
--   image_near   — what is within q·σ of q·r is carried by G to within q·Σ |G|·σ of q·G·r
--   enclosed     — the theorem
use mathlib.Core.Path.{◌≡◌, sym, ap}
use Prim.Native.Nat.{ℕ, ◌+◌, ◌*◌, ◌≤◌, ◌<◌}
use native.Mathlib.Omega.{arith}
use native.Mathlib.Nat.{mul-le-mul_left, mul-le-mul_right, le_of_mul-le-mul_right}
use lib.IntN.{ℤ, pos, nat_abs, ◌+ℤ◌, ◌-ℤ◌, ◌*ℤ◌, -ℤ-+ℤ_cancel}
use Rattle.integer.specs.Finite.{sumℕ}
use Rattle.integer.specs.LargestRatio.{LargestRatio}
use Rattle.integer.proofs.Absolute.{abs-+, abs-*}
use Rattle.integer.proofs.LargestRatio.{largest_ratio_of}
use Rattle.integer.proofs.Sum.{sumℕ_mono, sumℕ-*}
use Rattle.linear.specs.Matrix.{Vec, apply, product, identity}
use Rattle.linear.proofs.Product.{apply_less, apply_identity, apply_product, apply_sub, apply_scale, abs_apply}
use Rattle.enclosure.specs.Problem.{Problem, T}
use Rattle.enclosure.specs.Reckoning.{defect, load, margin, magnitudes_with}
use Rattle.enclosure.specs.Sound.{Margins}
use Rattle.enclosure.proofs.Margin.{margin_sum, margin_above}

pub apply_defect : (P : Problem) (e : Vec) (m : ℕ) → m < P.n →
    pos (T P) *ℤ e m ≡ apply P.n (defect P) e m +ℤ apply P.n P.G (apply P.n P.A e) m
unfolding defect
apply_defect P e m h =
    rw (apply_less P.n (pos (T P)) identity (product P.n P.G P.A) e m, apply_identity P.n e m h, apply_product P.n P.G P.A e m)
    (sym (-ℤ-+ℤ_cancel (pos (T P) *ℤ e m) (apply P.n P.G (apply P.n P.A e) m)))

-- ---- arithmetic in ℕ
peak_arith : (t u W X L G Q : ℕ) → t * u ≤ X + Q → X * W ≤ L * u → G + L ≡ t * W → u * G ≤ Q * W
peak_arith t u W X L G Q h k e = omega (arith, mul-le-mul_right W h, ap (λ (x : ℕ). u * x) e)

-- from the peak to any row
end_arith : (u v g wi wm q P E : ℕ) → u * wm ≤ v * wi → v * g ≤ q * P * wm → wi * P ≤ E * g → 1 ≤ wm → 0 < g → u ≤ q * E
end_arith u v g wi wm q P E h k l o p =
    let x : u * g * wm ≤ q * E * g * wm = omega (arith, mul-le-mul_right g h, mul-le-mul_right wi k, mul-le-mul_right (q * wm) l) in
    le_of_mul-le-mul_right (le_of_mul-le-mul_right x o) p

pub abs_split : (y z : ℤ) → nat_abs y ≤ nat_abs (y -ℤ z) + nat_abs z
abs_split y z = omega (arith, abs-+ (y -ℤ z) z, ap nat_abs (-ℤ-+ℤ_cancel y z))

abs_apart : (x y z : ℤ) → nat_abs (x +ℤ y) ≤ nat_abs x + (nat_abs (y -ℤ z) + nat_abs z)
abs_apart x y z = omega (arith, abs-+ x y, abs_split y z)

-- y within q·σ of q·r: |G·y − q·G·r| ≤ q·Σ |G|·σ
pub image_near : (P : Problem) (q : ℕ) (y r : Vec) (σ : ℕ → ℕ) → ((k : ℕ) → k < P.n → nat_abs (y k -ℤ pos q *ℤ r k) ≤ q * σ k) →
    (m : ℕ) → nat_abs (apply P.n P.G y m -ℤ pos q *ℤ apply P.n P.G r m) ≤ q * sumℕ P.n (λ (j : ℕ). nat_abs (P.G m j) * σ j)
image_near P q y r σ h m =
    let δ : Vec = λ k. y k -ℤ pos q *ℤ r k in
    let x : ℕ → ℕ = λ j. nat_abs (P.G m j) * nat_abs (δ j) in
    let z : ℕ → ℕ = λ j. nat_abs (P.G m j) * σ j in
    let s : sumℕ P.n x ≤ sumℕ P.n (λ (j : ℕ). z j * q) =
    sumℕ_mono P.n x (λ (j : ℕ). z j * q) (λ j l. omega (arith, mul-le-mul_left (nat_abs (P.G m j)) (h j l))) in
    rw (← apply_scale P.n P.G (pos q) r m, ← apply_sub P.n P.G y (λ (k : ℕ). pos q *ℤ r k) m)
    (omega (arith, abs_apply P.n P.G δ m, s, sumℕ-* P.n q z))

module _ (P : Problem) (q : ℕ) (e r : Vec) (σ : ℕ → ℕ)
    (he : (k : ℕ) → k < P.n → nat_abs (apply P.n P.A e k -ℤ pos q *ℤ r k) ≤ q * σ k) where
  -- T·|e_m| ≤ Σ |D_mj|·|e_j| + q·P_m
  row : (m : ℕ) → m < P.n → T P * nat_abs (e m) ≤ sumℕ P.n (λ (j : ℕ). nat_abs (defect P m j) * nat_abs (e j)) + q * magnitudes_with P r σ m
  unfolding magnitudes_with
  row m h =
      let x : ℤ = apply P.n (defect P) e m in
      let y : ℤ = apply P.n P.G (apply P.n P.A e) m in
      let z : ℤ = pos q *ℤ apply P.n P.G r m in
      omega (
        arith,
        simp abs-* at (ap nat_abs (apply_defect P e m h)),
        abs_apart x y z,
        abs-* (pos q) (apply P.n P.G r m),
        image_near P q (apply P.n P.A e) r σ he m,
        abs_apply P.n (defect P) e m,
      )

  module _ (hw : (i : ℕ) → i < P.n → 1 ≤ P.w i) (hm : Margins P) where
    -- where |e_m| / w_m is largest: |e_m|·g_m ≤ q·P_m·w_m
    at_peak : (m : ℕ) → LargestRatio P.n (λ (j : ℕ). nat_abs (e j)) P.w m →
        nat_abs (e m) * nat_abs (margin P m) ≤ q * magnitudes_with P r σ m * P.w m
    unfolding load
    at_peak m peak =
        let x : ℕ → ℕ = λ j. nat_abs (defect P m j) * nat_abs (e j) in
        let y : ℕ → ℕ = λ j. nat_abs (defect P m j) * P.w j in
        let s : sumℕ P.n (λ (j : ℕ). x j * P.w m) ≤ sumℕ P.n (λ (j : ℕ). y j * nat_abs (e m)) =
        sumℕ_mono P.n (λ (j : ℕ). x j * P.w m) (λ (j : ℕ). y j * nat_abs (e m)) (λ j l. omega (arith, mul-le-mul_left (nat_abs (defect P m j)) (peak.most j l))) in
        peak_arith (T P) (nat_abs (e m)) (P.w m) (sumℕ P.n x) (sumℕ P.n y) (nat_abs (margin P m)) (q * magnitudes_with P r σ m)
        (row m peak.below) (omega (arith, s, sumℕ-* P.n (P.w m) x, sumℕ-* P.n (nat_abs (e m)) y)) (margin_sum P m (hm m peak.below))

    pub enclosed : (E : ℕ → ℕ) → ((i m : ℕ) → i < P.n → m < P.n → P.w i * magnitudes_with P r σ m ≤ E i * nat_abs (margin P m)) →
        (i : ℕ) → i < P.n → nat_abs (e i) ≤ q * E i
    enclosed E h_e i h =
        let (m, peak) = largest_ratio_of (λ (j : ℕ). nat_abs (e j)) P.w P.n hw (omega arith) in
        end_arith (nat_abs (e i)) (nat_abs (e m)) (nat_abs (margin P m)) (P.w i) (P.w m) q (magnitudes_with P r σ m) (E i)
        (peak.most i h) (at_peak m peak) (h_e i m h peak.below) (hw m peak.below) (margin_above P m (hm m peak.below))
