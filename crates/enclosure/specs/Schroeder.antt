-- Condition (2.9) of source document 002, Theorem 1, with a tolerance (02, Paper 5), in whole numbers: for M = I − (G/T)·A, B = |M| and s = (G/T)·β/ρ, where
-- β / ρ is any right side in fractions within the tolerances, b among them.
--   image P      — p = G·r
--   u0 P ρ i     — u_0 = X/S, in steps of 1/(ρ·S·T)
--   u1 P β ρ i   — u_1 = M·u_0 + s, in steps of 1/(ρ·S·T)
--   v P k i      — v_i = w_i·sizes_k / (g_k·S), in steps of 1/(g_k·S), where sizes_k is |p_k| with its slack; no right side is in it
--   Condition29 P k — |u_0 − u_1| ≤ v − B·v, for every right side within the tolerances with this one v, multiplied by ρ·g_k·S·T
--   LargestRatioRow P k    — row k is one where sizes_k / g_k is largest
use Rattle.std.specs.Prelude.{ℕ, ◌+◌, ◌*◌, ◌≤◌, ◌<◌, pos, nat_abs, ◌+ℤ◌, ◌-ℤ◌, ◌*ℤ◌}
use Rattle.integer.specs.Finite.{sumℕ}
use Rattle.integer.specs.LargestRatio.{LargestRatio}
use Rattle.linear.specs.Matrix.{Vec, apply}
use Rattle.enclosure.specs.Problem.{Problem, S, T}
use Rattle.enclosure.specs.Reckoning.{defect, margin, residual, magnitudes}
use Rattle.enclosure.specs.Demand.{RightSide}

unfoldable pub image : Problem → Vec
image P = apply P.n P.G (residual P)

unfoldable pub u0 : Problem → ℕ → Vec
u0 P ρ i = pos ρ *ℤ (pos (T P) *ℤ P.X i)

unfoldable pub u1 : Problem → Vec → ℕ → Vec
u1 P β ρ i = pos ρ *ℤ apply P.n (defect P) P.X i +ℤ pos (S P) *ℤ apply P.n P.G β i

abbrev pub v : Problem → ℕ → ℕ → ℕ
v P k i = P.w i * magnitudes P k

pub record Condition29 (P : Problem) (k : ℕ) : Type 0 where
  pub holds : (β : Vec) (ρ : ℕ) → RightSide P β ρ → (i : ℕ) → i < P.n →
      nat_abs (margin P k) * nat_abs (u0 P ρ i -ℤ u1 P β ρ i) + ρ * sumℕ P.n (λ (j : ℕ). nat_abs (defect P i j) * v P k j) ≤ ρ * (T P * v P k i)

abbrev pub LargestRatioRow : Problem → ℕ → Type 0
LargestRatioRow P k = LargestRatio P.n (magnitudes P) (λ (m : ℕ). nat_abs (margin P m)) k
