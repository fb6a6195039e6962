-- Laws of tolerances (02, Paper 5).
--   column_exact — a column of the inverse has none
--   tolerated — β/ρ within d of b, and A·N / q equal to it: then A·N is within q·d of q·b
--   residual_shifted — A·(S·N − q·X) less q times the residual S·b − A·X is S times A·N − q·b
use mathlib.Core.Path.{◌≡◌, refl, ap, ◌∙◌}
use Prim.Native.Nat.{ℕ, ◌*◌, ◌≤◌}
use native.Mathlib.Omega.{arith}
use native.Mathlib.Nat.{mul-le-mul_left, le_of_mul-le-mul_left}
use lib.IntN.{ℤ, pos, nat_abs, ◌-ℤ◌, ◌*ℤ◌}
use Rattle.integer.proofs.Absolute.{abs-*}
use Rattle.integer.proofs.Difference.{is, zz}
use Rattle.integer.proofs.Ring.{ring}
use Rattle.enclosure.specs.Problem.{Problem, column_of}

pub column_exact : (P : Problem) (j k : ℕ) → (column_of P j).d k ≡ 0
column_exact P j k = refl

pub tolerated : (ρ q d : ℕ) (an b β : ℤ) → 1 ≤ ρ → pos ρ *ℤ an ≡ pos q *ℤ β → nat_abs (β -ℤ pos ρ *ℤ b) ≤ ρ * d → nat_abs (an -ℤ pos q *ℤ b) ≤ q * d
tolerated ρ q d an b β o e h =
    let f : pos ρ *ℤ (an -ℤ pos q *ℤ b) ≡ pos q *ℤ (β -ℤ pos ρ *ℤ b) = turned (pos ρ) (pos q) an b β e in
    let g : ρ * nat_abs (an -ℤ pos q *ℤ b) ≡ q * nat_abs (β -ℤ pos ρ *ℤ b) = simp abs-* at (ap nat_abs f) in
    le_of_mul-le-mul_left (omega (arith, mul-le-mul_left q h)) o
  where
    turned : (r q an b β : ℤ) → r *ℤ an ≡ q *ℤ β → r *ℤ (an -ℤ q *ℤ b) ≡ q *ℤ (β -ℤ r *ℤ b)
    turned r q an b β e = left r q an b ∙ (ap (λ (z : ℤ). z -ℤ r *ℤ (q *ℤ b)) e ∙ right r q b β)
      where
        left : (r q an b : ℤ) → r *ℤ (an -ℤ q *ℤ b) ≡ r *ℤ an -ℤ r *ℤ (q *ℤ b)
        left r q an b = simp ring

        right : (r q b β : ℤ) → q *ℤ β -ℤ r *ℤ (q *ℤ b) ≡ q *ℤ (β -ℤ r *ℤ b)
        right r q b β = simp ring

pub residual_shifted : (s q an ax b : ℤ) → s *ℤ an -ℤ q *ℤ ax -ℤ q *ℤ (s *ℤ b -ℤ ax) ≡ s *ℤ (an -ℤ q *ℤ b)
residual_shifted s q an ax b = ap (λ (z : ℤ). s *ℤ an -ℤ q *ℤ ax -ℤ z) (apart s q ax b) ∙ (cancel (s *ℤ an) (q *ℤ ax) (s *ℤ (q *ℤ b)) ∙ joined s q an b)
  where
    apart : (s q ax b : ℤ) → q *ℤ (s *ℤ b -ℤ ax) ≡ s *ℤ (q *ℤ b) -ℤ q *ℤ ax
    apart s q ax b = simp ring

    cancel : (u v w : ℤ) → u -ℤ v -ℤ (w -ℤ v) ≡ u -ℤ w
    cancel u v w = rw (is u, is v, is w) (simp zz (omega arith))

    joined : (s q an b : ℤ) → s *ℤ an -ℤ s *ℤ (q *ℤ b) ≡ s *ℤ (an -ℤ q *ℤ b)
    joined s q an b = simp ring
