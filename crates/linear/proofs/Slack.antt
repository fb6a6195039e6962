-- The magnitude of a product with a slack.
--   slack_ext — only the first n numbers count
--   joint — |(G·r)_m| + Σ|G_mj|·σ_j is at most n·(g·c) where every |G_mj| ≤ g and every |r_j| + σ_j ≤ c: together, for the two halves apart may be twice that
use mathlib.Core.Path.{◌≡◌, ap, ap₂}
use Prim.Native.Nat.{ℕ, ◌+◌, ◌*◌, ◌≤◌, ◌<◌}
use native.Mathlib.Omega.{arith}
use native.Mathlib.Nat.{mul-le-mul}
use lib.IntN.{nat_abs, ◌*ℤ◌}
use Rattle.integer.specs.Finite.{sumℕ}
use Rattle.integer.proofs.Sum.{sum_ext, sumℕ_ext, sumℕ-+, sumℕ≤}
use Rattle.linear.specs.Matrix.{Vec, Mat, apply}
use Rattle.linear.proofs.Product.{abs_apply}

pub joint : (n g c : ℕ) (G : Mat) (r : Vec) (σ : ℕ → ℕ) (m : ℕ) → ((j : ℕ) → j < n → nat_abs (G m j) ≤ g) → ((j : ℕ) → j < n → nat_abs (r j) + σ j ≤ c) →
    nat_abs (apply n G r m) + sumℕ n (λ (j : ℕ). nat_abs (G m j) * σ j) ≤ n * (g * c)
joint n g c G r σ m hg hr =
    let f : ℕ → ℕ = λ j. nat_abs (G m j) * nat_abs (r j) in
    let h : ℕ → ℕ = λ j. nat_abs (G m j) * σ j in
    let s : sumℕ n (λ (j : ℕ). f j + h j) ≤ n * (g * c) = sumℕ≤ n (g * c) (λ (j : ℕ). f j + h j) (λ j l. omega (arith, mul-le-mul (hg j l) (hr j l))) in
    omega (arith, abs_apply n G r m, sumℕ-+ n f h, s)

pub slack_ext : (n : ℕ) (G G' : Mat) (r r' : Vec) (σ σ' : ℕ → ℕ) (m : ℕ) → ((j : ℕ) → j < n → G m j ≡ G' m j) → ((j : ℕ) → j < n → r j ≡ r' j) →
    ((j : ℕ) → j < n → σ j ≡ σ' j) →
    nat_abs (apply n G r m) + sumℕ n (λ (j : ℕ). nat_abs (G m j) * σ j) ≡ nat_abs (apply n G' r' m) + sumℕ n (λ (j : ℕ). nat_abs (G' m j) * σ' j)
unfolding apply
slack_ext n G G' r r' σ σ' m h_g hr hσ =
    ap₂ (λ (x y : ℕ). x + y) (ap nat_abs (sum_ext n (λ (j : ℕ). G m j *ℤ r j) (λ (j : ℕ). G' m j *ℤ r' j) (λ j l. rw (h_g j l, hr j l))))
    (sumℕ_ext n (λ (j : ℕ). nat_abs (G m j) * σ j) (λ (j : ℕ). nat_abs (G' m j) * σ' j) (λ j l. rw (h_g j l, hσ j l)))
