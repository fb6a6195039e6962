-- The reckoning uses only the first n numbers of each list: problems that agree on them have the same margins, residuals and limits.
--   Agreeing P Q — the first n numbers of each list of Q are those of P;  over P Q — Q with the n, s and t of P
--   load_same, margin_same, residual_same, exceeds_same, bound_same — of row m, m, k, k and i; for a column of the inverse they are used with its problem
use mathlib.Core.Path.{◌≡◌, ap, ap₂}
use mathlib.Core.Bool.{Bool, ◌||◌}
use Prim.Native.Nat.{ℕ, ◌+◌, ◌*◌, ◌^◌, ◌<◌}
use lib.Dec.{ltb}
use lib.IntN.{ℤ, pos, nat_abs, ◌-ℤ◌, ◌*ℤ◌}
use Rattle.integer.specs.Quotient.{ceil_div}
use Rattle.integer.proofs.Search.{largest_ext}
use Rattle.integer.proofs.Sum.{sum_ext, sumℕ_ext}
use Rattle.linear.specs.Matrix.{Vec, Mat, column, apply, product, identity}
use Rattle.linear.proofs.Slack.{slack_ext}
use Rattle.enclosure.specs.Problem.{Problem}
use Rattle.enclosure.specs.Reckoning.{defect, load, margin, residual, slack, allowed_residual, row_sum, exceeds_with, exceeds_row, exceeds, magnitudes_with, bound_from, bound_with, bound}

apply_same : (n : ℕ) (A B : Mat) (u v : Vec) (k : ℕ) → ((j : ℕ) → j < n → A k j ≡ B k j) → ((j : ℕ) → j < n → u j ≡ v j) → apply n A u k ≡ apply n B v k
unfolding apply
apply_same n A B u v k p q = sum_ext n (λ (j : ℕ). A k j *ℤ u j) (λ (j : ℕ). B k j *ℤ v j) (λ j l. rw (p j l, q j l))

pub record Agreeing (P Q : Problem) : Type 0 where
  pub matrix : (i j : ℕ) → i < P.n → j < P.n → P.A i j ≡ Q.A i j
  pub right : (i : ℕ) → i < P.n → P.b i ≡ Q.b i
  pub tolerance : (i : ℕ) → i < P.n → P.d i ≡ Q.d i
  pub guess : (i : ℕ) → i < P.n → P.X i ≡ Q.X i
  pub inverse : (i j : ℕ) → i < P.n → j < P.n → P.G i j ≡ Q.G i j
  pub weights : (i : ℕ) → i < P.n → P.w i ≡ Q.w i

abbrev pub over : Problem → Problem → Problem
over P Q = record { n = P.n; s = P.s; t = P.t; A = Q.A; b = Q.b; d = Q.d; X = Q.X; G = Q.G; w = Q.w }

module _ (P Q : Problem) (a : Agreeing P Q) where
  abbrev R : Problem
  R = over P Q

  defect_same : (m j : ℕ) → m < P.n → j < P.n → defect P m j ≡ defect R m j
  unfolding defect product
  defect_same m j lm lj =
      ap (λ (z : ℤ). pos (2 ^ P.t) *ℤ identity m j -ℤ z) (apply_same P.n P.G Q.G (column P.A j) (column Q.A j) m (λ k l. a.inverse m k lm l) (λ k l. a.matrix k j l lj))

  pub load_same : (m : ℕ) → m < P.n → load P m ≡ load R m
  unfolding load
  load_same m l =
      sumℕ_ext P.n (λ (j : ℕ). nat_abs (defect P m j) * P.w j) (λ (j : ℕ). nat_abs (defect R m j) * Q.w j) (λ j lj. rw (defect_same m j l lj, a.weights j lj))

  pub margin_same : (m : ℕ) → m < P.n → margin P m ≡ margin R m
  unfolding margin
  margin_same m l = ap₂ (λ (x y : ℕ). pos (2 ^ P.t * x) -ℤ pos y) (a.weights m l) (load_same m l)

  pub residual_same : (k : ℕ) → k < P.n → residual P k ≡ residual R k
  unfolding residual
  residual_same k l = ap₂ (λ (x y : ℤ). pos (2 ^ P.s) *ℤ x -ℤ y) (a.right k l) (apply_same P.n P.A Q.A P.X Q.X k (λ j lj. a.matrix k j l lj) a.guess)

  slack_same : (k : ℕ) → k < P.n → slack P k ≡ slack R k
  slack_same k l = rw (a.tolerance k l)

  row_sum_same : (k : ℕ) → k < P.n → row_sum P k ≡ row_sum R k
  unfolding row_sum
  row_sum_same k l = sumℕ_ext P.n (λ (j : ℕ). nat_abs (P.A k j)) (λ (j : ℕ). nat_abs (Q.A k j)) (λ j lj. ap nat_abs (a.matrix k j l lj))

  with_slack_same : (k : ℕ) → k < P.n → exceeds_with (residual P) (slack P) k ≡ exceeds_with (residual R) (slack R) k
  with_slack_same k l = ap₂ (λ (z : ℤ) (x : ℕ). ltb allowed_residual (nat_abs z + x)) (residual_same k l) (slack_same k l)

  exceeds_row_same : (k : ℕ) → k < P.n → exceeds_row P k ≡ exceeds_row R k
  exceeds_row_same k l = ap₂ (λ (x : ℕ) (z : ℤ). ltb x (nat_abs z)) (row_sum_same k l) (residual_same k l)

  pub exceeds_same : (k : ℕ) → k < P.n → exceeds P k ≡ exceeds R k
  unfolding exceeds
  exceeds_same k l = ap₂ (λ (x y : Bool). x || y) (with_slack_same k l) (exceeds_row_same k l)

  magnitudes_same : (m : ℕ) → m < P.n → magnitudes_with P (residual P) (slack P) m ≡ magnitudes_with R (residual R) (slack R) m
  unfolding magnitudes_with
  magnitudes_same m l = slack_ext P.n P.G Q.G (residual P) (residual R) (slack P) (slack R) m (λ k lk. a.inverse m k l lk) residual_same slack_same

  pub bound_same : (i : ℕ) → i < P.n → bound P i ≡ bound R i
  unfolding bound bound_with bound_from
  bound_same i l =
      largest_ext P.n (λ (m : ℕ). ceil_div (P.w i * magnitudes_with P (residual P) (slack P) m) (nat_abs (margin P m)))
      (λ (m : ℕ). ceil_div (Q.w i * magnitudes_with R (residual R) (slack R) m) (nat_abs (margin R m)))
      (λ m lm. rw (a.weights i l, magnitudes_same m lm, margin_same m lm))
