-- Square systems of whole-number equations, solved exactly in fractions (02, Paper 12: "an exact solution in fractions exists, .. any two are the same
-- fractions, and .. the matrix has an inverse on both sides"). Numerators and denominators are whole numbers of any size.
--   ZeroKernel n A    — A·N = 0 gives N = 0
--   Solves n A c N q  — the fractions N_i / q solve A·x = c: q ≥ 1 and A·N = q·c. With q = 0 let through, N = 0 would solve every system
--   SolvesOver n A M r N q — the fractions N_i / q solve A·x = M / r: q ≥ 1 and r·(A·N) = q·M
--   RightInverse n A H q — the fractions H_ij / q are an inverse from the right: q ≥ 1 and A·H = q·I
--   Inverse n A H q   — they are one from both sides: H·A = q·I too, with the same q; nothing is presumed of the left side
--   Same n N q N' q'  — N_i / q and N'_i / q' are the same fractions: q'·N_i = q·N'_i. (1/2 and 2/4 are: equal numerators are not asked)
--   Solution, SolutionOver, BothSided — there is a solution, or an inverse on both sides
--   Determined n A    — every right side in whole numbers, and every one in fractions, has a solution, not only the system's own; any two solutions of one
--     right side are the same fractions; there is an inverse on both sides, and any two inverses from the right are the same fractions
use Rattle.std.specs.Prelude.{◌≡◌, ℕ, ◌≤◌, ◌<◌, pos, ◌*ℤ◌}
use Rattle.linear.specs.Matrix.{Vec, Mat, column, apply, product, identity}

abbrev pub ZeroKernel : ℕ → Mat → Type 0
ZeroKernel n A = (N : Vec) → ((k : ℕ) → k < n → apply n A N k ≡ pos 0) → (i : ℕ) → i < n → N i ≡ pos 0

pub record Solves (n : ℕ) (A : Mat) (c N : Vec) (q : ℕ) : Type 0 where
  pub positive : 1 ≤ q
  pub solves : (k : ℕ) → k < n → apply n A N k ≡ pos q *ℤ c k

pub record SolvesOver (n : ℕ) (A : Mat) (M : Vec) (r : ℕ) (N : Vec) (q : ℕ) : Type 0 where
  pub positive : 1 ≤ q
  pub solves : (k : ℕ) → k < n → pos r *ℤ apply n A N k ≡ pos q *ℤ M k

pub record RightInverse (n : ℕ) (A H : Mat) (q : ℕ) : Type 0 where
  pub positive : 1 ≤ q
  pub right : (k j : ℕ) → k < n → j < n → product n A H k j ≡ pos q *ℤ identity k j

pub record Inverse (n : ℕ) (A H : Mat) (q : ℕ) : Type 0 where
  pub inverse : RightInverse n A H q
  pub left : (k j : ℕ) → k < n → j < n → product n H A k j ≡ pos q *ℤ identity k j

abbrev pub Same : ℕ → Vec → ℕ → Vec → ℕ → Type 0
Same n N q N' q' = (i : ℕ) → i < n → pos q' *ℤ N i ≡ pos q *ℤ N' i

pub record Solution (n : ℕ) (A : Mat) (c : Vec) : Type 0 where
  pub N : Vec
  pub q : ℕ
  pub holds : Solves n A c N q

pub record SolutionOver (n : ℕ) (A : Mat) (M : Vec) (r : ℕ) : Type 0 where
  pub N : Vec
  pub q : ℕ
  pub holds : SolvesOver n A M r N q

pub record BothSided (n : ℕ) (A : Mat) : Type 0 where
  pub H : Mat
  pub q : ℕ
  pub holds : Inverse n A H q

pub record Determined (n : ℕ) (A : Mat) : Type 0 where
  pub exists : (c : Vec) → Solution n A c
  pub unique : (c N N' : Vec) (q q' : ℕ) → Solves n A c N q → Solves n A c N' q' → Same n N q N' q'
  pub exists_over : (M : Vec) (r : ℕ) → 1 ≤ r → SolutionOver n A M r
  pub unique_over : (M : Vec) (r : ℕ) → 1 ≤ r → (N N' : Vec) (q q' : ℕ) → SolvesOver n A M r N q → SolvesOver n A M r N' q' → Same n N q N' q'
  pub inverse : BothSided n A
  pub unique_inverse : (H H' : Mat) (q q' : ℕ) → RightInverse n A H q → RightInverse n A H' q' → (j : ℕ) → j < n → Same n (column H j) q (column H' j) q'
