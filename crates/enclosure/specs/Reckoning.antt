-- The reckoning of document 01, in its order and letters. Rows and columns count from 0 here.
--   defect P    — D = T·I − G·A
--   load P m    — the sum over j of |D_mj|·w_j
--   margin P m  — g_m = T·w_m − load, a whole number with its sign
--   margin_fails P m — that margin is 0 or less (refusal 5)
--   residual P  — r = S·b − A·X;  residual (column_of P j) is that of the inverse's column j
--   slack P     — what may be missing in the magnitude of a residual, row by row (02, Paper 5: "The residual of row m now comes with a slack S·d_m"); of a column
--     of the inverse it is 0
-- What comes after the residual, for any residual r and any slack σ:
--   allowed_residual — 2^25 = 33,554,432
--   exceeds_with r σ k — the magnitude of the residual of row k, and its slack, are above 2^25 together (02, Paper 5: "6 is now given where size of residual plus
--     slack is above 2^25")
--   magnitudes_with P r σ m — what w_i is multiplied by in the limits (02, Paper 5: "|p_m| becomes |p_m| plus the sum over j of |G_mj|·S·d_j"), for p = G·r
--   bound_from n magnitudes margins w i — the largest over all rows m of w_i·sizes_m / margins_m, each rounded up to a whole number
--   bound_with P r σ i — limit i; the magnitude of a margin is the margin, since every margin is above 0 wherever a limit is written
-- and of the problem's own:
--   row_sum P k — the sum of |A_kj| along row k
--   exceeds_row P k — the residual of row k, without slack, is above that sum in absolute value (02, Paper 9: "the residual of row m, without slack, may be at most the
--     sum of |a| along that row, for the guess and for inverse columns")
--   exceeds P k — the residual of row k fails one of the two tests (6, and 7 for a column of the inverse; Paper 9: "The 2^25 test with slack also stays")
--   magnitudes P m, bound P i — the limit in solution steps
--   inverse_bound P i j — the limit of row i, column j of the inverse, in inverse steps
use Rattle.std.specs.Prelude.{Bool, ◌||◌, ℕ, ◌+◌, ◌*◌, ◌^◌, ltb, ℤ, pos, nat_abs, ◌-ℤ◌, ◌*ℤ◌}
use Rattle.std.specs.Int.Signed.{le_z}
use Rattle.integer.specs.Finite.{sumℕ, largest}
use Rattle.integer.specs.Quotient.{ceil_div}
use Rattle.linear.specs.Matrix.{Vec, Mat, apply, product, identity}
use Rattle.enclosure.specs.Problem.{Problem, S, T, column_of}

unfoldable pub defect : Problem → Mat
defect P m j = pos (T P) *ℤ identity m j -ℤ product P.n P.G P.A m j

unfoldable pub load : Problem → ℕ → ℕ
load P m = sumℕ P.n (λ (j : ℕ). nat_abs (defect P m j) * P.w j)

unfoldable pub margin : Problem → ℕ → ℤ
margin P m = pos (T P * P.w m) -ℤ pos (load P m)

abbrev pub margin_fails : Problem → ℕ → Bool
margin_fails P m = le_z (margin P m) (pos 0)

unfoldable pub residual : Problem → Vec
residual P k = pos (S P) *ℤ P.b k -ℤ apply P.n P.A P.X k

abbrev pub slack : Problem → ℕ → ℕ
slack P k = S P * P.d k

-- ---- from a residual and a slack
abbrev pub allowed_residual : ℕ
allowed_residual = 2 ^ 25

abbrev pub exceeds_with : Vec → (ℕ → ℕ) → ℕ → Bool
exceeds_with r σ k = ltb allowed_residual (nat_abs (r k) + σ k)

unfoldable pub magnitudes_with : Problem → Vec → (ℕ → ℕ) → ℕ → ℕ
magnitudes_with P r σ m = nat_abs (apply P.n P.G r m) + sumℕ P.n (λ (j : ℕ). nat_abs (P.G m j) * σ j)

unfoldable pub bound_from : ℕ → (ℕ → ℕ) → (ℕ → ℕ) → (ℕ → ℕ) → ℕ → ℕ
bound_from n magnitudes margins w i = largest n (λ (m : ℕ). ceil_div (w i * magnitudes m) (margins m))

unfoldable pub bound_with : Problem → Vec → (ℕ → ℕ) → ℕ → ℕ
bound_with P r σ = bound_from P.n (magnitudes_with P r σ) (λ (m : ℕ). nat_abs (margin P m)) P.w

-- ---- the problem's own
unfoldable pub row_sum : Problem → ℕ → ℕ
row_sum P k = sumℕ P.n (λ (j : ℕ). nat_abs (P.A k j))

abbrev pub exceeds_row : Problem → ℕ → Bool
exceeds_row P k = ltb (row_sum P k) (nat_abs (residual P k))

unfoldable pub exceeds : Problem → ℕ → Bool
exceeds P k = exceeds_with (residual P) (slack P) k || exceeds_row P k

unfoldable pub magnitudes : Problem → ℕ → ℕ
magnitudes P = magnitudes_with P (residual P) (slack P)

unfoldable pub bound : Problem → ℕ → ℕ
bound P = bound_with P (residual P) (slack P)

abbrev pub inverse_bound : Problem → ℕ → ℕ → ℕ
inverse_bound P i j = bound (column_of P j) i
