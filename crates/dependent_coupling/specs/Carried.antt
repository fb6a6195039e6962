-- What a dependent net takes over from the main net, from lists; cited by contracts inside. C stands row after row, `marks` numbers a row.
--   limit_cap — 2^25 + 1: a larger limit counts as this in the code's slack, so that the sum fits. The slack of the definitions has no such cap. By the laws of
--     proofs/Cap a residual with the one slack is above 2^25 exactly where it is with the other (`capped_test`), and where it is not the two slacks are equal
--     (`capped_equal`)
--   capped_term (c, E) — |c|·min(E, 2^25 + 1)
--   capped_sum marks coupling limits k — the sum over j of |C_kj|·min(E_j, 2^25 + 1)
use Rattle.std.specs.Prelude.{List, ℕ, ◌+◌, ◌*◌, min, ℤ, nat_abs, get_or}
use Rattle.integer.specs.Finite.{sumℕ}
use Rattle.linear.specs.Slice.{matrix_of}
use Rattle.enclosure.specs.Reckoning.{allowed_residual}

abbrev pub limit_cap : ℕ
limit_cap = allowed_residual + 1

abbrev pub capped_term : ℤ × ℕ → ℕ
capped_term p = nat_abs p.0 * min p.1 limit_cap

abbrev pub capped_sum : ℕ → List ℤ → List ℕ → ℕ → ℕ
capped_sum marks coupling limits k = sumℕ marks (λ (j : ℕ). nat_abs (matrix_of coupling marks k j) * min (get_or limits j 0) limit_cap)
