-- One step of the sequence on arrays; cited by contracts inside.
--   Below xs n b — the first n numbers are at most b
--   stored_load n magnitudes weights m — the sum over j of |D_mj|·w_j, |D| column after column
--   stored_margin t loads weights m — the margin of row m in ℕ: 0 where it is 0 or less
--   shifted_next n loads i — the next list from the sums of all rows
use Rattle.std.specs.Prelude.{List, ℕ, ◌+◌, ◌*◌, ◌-◌, ◌/◌, ◌^◌, ◌≤◌, ◌<◌, get_or}
use Rattle.integer.specs.Finite.{sumℕ, largest}
use Rattle.weights_spec.specs.Sequence.{bits}

pub record Below (xs : List ℕ) (n b : ℕ) : Type 0 where
  pub each : (i : ℕ) → i < n → get_or xs i 0 ≤ b

abbrev pub stored_load : ℕ → List ℕ → List ℕ → ℕ → ℕ
stored_load n magnitudes weights m = sumℕ n (λ (j : ℕ). get_or magnitudes (j * n + m) 0 * get_or weights j 0)

abbrev pub stored_margin : ℕ → List ℕ → List ℕ → ℕ → ℕ
stored_margin t loads weights m = 2 ^ t * get_or weights m 0 - get_or loads m 0

abbrev pub shifted_next : ℕ → List ℕ → ℕ → ℕ
shifted_next n loads i = get_or loads i 0 / 2 ^ bits (largest n (λ (m : ℕ). get_or loads m 0)) + 1
