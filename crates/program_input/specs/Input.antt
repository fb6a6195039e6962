-- What reading gives stays inside the buffer.
--   Inside from long r — one read from a place on: some bytes, at most those that fit, or none at the end of the input
--   Filled long r      — the bytes read in all are at most the buffer's
use Rattle.std.specs.Prelude.{Result, Option, IfOk, IfSome, ℕ, ◌+◌, ◌≤◌, ◌<◌}

abbrev pub Inside : {E : Type 0} → ℕ → ℕ → Result (Option ℕ) E → Type 0
Inside from long r = IfOk r (λ o. IfSome o (λ n. (0 < n) × (from + n ≤ long)))

abbrev pub Filled : {E : Type 0} → ℕ → Result ℕ E → Type 0
Filled long r = IfOk r (λ n. n ≤ long)
