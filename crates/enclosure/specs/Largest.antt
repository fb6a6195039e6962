-- How large the numbers of an accepted check are at most; cited by contracts inside.
--   largest_magnitude — 2^50, of |p_m| with its slack
--   largest_bound — 2^60, of a limit
use Rattle.std.specs.Prelude.{ℕ, ◌^◌}

abbrev pub largest_magnitude : ℕ
largest_magnitude = 2 ^ 50

abbrev pub largest_bound : ℕ
largest_bound = 2 ^ 60
