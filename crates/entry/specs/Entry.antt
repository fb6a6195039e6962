-- The register entry of a height, S = 2^s.
--   entry_value s x   — V (01: "V is X/S rounded to a whole unit, halves away from zero")
--   entry_bound s x e — its limit in whole units (02, Paper 2: "entry limit is (E + |X − S·V|)/S rounded up")
use Rattle.std.specs.Prelude.{ℕ, ◌+◌, ◌^◌, ℤ, pos, nat_abs, ◌-ℤ◌, ◌*ℤ◌}
use Rattle.integer.specs.Quotient.{ceil_div, round_div}

abbrev pub entry_value : ℕ → ℤ → ℤ
entry_value s x = round_div x (2 ^ s)

unfoldable pub entry_bound : ℕ → ℤ → ℕ → ℕ
entry_bound s x e = ceil_div (e + nat_abs (x -ℤ pos (2 ^ s) *ℤ entry_value s x)) (2 ^ s)
