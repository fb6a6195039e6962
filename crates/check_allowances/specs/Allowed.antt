-- What is allowed of a residual; cited by contracts inside.
--   slack_at s d — the slack S·d of a row with the tolerance d
--   allowed_beside σ sum — how large a residual may be, with the slack σ, in a row whose sum of |a| is `sum`: 2^25 less σ, and at most that sum; or −1, of which
--     no magnitude is allowed, where σ is above 2^25
use Rattle.std.specs.Prelude.{cond, ℕ, ◌*◌, ◌-◌, ◌^◌, min, ltb, ℤ, pos, negsuc, nat_abs}
use Rattle.enclosure.specs.Reckoning.{allowed_residual}

abbrev pub slack_at : ℕ → ℤ → ℕ
slack_at s d = 2 ^ s * nat_abs d

abbrev pub allowed_beside : ℕ → ℕ → ℤ
allowed_beside σ sum = cond (ltb allowed_residual σ) (negsuc 0) (pos (min (allowed_residual - σ) sum))
