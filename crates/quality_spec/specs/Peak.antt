-- The row that decides the factor of a problem (`Factor`, enclosure/specs/Quality): the lowest row where (T·w_m + load_m) / margin_m is largest. Rows count
-- from 0 here.
--   spread P m    — T·w_m + load_m, as the margin is T·w_m − load_m
--   larger_ratio u v k m — u_m / v_m is larger than u_k / v_k, by products
--   no_larger_ratio n u v k — no place below n has a larger quotient than place k
--   peak n u v    — the lowest place below n where u / v is largest
--   peak_row P     — that row of a problem whose margins are above 0;  numerator P, denominator P — T·w + load and the margin of that row
use Rattle.std.specs.Prelude.{Bool, ℕ, ◌+◌, ◌*◌, ltb, leb, nat_abs}
use Rattle.integer.specs.Finite.{first}
use Rattle.enclosure.specs.Problem.{Problem, T}
use Rattle.enclosure.specs.Reckoning.{load, margin}

abbrev pub spread : Problem → ℕ → ℕ
spread P m = T P * P.w m + load P m

abbrev pub larger_ratio : (ℕ → ℕ) → (ℕ → ℕ) → ℕ → ℕ → Bool
larger_ratio u v k m = ltb (u k * v m) (u m * v k)

abbrev pub no_larger_ratio : ℕ → (ℕ → ℕ) → (ℕ → ℕ) → ℕ → Bool
no_larger_ratio n u v k = leb n (first n (larger_ratio u v k))

unfoldable pub peak : ℕ → (ℕ → ℕ) → (ℕ → ℕ) → ℕ
peak n u v = first n (no_larger_ratio n u v)

abbrev pub peak_row : Problem → ℕ
peak_row P = peak P.n (spread P) (λ (m : ℕ). nat_abs (margin P m))

abbrev pub numerator : Problem → ℕ
numerator P = spread P (peak_row P)

abbrev pub denominator : Problem → ℕ
denominator P = nat_abs (margin P (peak_row P))
