-- Lists that numbers were written into.
--   written xs p s f n — xs with f 0, .., f (n − 1) at the places p, p + s, .., p + (n − 1)·s, the rest as before; with p = 0 and s = 1, its first n places
use Rattle.std.specs.Prelude.{List, ℕ, zero, suc, ◌+◌, ◌*◌, set}

unfoldable pub written : {A : Type 0} → List A → ℕ → ℕ → (ℕ → A) → ℕ → List A
written xs p s f zero = xs
written xs p s f (suc n) = set (written xs p s f n) (p + n * s) (f n)
