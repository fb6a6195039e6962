-- What arrays and slices hold, and a search part by part; cited by contracts inside.
--   PrefixIs d xs n f — xs begins with f 0, .., f (n − 1); d is what is read past the end
--   first_from — the first place, from the first below start and the first of those from start on
--   columns_written xs n f k — xs with the columns f · 0, .., f · (k − 1) of an n-by-n matrix, row after row
use Rattle.std.specs.Prelude.{cond, ◌≡◌, List, ℕ, zero, suc, ◌+◌, ◌<◌, ltb, get_or}
use Rattle.linear.specs.Written.{written}

pub record PrefixIs {A : Type 0} (d : A) (xs : List A) (n : ℕ) (f : ℕ → A) : Type 0 where
  pub each : (i : ℕ) → i < n → get_or xs i d ≡ f i

abbrev pub first_from : ℕ → ℕ → ℕ → ℕ
first_from found start next = cond (ltb found start) found (start + next)

unfoldable pub columns_written : {A : Type 0} → List A → ℕ → (ℕ → ℕ → A) → ℕ → List A
columns_written xs n f zero = xs
columns_written xs n f (suc k) = written (columns_written xs n f k) k n (λ (i : ℕ). f i k) n
