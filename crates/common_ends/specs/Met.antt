-- What is made of two proposals that are accepted and of the same equations, from s, the guess X and the solution limits E of each; cited by contracts inside.
--   limit_at E i — limit i of a list;  wide_limits n E — one of the first n is above 2^36
--   low_in k X E i, high_in k X E i — 2^k times X − E and X + E of height i
--   lows_of k X E k' X' E', highs_of .. — the larger lower end and the smaller upper end
--   Fitting n k X E — what the ends ask of one proposal: 2^k at most 2^20, the first n guesses in their range, no limit above 2^36
--   Met — 21 and the interval lists as they were, or the ends in their first n places
use Rattle.std.specs.Prelude.{Bool, true, false, ◌||◌, List, ◌≡◌, ℕ, ◌-◌, ◌≤◌, ◌<◌, ◌^◌, max, ltb, ℤ, pos, ◌+ℤ◌, ◌-ℤ◌, ◌*ℤ◌, get_or, Ok, Err}
use Rattle.integer.specs.Finite.{largest}
use Rattle.linear.specs.Reach.{ColumnList}
use Rattle.linear.specs.Slice.{at}
use Rattle.linear.specs.Written.{written}
use Rattle.common_spec.specs.Answer.{Common}
use Rattle.common_spec.specs.declared.CommonRefusal.TheVariants.{TooWide}
use Rattle.common_spec.specs.Ends.{maxℤ, minℤ}
use Rattle.common_spec.specs.Proposals.{most_steps}

abbrev pub limit_at : List ℕ → ℕ → ℕ
limit_at E i = get_or E i 0

abbrev pub wide_limits : ℕ → List ℕ → Bool
wide_limits n E = ltb most_steps (largest n (limit_at E))

abbrev pub low_in : ℕ → List ℤ → List ℕ → ℕ → ℤ
low_in k X E i = pos (2 ^ k) *ℤ (at X i -ℤ pos (limit_at E i))

abbrev pub high_in : ℕ → List ℤ → List ℕ → ℕ → ℤ
high_in k X E i = pos (2 ^ k) *ℤ (at X i +ℤ pos (limit_at E i))

abbrev pub lows_of : ℕ → List ℤ → List ℕ → ℕ → List ℤ → List ℕ → ℕ → ℤ
lows_of k X E k' X' E' i = maxℤ (low_in k X E i) (low_in k' X' E' i)

abbrev pub highs_of : ℕ → List ℤ → List ℕ → ℕ → List ℤ → List ℕ → ℕ → ℤ
highs_of k X E k' X' E' i = minℤ (high_in k X E i) (high_in k' X' E' i)

pub record Fitting (n k : ℕ) (X : List ℤ) (E : List ℕ) : Type 0 where
  pub scale : k ≤ 20
  pub guess : ColumnList X n (2 ^ 36)
  pub narrow : (i : ℕ) → i < n → limit_at E i ≤ most_steps

pub data Met (n s : ℕ) (X : List ℤ) (E : List ℕ) (s' : ℕ) (X' : List ℤ) (E' : List ℕ) (low high : List ℤ) : Common → List ℤ → List ℤ → Type 0 where
  too_wide : (wide_limits n E || wide_limits n E') ≡ true → Met n s X E s' X' E' low high (Err TooWide) low high
  narrow : (low' high' : List ℤ) → (wide_limits n E || wide_limits n E') ≡ false →
      low' ≡ written low 0 1 (lows_of (max s s' - s) X E (max s s' - s') X' E') n → high' ≡ written high 0 1 (highs_of (max s s' - s) X E (max s s' - s') X' E') n →
      Met n s X E s' X' E' low high (Ok tt) low' high'
