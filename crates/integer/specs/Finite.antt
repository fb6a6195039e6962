-- Finite sums, the largest value, the first place and a test of all, over index functions (ℕ → ..), by recursion on the count.
--   sum n f     — f 0 + f 1 + .. + f (n − 1), in ℤ
--   sumℕ n f    — the same in ℕ
--   largest n f — the largest of f 0, .., f (n − 1); 0 where n is 0
--   first_or     — the first place below n + 1, from the first below n and whether the test holds at n
--   first n f   — the lowest place below n where f is true; n where there is none
--   every n f   — f 0, .., f (n − 1) are all true
use Rattle.std.specs.Prelude.{Bool, true, ◌&&◌, cond, ℕ, zero, suc, ◌+◌, max, ltb, ℤ, pos, ◌+ℤ◌}

unfoldable pub sum : ℕ → (ℕ → ℤ) → ℤ
sum zero f = pos 0
sum (suc n) f = sum n f +ℤ f n

unfoldable pub sumℕ : ℕ → (ℕ → ℕ) → ℕ
sumℕ zero f = 0
sumℕ (suc n) f = sumℕ n f + f n

unfoldable pub largest : ℕ → (ℕ → ℕ) → ℕ
largest zero f = 0
largest (suc n) f = max (largest n f) (f n)

abbrev pub first_or : ℕ → ℕ → Bool → ℕ
first_or found n here = cond (ltb found n) found (cond here n (n + 1))

unfoldable pub first : ℕ → (ℕ → Bool) → ℕ
first zero f = 0
first (suc n) f = first_or (first n f) n (f n)

unfoldable pub every : ℕ → (ℕ → Bool) → Bool
every zero f = true
every (suc n) f = f n && every n f
