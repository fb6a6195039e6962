-- The lists of weights that are tried. Document 02, Paper 7: "Begin with 1 everywhere. While some margin is 0 or less, let u be the sums |D|·w;
-- shift every u_i right by the fewest bits that bring the largest to 1,023 or below, add 1, and try those." Rows count from 0 here; the place of a
-- list in the sequence counts from 1.
--   weighted P w  — the problem P with the weights w
--   loads P w     — u: the sums |D|·w, one for each row
--   bits u        — the fewest bits that bring u to 1,023 or below, shifted right by them (u bits are enough for any u)
--   shift P w     — the fewest bits that bring the largest of the sums |D|·w there: one number for all rows
--   next P w      — the list that is tried after w: every u_i shifted right by these bits, plus 1
--   tried P k     — list k + 1 of the sequence: 1 everywhere, and then each from the one before it
--   good P w      — every margin is above 0: no row of P with the weights w has one of 0 or less
--   first_good P a — how many lists stand before the first good one among the first a; a where none of these is good
use Rattle.std.specs.Prelude.{Bool, ℕ, zero, suc, ◌+◌, ◌/◌, ◌^◌, leb}
use Rattle.integer.specs.Finite.{largest, first}
use Rattle.enclosure.specs.Problem.{Problem}
use Rattle.enclosure.specs.Reckoning.{load, margin_fails}

abbrev pub weighted : Problem → (ℕ → ℕ) → Problem
weighted P w = record {
  n = P.n;
  s = P.s;
  t = P.t;
  A = P.A;
  b = P.b;
  d = P.d;
  X = P.X;
  G = P.G;
  w = w;
}

abbrev pub loads : Problem → (ℕ → ℕ) → ℕ → ℕ
loads P w = load (weighted P w)

unfoldable pub bits : ℕ → ℕ
bits u = first u (λ (k : ℕ). leb (u / 2 ^ k) 1023)

abbrev pub shift : Problem → (ℕ → ℕ) → ℕ
shift P w = bits (largest P.n (loads P w))

abbrev pub next : Problem → (ℕ → ℕ) → ℕ → ℕ
next P w i = loads P w i / 2 ^ shift P w + 1

unfoldable pub tried : Problem → ℕ → ℕ → ℕ
tried P zero i = 1
tried P (suc k) i = next P (tried P k) i

unfoldable pub good : Problem → (ℕ → ℕ) → Bool
good P w = leb P.n (first P.n (margin_fails (weighted P w)))

abbrev pub first_good : Problem → ℕ → ℕ
first_good P a = first a (λ (k : ℕ). good P (tried P k))
