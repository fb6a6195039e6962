-- Doubles out: what `intervals_of` says and leaves. Document 02, Paper 11: "Outward, each height is a pair of doubles, low and high: the largest double not
-- above (X − E)/S and the smallest not below (X + E)/S, zero always plus zero. [..] (8 and 3 first, [..] Outward, 3 also for a limit outside 0 to 2^60; a
-- refusal writes no end.)"
--   Outgoing, outgoing — n, s, the guesses, their limits, and the two lists of ends as they come in
--   any_outgoing_short — a list of one of these lengths is too short;  short_outgoing I — 8: a lent list is too short
--   bounds_in_range n bounds — each of the first n limits is at most 2^60
--   outgoing_in_ranges I — n, s, the first n guesses and the first n limits are in their ranges; 3 where not
--   outward_order I — the tests in their order, 8, 3;  outward_answer I — what is said of them
--   ends_at I i — the two ends of height i;  ends_in low high i — those at place i of two lists
--   lows_after I, highs_after I — the lists after the call: the first n ends where nothing is said, the rest as before; all as before on a refusal
--   IntervalsOf — the contract of `intervals_of`: what is said, the two lists, and each pair of ends in 02's words
--   SmallIntervals  — numbers in their ranges; cited by `write_intervals` alone
use Rattle.std.specs.Prelude.{Bool, not, ◌&&◌, ◌||◌, List, [], ◌∷◌, ◌≡◌, ℕ, ◌≤◌, ◌<◌, ◌^◌, leb, ℤ, nat_abs, get_or, length, Float}
use Rattle.integer.specs.Finite.{every}
use Rattle.linear.specs.Slice.{at}
use Rattle.linear.specs.Written.{written}
use Rattle.rules.specs.Order.{Test, number, verdict, if_accepted}
use Rattle.rules.specs.Range.{all_in_range, short_column}
use Rattle.rules.specs.Refusal.{code, Outcome}
use Rattle.rules.specs.declared.Kind.TheVariants as kind
use Rattle.doubles_interval.specs.Interval.{interval_of, Outward}
use Rattle.doubles_interval.specs.declared.Interval.{Interval}
use Rattle.doubles_lists.specs.Lists.{double_at, exchange_sizes}

pub record Outgoing : Type 0 where
  pub n : ℕ
  pub s : ℕ
  pub guess : List ℤ
  pub bounds : List ℕ
  pub low : List Float
  pub high : List Float

abbrev pub outgoing : ℕ → ℕ → List ℤ → List ℕ → List Float → List Float → Outgoing
outgoing n s guess bounds low high = record { n = n; s = s; guess = guess; bounds = bounds; low = low; high = high }

abbrev pub any_outgoing_short : ℕ → ℕ → ℕ → ℕ → Bool
any_outgoing_short x e l h = short_column x || (short_column e || (short_column l || short_column h))

abbrev pub short_outgoing : Outgoing → Bool
short_outgoing I = any_outgoing_short (length I.guess) (length I.bounds) (length I.low) (length I.high)

abbrev pub bounds_in_range : ℕ → List ℕ → Bool
bounds_in_range n bounds = every n (λ (i : ℕ). leb (get_or bounds i 0) (2 ^ 60))

abbrev pub outgoing_in_ranges : Outgoing → Bool
outgoing_in_ranges I = exchange_sizes I.n I.s && (all_in_range kind.Guess I.n (at I.guess) && bounds_in_range I.n I.bounds)

abbrev pub outward_order : Outgoing → List Test
outward_order I = number 8 (short_outgoing I) ∷ number 3 (not (outgoing_in_ranges I)) ∷ []

unfoldable pub outward_answer : Outgoing → List ℕ
outward_answer I = verdict (outward_order I)

abbrev pub ends_at : Outgoing → ℕ → Interval
ends_at I i = interval_of I.s (at I.guess i) (get_or I.bounds i 0)

abbrev pub ends_in : List Float → List Float → ℕ → Interval
ends_in low high i = record { low = double_at low i; high = double_at high i }

unfoldable pub lows_after : Outgoing → List Float
lows_after I = if_accepted (outward_answer I) (written I.low 0 1 (λ (i : ℕ). (ends_at I i).low) I.n) I.low

unfoldable pub highs_after : Outgoing → List Float
highs_after I = if_accepted (outward_answer I) (written I.high 0 1 (λ (i : ℕ). (ends_at I i).high) I.n) I.high

pub record IntervalsOf (I : Outgoing) (r : Outcome) (low high : List Float) : Type 0 where
  pub says : code r ≡ outward_answer I
  pub lows : low ≡ lows_after I
  pub highs : high ≡ highs_after I
  pub outward : code r ≡ [] → (i : ℕ) → i < I.n → Outward I.s (at I.guess i) (get_or I.bounds i 0) (ends_in low high i)

pub record SmallIntervals (n s : ℕ) (guess : List ℤ) (bounds : List ℕ) : Type 0 where
  pub scale : s ≤ 20
  pub guesses : (i : ℕ) → i < n → nat_abs (at guess i) ≤ 2 ^ 36
  pub limits : (i : ℕ) → i < n → get_or bounds i 0 ≤ 2 ^ 60
