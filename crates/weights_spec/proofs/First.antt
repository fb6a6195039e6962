-- The first good list.
--   good_margins, margins_good — a list is good exactly where every margin is above 0
--   first_most — the first good place is at most a
--   past_none, none_past — no list of the first a is good exactly where the first good place is a
--   found_good, found_margins — the list at the first good place is good: every margin is above 0;  found_first — no list before it is
--   larger_allowance — a larger allowance finds the same list at the same place
use mathlib.Core.Path.{◌≡◌}
use mathlib.Core.Bool.{Bool, true, false}
use Prim.Native.Nat.{ℕ, ◌≤◌, ◌<◌}
use native.Mathlib.Omega.{arith}
use borrow.Author.Tests.{leb-true, le-leb}
use Rattle.integer.specs.Finite.{first}
use Rattle.integer.proofs.Search as search
use Rattle.integer.proofs.Search.{Searched, found, nowhere, searched, first_past, first_never, first_is}
use Rattle.enclosure.specs.Problem.{Problem}
use Rattle.enclosure.specs.Reckoning.{margin_fails}
use Rattle.enclosure.specs.Sound.{Margins}
use Rattle.weights_spec.specs.Sequence.{weighted, tried, good, first_good}

module _ (P : Problem) (w : ℕ → ℕ) where
  pub good_margins : good P w ≡ true → Margins (weighted P w)
  unfolding good
  good_margins e = first_past P.n (margin_fails (weighted P w)) (leb-true P.n _ e)

  pub margins_good : Margins (weighted P w) → good P w ≡ true
  unfolding good
  margins_good h = le-leb P.n (first P.n (margin_fails (weighted P w))) (omega (arith, first_never P.n (margin_fails (weighted P w)) h))

module _ (P : Problem) (a : ℕ) where
  abbrev good_at : ℕ → Bool
  good_at k = good P (tried P k)

  pub first_most : {x : ℕ} → x ≡ first_good P a → x ≤ a
  first_most = search.first_most a good_at

  pub past_none : a ≤ first_good P a → (k : ℕ) → k < a → good P (tried P k) ≡ false
  past_none = first_past a good_at

  pub none_past : ((k : ℕ) → k < a → good P (tried P k) ≡ false) → a ≤ first_good P a
  none_past h = omega (arith, first_never a good_at h)

  module _ (l : first_good P a < a) where
    pub found_good : good P (tried P (first_good P a)) ≡ true
    found_good = go (searched a good_at)
      where
        go : Searched a good_at → good P (tried P (first_good P a)) ≡ true
        go (found i m e p h) = rw e p
        go (nowhere e h) = absurd (omega arith)

    pub found_margins : Margins (weighted P (tried P (first_good P a)))
    found_margins = good_margins P (tried P (first_good P a)) found_good

    pub found_first : (k : ℕ) → k < first_good P a → good P (tried P k) ≡ false
    found_first k lk = go (searched a good_at)
      where
        go : Searched a good_at → good P (tried P k) ≡ false
        go (found i m e p h) = h k (omega arith)
        go (nowhere e h) = absurd (omega arith)

    pub larger_allowance : (b : ℕ) → a ≤ b → first_good P b ≡ first_good P a
    larger_allowance b h = first_is b good_at (first_good P a) (omega arith) found_good found_first
