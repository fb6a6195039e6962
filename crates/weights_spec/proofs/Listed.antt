-- The weight list that holds a list of the sequence.
--   listed_at — what it holds;  listed_inside — every weight is in its range
--   margins_same, listed_margins — the margins of a check with it, whatever the scale, the right side, the tolerances and the guess, are those of the sequence
use mathlib.Core.Path.{◌≡◌, ap, ap₂, ◌∙◌}
use mathlib.Core.Bool.{true}
use mathlib.Core.List.{List, []}
use Prim.Native.Nat.{ℕ, ◌*◌, ◌^◌, ◌≤◌, ◌<◌}
use lib.IntN.{ℤ, pos, nat_abs, ◌-ℤ◌}
use lib.ListN.{length}
use lib.Signed.{le_z}
use Rattle.integer.proofs.Sum.{sumℕ_ext}
use Rattle.linear.specs.Slice.{at}
use Rattle.linear.specs.Written.{written}
use Rattle.linear.proofs.Written.{front_at}
use Rattle.rules.specs.Range.{all_in_range}
use Rattle.rules.specs.declared.Kind.TheVariants as kind
use Rattle.rules.proofs.AllInRange.{all_in}
use Rattle.enclosure.specs.Sound.{Margins}
use Rattle.enclosure.specs.Problem.{Problem, problem_of}
use Rattle.enclosure.specs.Reckoning.{defect, load, margin, margin_fails}
use Rattle.weights_spec.specs.Sequence.{weighted, tried, first_good}
use Rattle.weights_spec.proofs.First.{found_margins}
use Rattle.weights_spec.proofs.Lists.{tried_range}

module _ (n s t : ℕ) (matrix right tolerance guess inverse weights : List ℤ) (w : ℕ → ℕ) (h : (i : ℕ) → i < n → nat_abs (at weights i) ≡ w i) where
  pub margins_same : (m : ℕ) → m < n → margin_fails (problem_of n s t matrix right tolerance guess inverse weights) m ≡ margin_fails (weighted (problem_of n 0 t matrix [] [] [] inverse []) w) m
  unfolding margin load defect
  margins_same m l =
      ap (λ (z : ℤ). le_z z (pos 0))
      (ap₂ (λ (x y : ℕ). pos (2 ^ t * x) -ℤ pos y) (h m l)
      (sumℕ_ext n _ _ (λ j lj. ap (λ (x : ℕ). nat_abs (defect (problem_of n 0 t matrix [] [] [] inverse []) m j) * x) (h j lj))))

module _ (n t : ℕ) (matrix inverse weights : List ℤ) (k : ℕ) (long : n ≤ length weights) where
  abbrev P : Problem
  P = problem_of n 0 t matrix [] [] [] inverse []

  abbrev listed : List ℤ
  listed = written weights 0 1 (λ (i : ℕ). pos (tried P k i)) n

  pub listed_at : (i : ℕ) → i < n → at listed i ≡ pos (tried P k i)
  listed_at i l = front_at weights (λ (i : ℕ). pos (tried P k i)) (pos 0) n i l long

  pub listed_inside : all_in_range kind.Weight n (at listed) ≡ true
  listed_inside = all_in kind.Weight n (at listed) (λ i l. rw (listed_at i l) (tried_range P k i l))

  pub listed_margins : (a : ℕ) → k ≡ first_good P a → k < a → (s : ℕ) (right tolerance guess : List ℤ) → Margins (problem_of n s t matrix right tolerance guess inverse listed)
  listed_margins a e l s right tolerance guess m lm =
      margins_same n s t matrix right tolerance guess inverse listed (tried P k) (λ i li. ap nat_abs (listed_at i li)) m lm
      ∙ rw e (found_margins P a (rw e at l) m lm)
