-- Laws of the tests that depend on how far a loader has come, in the shape in which the code meets them.
--   late      — after the scale comes after problem
--   size_of   — past problem, where a form is not misplaced, n is 1 to 32;  placed_of — and its i is 1 to n
--   placed_32 — a form that is neither early nor misplaced has i in 1 to 32
--   misplaced_by, misplaced_own, misplaced_start — the outcomes of the test of the place
--   end_size  — at an end that is neither early nor misplaced n is 1 to 32
--   ungiven_is — the forms that were not given are the missing ones and the weights not given
use mathlib.Core.Path.{◌≡◌, refl}
use mathlib.Core.Bool.{Bool, true, false, not, ◌&&◌}
use mathlib.Core.List.{List}
use Prim.Native.Nat.{ℕ, ◌+◌, ◌≤◌}
use native.Mathlib.Omega.{arith}
use borrow.Author.Tests.{not-false, leb-true, le-leb}
use lib.IntN.{ℤ, pos, negsuc}
use lib.Signed.{le_z}
use Rattle.rules.specs.Range.{in_range}
use Rattle.rules.specs.declared.Kind.TheVariants.{Size}
use Rattle.rules.proofs.Ranges.{both_left, both_right, both, neither_left, neither_right, size_range}
use Rattle.loader_bit_set.specs.Places.{lacking}
use Rattle.loader_values.specs.Item.{placed}
use Rattle.loader_values.specs.declared.Item.{Item}
use Rattle.loader_values.specs.declared.Item.TheVariants.{Problem, Scale, Of, End}
use Rattle.loader_values.specs.declared.Part.TheVariants.{Weight}
use Rattle.loader_progress.specs.declared.Stage.{Stage}
use Rattle.loader_progress.specs.declared.Stage.TheVariants.{Start, Sized, Scaled, Ended}
use Rattle.loader_progress.specs.Progress.{set_of, sized, scaled, early, misplaced, missing}
use Rattle.loader_progress.specs.Ungiven.{ungiven}

-- ---- the place
pub scaled_sized : (s : Stage) → scaled s ≡ true → sized s ≡ true
scaled_sized Start e = e
scaled_sized Sized e = refl
scaled_sized Scaled e = refl
scaled_sized Ended e = refl

pub late : (s : Stage) → not (scaled s) ≡ false → sized s ≡ true
late s e = scaled_sized s (not-false (scaled s) e)

own_size : (s : Bool) (n : ℕ) → s ≡ true → s && not (in_range Size (pos n)) ≡ false → in_range Size (pos n) ≡ true
own_size s n e h = not-false (in_range Size (pos n)) (rw e at h)

module _ (s : Stage) (n : ℕ) (x : Item) where
  pub size_in : sized s ≡ true → misplaced s n x ≡ false → in_range Size (pos n) ≡ true
  unfolding misplaced
  size_in e h = own_size (sized s) n e (neither_left (sized s && not (in_range Size (pos n))) (not (placed n x)) h)

  pub size_of : sized s ≡ true → misplaced s n x ≡ false → (1 ≤ n) × (n ≤ 32)
  size_of e h = size_range n (size_in e h)

  pub placed_of : misplaced s n x ≡ false → placed n x ≡ true
  unfolding misplaced
  placed_of h = not-false (placed n x) (neither_right (sized s && not (in_range Size (pos n))) (not (placed n x)) h)

  -- the outcomes of the test
  pub misplaced_by : {b : Bool} → sized s ≡ true → in_range Size (pos n) ≡ true → b ≡ placed n x → not b ≡ misplaced s n x
  unfolding misplaced
  misplaced_by p q r = rw (p, q, r)

  pub misplaced_own : sized s ≡ true → in_range Size (pos n) ≡ false → true ≡ misplaced s n x
  unfolding misplaced
  misplaced_own p q = rw (p, q)

  pub misplaced_start : {b : Bool} → sized s ≡ false → b ≡ placed n x → not b ≡ misplaced s n x
  unfolding misplaced
  misplaced_start p r = rw (p, r)

le_more : (i : ℤ) {m n : ℕ} → m ≤ n → le_z i (pos m) ≡ true → le_z i (pos n) ≡ true
le_more (pos i) {m} {n} l h = le-leb i n (omega (arith, leb-true i m h))
le_more (negsuc i) l h = refl

placed_more : (x : Item) {m n : ℕ} → m ≤ n → placed m x ≡ true → placed n x ≡ true
placed_more (Problem k) l h = refl
placed_more (Scale s t) l h = refl
placed_more (Of p i) {m} {n} l h = both (both_left (le_z (pos 1) i) (le_z i (pos m)) h) (le_more i l (both_right (le_z (pos 1) i) (le_z i (pos m)) h))
placed_more End l h = refl

pub placed_32 : (s : Stage) (n : ℕ) (x : Item) → early s x ≡ false → misplaced s n x ≡ false → placed 32 x ≡ true
placed_32 s n (Problem m) a h = refl
placed_32 s n (Scale u v) a h = refl
placed_32 s n (Of p i) a h = placed_more (Of p i) (size_of s n (Of p i) (late s a) h).1 (placed_of s n (Of p i) h)
placed_32 s n End a h = refl

-- ---- end
module _ (s : Stage) (n : ℕ) {x : Item} (e : x ≡ End) where
  pub end_size : early s x ≡ false → misplaced s n x ≡ false → (1 ≤ n) × (n ≤ 32)
  end_size a h = size_of s n End (late s (rw e at a)) (rw e at h)

pub ungiven_is : (n : ℕ) (z : List ℕ) → ungiven n z ≡ missing n z + lacking (set_of z Weight) n
unfolding ungiven missing
ungiven_is n z = omega arith
