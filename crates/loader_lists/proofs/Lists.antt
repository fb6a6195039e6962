-- Laws of the lent lists.
--   LongLists, long_lent — lists that are not too short are long enough
--   rooms    — they have room for every item of a part
--   lists-≡  — six equal lists;  nothing_pasted — an item of no part leaves them
use mathlib.Core.Path.{◌≡◌, sym}
use mathlib.Core.Bool.{false}
use mathlib.Core.List.{List}
use Prim.Native.Nat.{ℕ, ◌≤◌}
use native.Mathlib.Omega.{arith}
use borrow.Author.Tests.{ltb-false}
use lib.IntN.{ℤ}
use lib.ListN.{length}
use lib.Seq.{paste-zero}
use Rattle.rules.specs.Range.{short_matrix, short_column}
use Rattle.rules.proofs.Ranges.{neither_left, neither_right}
use Rattle.loader_lists.specs.Span.{Narrow, nowhere, pasted_at, second_of}
use Rattle.loader_lists.specs.Pasted.{Rooms}
use Rattle.loader_values.specs.declared.Item.{Item}
use Rattle.loader_values.specs.declared.Item.TheVariants.{Problem, Scale, Of, End}
use Rattle.loader_lists.specs.Lists.{Lists, lists, short_lists}

pub record LongLists (l : Lists) : Type 0 where
  pub matrix : 1024 ≤ length l.matrix
  pub right : 32 ≤ length l.right
  pub tolerance : 32 ≤ length l.tolerance
  pub guess : 32 ≤ length l.guess
  pub inverse : 1024 ≤ length l.inverse
  pub weights : 32 ≤ length l.weights

pub long_lent : (l : Lists) → short_lists l ≡ false → LongLists l
long_lent l e =
    let s₂ = neither_right (short_matrix (length l.matrix)) _ e in
    let s₃ = neither_right (short_column (length l.right)) _ s₂ in
    let s₄ = neither_right (short_column (length l.tolerance)) _ s₃ in
    let s₅ = neither_right (short_column (length l.guess)) _ s₄ in
    record {
      matrix = ltb-false (length l.matrix) 1024 (neither_left _ _ e);
      right = ltb-false (length l.right) 32 (neither_left _ _ s₂);
      tolerance = ltb-false (length l.tolerance) 32 (neither_left _ _ s₃);
      guess = ltb-false (length l.guess) 32 (neither_left _ _ s₄);
      inverse = ltb-false (length l.inverse) 1024 (neither_left _ _ s₅);
      weights = ltb-false (length l.weights) 32 (neither_right (short_matrix (length l.inverse)) _ s₅);
    }

pub lists-≡ : {a b d x g w a' b' d' x' g' w' : List ℤ} → a ≡ a' → b ≡ b' → d ≡ d' → x ≡ x' → g ≡ g' → w ≡ w' → lists a b d x g w ≡ lists a' b' d' x' g' w'
lists-≡ p q u r s t = λ i. lists (p i) (q i) (u i) (r i) (s i) (t i)

pub rooms : (n : ℕ) (x : Item) (l : Lists) → short_lists l ≡ false → Narrow n x → Rooms n x l
rooms n (Problem m) l e h = record { matrix = h; right = h; tolerance = h; guess = h; inverse = h; weights = h; filled = h }
rooms n (Scale s t) l e h = record { matrix = h; right = h; tolerance = h; guess = h; inverse = h; weights = h; filled = h }
rooms n (Of p i) l e h =
    let k = long_lent l e in
    record {
      matrix = (h.0, omega (arith, k.matrix, h.0), h.1);
      right = (omega arith, omega (arith, k.right), h.1);
      tolerance = (omega arith, omega (arith, k.tolerance), h.1);
      guess = (omega arith, omega (arith, k.guess), h.1);
      inverse = (h.0, omega (arith, k.inverse, h.0), h.1);
      weights = (omega arith, omega (arith, k.weights), h.1);
      filled = tt;
    }
rooms n End l e h = record { matrix = h; right = omega arith; tolerance = omega arith; guess = omega arith; inverse = h; weights = omega arith; filled = (h, omega (arith, (long_lent l e).weights, h)) }

-- an item of no part is written nowhere
pub nothing_pasted : (vs : List ℤ) (l : Lists) → lists (pasted_at nowhere vs l.matrix) (pasted_at nowhere vs l.right) (pasted_at nowhere (second_of vs) l.tolerance) (pasted_at nowhere vs l.guess) (pasted_at nowhere vs l.inverse) (pasted_at nowhere vs l.weights) ≡ l
nothing_pasted vs l =
    lists-≡ (sym (paste-zero l.matrix 0 vs)) (sym (paste-zero l.right 0 vs)) (sym (paste-zero l.tolerance 0 (second_of vs))) (sym (paste-zero l.guess 0 vs)) (sym (paste-zero l.inverse 0 vs)) (sym (paste-zero l.weights 0 vs))
