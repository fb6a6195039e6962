-- Laws of blocks of bytes without a line feed.
--   no_bytes, one_byte_more — no byte, and a further one that is no line feed
--   first_feed_is — what a search for a line feed finds, or the number of all bytes, is how many stand before the first
use mathlib.Core.Path.{◌≡◌, refl, ◌∙◌}
use mathlib.Core.Bool.{Bool, true, false, ◌||◌, true≢false}
use mathlib.Core.List.{List}
use Prim.Native.Nat.{ℕ, zero, suc, ◌+◌, ◌≤◌, ◌<◌}
use native.Mathlib.Omega.{arith}
use borrow.Author.Tests.{eqb-false}
use lib.Dec.{eqb}
use lib.ListN.{length, get_or, take, drop}
use Rattle.std.specs.Prelude.{MatchOption}
use Rattle.std.specs.List.{All}
use Rattle.std.specs.Option.{unwrap_or}
use Rattle.std.proofs.Common.{Option, None, Some}
use Rattle.std.proofs.lemmas.List.{get_or-take, get_or-drop}
use Rattle.std.proofs.lemmas.List.Elements.{All-get_or}
use Rattle.loader_runs.specs.Length.{line_length}
use Rattle.loader_runs.proofs.Lines.{length_byte, length_feed, length_end}
use Rattle.file.specs.Feeds.{FeedWithin}

pub no_bytes : (s : List ℕ) (at : ℕ) (b : Bool) → FeedWithin s at 0 b
no_bytes s at b e =
    let z : at + 0 ≡ at = omega arith in
    rw z

pub one_byte_more : (s : List ℕ) (at j : ℕ) (b : Bool) → at + j < length s → FeedWithin s at j b → FeedWithin s at (j + 1) (b || eqb (get_or s (at + j) 0) 10)
one_byte_more s at j b inside w = go b (eqb (get_or s (at + j) 0) 10) refl w
  where
    go : (b t : Bool) → eqb (get_or s (at + j) 0) 10 ≡ t → FeedWithin s at j b → FeedWithin s at (j + 1) (b || t)
    go true t p w e = absurd (true≢false e)
    go false true p w e = absurd (true≢false e)
    go false false p w e =
        let n = length_byte s {i = at + j} inside (eqb-false _ _ p) in
        let m : at + j + 1 ≡ at + (j + 1) = omega arith in
        let n1 = rw m at n in
        omega (arith, n1, w refl)

-- a byte of a block
pub block_byte : (s : List ℕ) (at n k : ℕ) → k < n → get_or (take n (drop at s)) k 0 ≡ get_or s (at + k) 0
block_byte s at n k h = get_or-take n (drop at s) k 0 h ∙ get_or-drop at s k 0

-- bytes without a line feed, and what is left
feed_passed : (s : List ℕ) (k : ℕ) → k ≤ length s → ((j : ℕ) → j < k → get_or s j 0 ≡ 10 → ⊥) → line_length s ≡ k + line_length (drop k s)
feed_passed s zero h n = omega arith
feed_passed s (suc k) h n =
    let before = feed_passed s k (omega arith) (λ j m. n j (omega arith)) in
    let here = length_byte s {i = k} (omega arith) (n k (omega arith)) in
    let m : k + 1 ≡ suc k = omega arith in
    omega (arith, before, rw m at here)

pub first_feed_is : (r : Option ℕ) (s : List ℕ) →
    MatchOption r (All (λ (x : ℕ). x ≡ 10 → ⊥) s) (λ (k : ℕ). (k < length s) × (get_or s k 0 ≡ 10) × ((j : ℕ) → j < k → get_or s j 0 ≡ 10 → ⊥)) → unwrap_or r (length s) ≡ line_length s
first_feed_is None s h = omega (arith, feed_passed s (length s) (omega arith) (λ j m. All-get_or (λ (x : ℕ). x ≡ 10 → ⊥) s j 0 m h), length_end s {i = length s} (omega arith))
first_feed_is (Some k) s h = omega (arith, feed_passed s k (omega (arith, h.0)) h.2, length_feed s {i = k} h.0 h.1)
