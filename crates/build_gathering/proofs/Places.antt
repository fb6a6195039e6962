-- Laws of the kept lines, by their places.
--   lines_length, keys_length — a line more leaves the lengths;  with_other, with_same — the other lines stay, and the line itself is kept
--   key_other, key_same — so with the keys
--   met_some, met_none — the first of n keys that is one, found by its position
use mathlib.Core.Path.{◌≡◌, sym}
use mathlib.Core.Bool.{Bool}
use mathlib.Core.List.{List}
use Prim.Native.Nat.{ℕ, ◌≤◌, ◌<◌}
use native.Mathlib.Omega.{arith}
use borrow.Author.Tests.{lt-ltb}
use lib.Dec.{eqb}
use lib.ListN.{length, length-set, take}
use lib.Seq.{get_or-set_same, get_or-set_other}
use Rattle.std.proofs.Common.{Some, None}
use Rattle.std.specs.List.{position, position_or_len}
use Rattle.std.proofs.lemmas.List.{get_or-take, length-take}
use Rattle.std.proofs.lemmas.List.Sums.{position_or_len_is}
use Rattle.std.proofs.lemmas.List.Quantifiers.{position-Some}
use Rattle.integer.specs.Finite.{first}
use Rattle.integer.proofs.Search.{Searched, found, nowhere, searched, first_is}
use Rattle.build_lines.specs.declared.Observation.{Observation}
use Rattle.build_lines.specs.Line.{no_observation}
use Rattle.build_gathering.specs.declared.KeptLines.{KeptLines}
use Rattle.build_gathering.specs.Gathered.{line_at, key_at, with_line}

module _ (seen : KeptLines) (p : ℕ) (l : Observation) where
  pub lines_length : length (with_line seen p l).lines ≡ length seen.lines
  unfolding with_line
  lines_length = length-set seen.lines p l

  pub keys_length : length (with_line seen p l).keys ≡ length seen.keys
  unfolding with_line
  keys_length = length-set seen.keys p l.key

  pub with_other : (q : ℕ) → (q ≡ p → ⊥) → line_at (with_line seen p l) q ≡ line_at seen q
  unfolding with_line line_at
  with_other q n = get_or-set_other seen.lines p q l no_observation n

  pub with_same : length seen.lines ≡ 256 → p < 256 → line_at (with_line seen p l) p ≡ l
  unfolding with_line line_at
  with_same long h = get_or-set_same seen.lines p l no_observation (omega (arith, long, h))

  pub key_other : (q : ℕ) → (q ≡ p → ⊥) → key_at (with_line seen p l) q ≡ key_at seen q
  unfolding with_line
  key_other q n = get_or-set_other seen.keys p q l.key 0 n

  pub key_same : length seen.keys ≡ 256 → p < 256 → key_at (with_line seen p l) p ≡ l.key
  unfolding with_line
  key_same long h = get_or-set_same seen.keys p l.key 0 (omega (arith, long, h))

module _ (seen : KeptLines) (n key : ℕ) (h : n ≤ length seen.keys) where
  abbrev is : ℕ → Bool
  is k = eqb k key

  abbrev front : List ℕ
  front = take n seen.keys

  front_length : length front ≡ n
  front_length = omega (arith, length-take {A = ℕ})

  pub met_some : {i : ℕ} → position is front ≡ Some i → (i ≡ first n (λ (k : ℕ). is (key_at seen k))) × (i < n)
  met_some {i} e =
      let s = position-Some is front i 0 e in
      let b : i < n = omega (arith, s.0, front_length) in (
        sym (first_is n (λ (k : ℕ). is (key_at seen k)) i b (rw (get_or-take n seen.keys i 0 b) at s.1)
            (λ k l. rw (get_or-take n seen.keys k 0 (omega arith)) at (s.2 k l))),
        b,
      )

  pub met_none : position is front ≡ None → n ≤ first n (λ (k : ℕ). is (key_at seen k))
  met_none e = go (searched n (λ (k : ℕ). is (key_at seen k)))
    where
      go : Searched n (λ (k : ℕ). is (key_at seen k)) → n ≤ first n (λ (k : ℕ). is (key_at seen k))
      go (nowhere e' _) = omega (arith, e')
      go (found i b _ q w) =
          let z : position_or_len is front ≡ i = position_or_len_is is front i 0 (omega (arith, front_length))
          (λ k l. rw (get_or-take n seen.keys k 0 (omega arith)) (w k l)) (λ l. rw (get_or-take n seen.keys i 0 b) q) in
          let c = rw (z, front_length, lt-ltb i n b) at e in
          absurd (cc)
