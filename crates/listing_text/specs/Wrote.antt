-- Bytes written into a buffer from a place on.
--   Wrote most old at text new end — `text`, of at most `most` bytes, was stored from the place `at` on in `old`, which left `new`: every other byte is as
--     before, and `end` is the place after it
use Rattle.std.specs.Prelude.{List, ◌≡◌, ℕ, ◌+◌, ◌≤◌, length}
use Rattle.std.proofs.lemmas.List.Edits.{sets}

pub record Wrote (most : ℕ) (old : List ℕ) (at : ℕ) (text new : List ℕ) (end : ℕ) : Type 0 where
  pub end_is : end ≡ at + length text
  pub stored : new ≡ sets old at text
  pub end_max : end ≤ at + most
