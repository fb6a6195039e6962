-- The two spellings of a right side without tolerance (02, Paper 5: "(right i b) means d = 0, written like a given one"): lines of at most 320 bytes that read
-- as (right i b) and as (right i (b 0)) are taken alike, at every loader and with all lists.
--   Alike, alike — what is said of them, and the loader and the lists that they leave, are equal
use mathlib.Core.Path.{◌≡◌}
use mathlib.Core.List.{List}
use mathlib.Core.Option.{some}
use Prim.Native.Nat.{ℕ, ◌≤◌}
use borrow.Author.Tests.{le-ltb}
use lib.IntN.{ℤ, pos}
use lib.ListN.{length}
use Rattle.line_form.specs.Form.{right, right_within}
use Rattle.line_form.specs.Reading.{reading}
use Rattle.loader_values.proofs.Capped.{within_alone}
use Rattle.loader_lists.specs.Lists.{Lists}
use Rattle.loader.specs.declared.Loader.{Loader}
use Rattle.loader.specs.Answer.{line_answer}
use Rattle.loader.specs.Taken.{loader_after, lists_after}

pub record Alike (d : Loader) (l : Lists) (line line' : List ℕ) : Type 0 where
  pub says : line_answer d l line ≡ line_answer d l line'
  pub loader : loader_after d l line ≡ loader_after d l line'
  pub lists : lists_after d l line ≡ lists_after d l line'

module _ (d : Loader) (l : Lists) (i b : ℤ) (line line' : List ℕ) (length_max : length line ≤ 320) (length-max' : length line' ≤ 320)
    (r : reading line ≡ some (right i b)) (r' : reading line' ≡ some (right_within i b (pos 0))) where
  same : line_answer d l line ≡ line_answer d l line'
  unfolding line_answer
  same = rw (r, r', le-ltb 320 (length line) length_max, le-ltb 320 (length line') length-max', within_alone i b)

  pub alike : Alike d l line line'
  unfolding loader_after lists_after
  alike = record { says = same; loader = rw (same, r, r'); lists = rw (same, r, r') }
