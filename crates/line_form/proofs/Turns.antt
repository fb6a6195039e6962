-- Laws of the loop over the numbers of a list, in the form in which the code meets them.
--   listed — the numbers so far, and those that are still to be read
--   list_start, list_more, list_stop, list_out — at the first number, at a further one, where no space follows, and where the loop's count runs out
use mathlib.Core.Path.{◌≡◌, ap}
use mathlib.Core.Bool.{Bool, ◌&&◌}
use mathlib.Core.List.{List}
use Prim.Native.Nat.{ℕ, suc, ◌+◌, ◌-◌, ◌≤◌, ◌<◌}
use native.Mathlib.Omega.{arith}
use borrow.Author.Tests.{eq-eqb, ne_eqb}
use lib.IntN.{ℤ}
use lib.ListN.{length, get_or, set}
use Rattle.line_numeral.specs.Numeral.{number_at}
use Rattle.line_numeral.specs.Capped.{capped_number}
use Rattle.line_numeral.specs.declared.Number.{Number}
use Rattle.rules.specs.Range.{in_range}
use Rattle.rules.specs.declared.Kind.{Kind}
use Rattle.line_form.specs.declared.Listed.{Listed}
use Rattle.line_form.specs.declared.Numbers.{Numbers}
use Rattle.line_form.specs.Reading.{Others, others_at}
use Rattle.line_form.specs.List.{no_numbers}
use Rattle.line_form.specs.ListAt.{listed_at}
use Rattle.line_form.proofs.Values.{add_number, add_all, numbers_all}

abbrev pub listed : Kind → Numbers → Others → Listed
listed k l o = record { numbers = add_all k l o.values; next = o.next }

module _ (k : Kind) (s : List ℕ) where
  pub list_start : (at : ℕ) {r : Number} {w : ℤ} {t : Bool} {vs : List ℤ}
      → r ≡ capped_number (number_at s at) → w ≡ r.value → t ≡ in_range k w → vs ≡ set no_numbers.values 0 w
      → listed k (record { count = 1; inside = t; values = vs }) (others_at s (length s + 1 - 1) r.next) ≡ listed_at k s at
  unfolding listed_at add_number
  list_start at p v i e =
      let z : length s + 1 - 1 ≡ length s = omega arith in
      rw (z, e, i, v, p, ← numbers_all)

  module _ (l : Numbers) (next : ℕ) where
    pub list_out : length s < l.count → record { numbers = l; next = next } ≡ listed k l (others_at s (length s + 1 - l.count) next)
    unfolding others_at add_all
    list_out h =
        let z : length s + 1 - l.count ≡ 0 = omega arith in
        rw z

    module _ {b : ℕ} (e : b ≡ get_or s next 0) (h : l.count ≤ length s) where
      turn : others_at s (length s + 1 - l.count) next ≡ others_at s (suc (length s + 1 - (l.count + 1))) next
      turn = ap (λ (f : ℕ). others_at s f next) (omega arith)

      pub list_stop : (b ≡ 32 → ⊥) → record { numbers = l; next = next } ≡ listed k l (others_at s (length s + 1 - l.count) next)
      unfolding others_at add_all
      list_stop n = rw (turn, ← e, ne_eqb b 32 n)

      pub list_more : {r : Number} {w : ℤ} {t : Bool} {vs : List ℤ}
          → b ≡ 32 → r ≡ capped_number (number_at s (next + 1)) → w ≡ r.value → t ≡ in_range k w → vs ≡ set l.values l.count w
          → listed k (record { count = l.count + 1; inside = l.inside && t; values = vs }) (others_at s (length s + 1 - (l.count + 1)) r.next)
          ≡ listed k l (others_at s (length s + 1 - l.count) next)
      unfolding others_at add_all add_number
      list_more y p v i q = rw (turn, ← e, eq-eqb b 32 y, q, i, v, p)
