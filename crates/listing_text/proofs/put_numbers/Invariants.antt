use Rattle.std.proofs.Common.{◌≡◌, ℕ, ◌+◌, ◌*◌, length, ◌++◌, slice_index_or}
use Rattle.listing_text.specs.Wrote.{Wrote}
use Rattle.listing_text.specs.Line.{each, gap}
use Rattle.listing_text.proofs.put_numbers.Given as goal

abbrev pub invariant-loop-j : goal.invariant-loop-j
invariant-loop-j g l = record {
  same_length : length l.out ≡ length l.fn.out;
  wrote : Wrote (l.j * 21) l.fn.out l.at (each l.j (λ (k : ℕ). gap k ++ g.T.Numeral.text (slice_index_or l.values (l.start + k) g.T.Numeral.zero))) l.out l.index;
}
