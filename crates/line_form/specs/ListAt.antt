-- The numbers of a list where they stand in a line.
--   listed_at k s at — the list at a place: its numbers, for the range of the kind k, and the place after the last
use Rattle.std.specs.Prelude.{List, ◌∷◌, ℕ, length}
use Rattle.line_numeral.specs.Numeral.{number_at}
use Rattle.rules.specs.declared.Kind.{Kind}
use Rattle.line_form.specs.declared.Listed.{Listed}
use Rattle.line_form.specs.Reading.{others_at}
use Rattle.line_form.specs.List.{numbers_of}

unfoldable pub listed_at : Kind → List ℕ → ℕ → Listed
listed_at k s at =
    record {
      numbers = numbers_of k ((number_at s at).value ∷ (others_at s (length s) (number_at s at).next).values);
      next = (others_at s (length s) (number_at s at).next).next;
    }
