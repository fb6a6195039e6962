-- The report of an accepted proposal (01: "Bounds carries n. Solution: guess and limit. Entry: V and its limit. Inverse: the limits of row i"). Rows count
-- from 0 here and from 1 in the lines.
--   bounds_line n         — (bounds n)
--   solution_line X E i   — (solution i (X E))
--   entry_line s X E i    — (entry i (V limit))
--   inverse_line n L i    — (inverse i (L .. L)), the limits of row i
--   report_of n s X E L   — the lines of the report, for the guess X, the limits E of the solution and L of the inverse
use Rattle.std.specs.Prelude.{List, ◌++◌, ℕ, ◌+◌, ℤ}
use Rattle.line_numeral.specs.Decimal.{decimal}
use Rattle.line_form.specs.Form.{bytes}
use Rattle.entry.specs.Entry.{entry_value, entry_bound}
use Rattle.listing_text.specs.Line.{each, pair_line, list_line}

abbrev pub bounds_line : ℕ → List ℕ
bounds_line n = bytes "(bounds " ++ decimal n ++ bytes ")\n"

abbrev pub solution_line : (ℕ → ℤ) → (ℕ → ℕ) → ℕ → List ℕ
solution_line X E i = pair_line (bytes "(solution ") (i + 1) (X i) (E i)

abbrev pub entry_line : ℕ → (ℕ → ℤ) → (ℕ → ℕ) → ℕ → List ℕ
entry_line s X E i = pair_line (bytes "(entry ") (i + 1) (entry_value s (X i)) (entry_bound s (X i) (E i))

abbrev pub inverse_line : ℕ → (ℕ → ℕ → ℕ) → ℕ → List ℕ
inverse_line n L i = list_line (bytes "(inverse ") (i + 1) n (L i)

unfoldable pub report_of : ℕ → ℕ → (ℕ → ℤ) → (ℕ → ℕ) → (ℕ → ℕ → ℕ) → List ℕ
report_of n s X E L =
    bounds_line n
    ++ each n (solution_line X E)
    ++ each n (entry_line s X E)
    ++ each n (inverse_line n L)
    ++ bytes "(end)\n"
