-- Cases a to l of document 01 ("Marked for proof") and the one of 02's Paper 2, one table; and 01's whole file with its listing.
--   TableRow  — cases a to k are rows of the check on lists; case l is a register entry, and Paper 2's an entry with its limit
--   FileCase — a file, and what is said of it, in numbers
--   table — the table;  table_row_holds — a case is what the definitions of the contracts give
--   whole_file, whole_listing — 01, "A whole file";  unweighted_file — that file without its weights (02, Paper 1)
--   spelled_out_file — the whole file with (right 1 (5 0)) for (right 1 5) (02, Paper 5)
--   tolerant_file, tolerant_listing — a file with a tolerance: 1·x = 0 with d = 3, whose limit is 3·S
use Rattle.std.specs.Prelude.{Bool, true, ◌&&◌, List, [], ◌∷◌, ◌++◌, map, ℕ, eqb, ℤ, pos, negsuc}
use Rattle.integer.specs.Same.{same_number}
use Rattle.check_spec.specs.Cases as check
use Rattle.line_form.specs.Form.{bytes}
use Rattle.entry.specs.Entry.{entry_value, entry_bound}

pub record FileCase : Type 0 where
  pub file : List ℕ
  pub says : List ℕ

pub data TableRow : Type 0 where
  checked : check.CaseRow → TableRow
  entry : (x : ℤ) (s : ℕ) (v : ℤ) → TableRow
  limited : (x : ℤ) (s e : ℕ) (v : ℤ) (limit : ℕ) → TableRow

abbrev pub table_row_holds : TableRow → Bool
table_row_holds (checked r) = check.row_holds r
table_row_holds (entry x s v) = same_number (entry_value s x) v
table_row_holds (limited x s e v limit) = same_number (entry_value s x) v && eqb (entry_bound s x e) limit

-- X = −24, s = 4: entry −2
abbrev pub l : TableRow
l = entry (negsuc 23) 4 (negsuc 1)

-- 02, Paper 2: X = 24, s = 4 and E = 10: the entry is 2 and its limit 2
abbrev pub paper_2 : TableRow
paper_2 = limited (pos 24) 4 10 (pos 2) 2

abbrev pub table : List TableRow
table = map (λ (r : check.CaseRow). checked r) check.rows ++ (l ∷ paper_2 ∷ [])

abbrev pub table_holds : List TableRow → Bool
table_holds [] = true
table_holds (c ∷ cs) = table_row_holds c && table_holds cs

abbrev pub whole_file : List ℕ
whole_file =
    bytes "(problem 2)\n(scale 4 4)\n(row 1 (4 -1))\n(row 2 (-1 3))\n(right 1 5)\n(right 2 1)\n"
    ++ bytes "(guess 1 23)\n(guess 2 13)\n(inverse 1 (4 1))\n(inverse 2 (1 6))\n(weight 1 1)\n(weight 2 1)\n(end)\n"

abbrev pub unweighted_file : List ℕ
unweighted_file =
    bytes "(problem 2)\n(scale 4 4)\n(row 1 (4 -1))\n(row 2 (-1 3))\n(right 1 5)\n(right 2 1)\n"
    ++ bytes "(guess 1 23)\n(guess 2 13)\n(inverse 1 (4 1))\n(inverse 2 (1 6))\n(end)\n"

abbrev pub spelled_out_file : List ℕ
spelled_out_file =
    bytes "(problem 2)\n(scale 4 4)\n(row 1 (4 -1))\n(row 2 (-1 3))\n(right 1 (5 0))\n(right 2 1)\n"
    ++ bytes "(guess 1 23)\n(guess 2 13)\n(inverse 1 (4 1))\n(inverse 2 (1 6))\n(weight 1 1)\n(weight 2 1)\n(end)\n"

abbrev pub tolerant_file : List ℕ
tolerant_file = bytes "(problem 1)\n(scale 4 4)\n(row 1 (1))\n(right 1 (0 3))\n(guess 1 0)\n(inverse 1 (16))\n(end)\n"

abbrev pub tolerant_listing : List ℕ
tolerant_listing = bytes "(bounds 1)\n(solution 1 (0 48))\n(entry 1 (0 3))\n(inverse 1 (0))\n(end)\n"

abbrev pub whole_listing : List ℕ
whole_listing =
    bytes "(bounds 2)\n(solution 1 (23 1))\n(solution 2 (13 1))\n(entry 1 (1 1))\n(entry 2 (1 1))\n"
    ++ bytes "(inverse 1 (1 1))\n(inverse 2 (1 1))\n(end)\n"
