-- Files and what is said of them, in the numbers of the refusal's line.
--   file_rows   — files: a refused line, forms missing at an end, no end, a margin of 0 or less
--   FileRowsStated — what is said of each has its stated case
use Rattle.std.specs.Prelude.{List, [], ◌∷◌}
use Rattle.line_form.specs.Form.{bytes}
use Rattle.listing.specs.Cases.{FileCase}
use Rattle.file_stated.specs.Stated.{FileStated}

abbrev pub file_rows : List FileCase
file_rows =
    record { file = bytes "(problem 1)\n(scale 4 4)\n(right 1 0)\n(right 1 0)\n"; says = 12 ∷ 4 ∷ [] }
    -- two lines that are refused, and the first is reported
    ∷ record { file = bytes "(problem 1)\n(row 1 (4))\n(end\n"; says = 11 ∷ 2 ∷ [] }
    ∷ record { file = bytes "(problem 2)\n(scale 4 4)\n(row 1 (4 -1))\n(end)"; says = 13 ∷ 7 ∷ [] }
    ∷ record { file = []; says = 15 ∷ 0 ∷ [] }
    ∷ record { file = bytes "(problem 2)\n(scale 4 4)\n(row 1 (4 -1))"; says = 15 ∷ 0 ∷ [] }
    -- a line feed alone is an empty line
    ∷ record { file = bytes "\n"; says = 2 ∷ 1 ∷ [] }
    -- 01's case c
    ∷ record { file = bytes "(problem 1)\n(scale 0 4)\n(row 1 (4))\n(right 1 0)\n(guess 1 0)\n(inverse 1 (0))\n(end)\n"; says = 5 ∷ 1 ∷ [] }
    ∷ []

abbrev pub FileRowsStated : List FileCase → Type 0
FileRowsStated [] = Unit
FileRowsStated (c ∷ cs) = FileStated c.file c.says × FileRowsStated cs
