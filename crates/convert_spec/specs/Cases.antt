-- Files and what a converter makes of them, and files and what the desk of 01 says of them.
--   shuffled_file — 01's whole file in another order, a right side spelled with a tolerance of 0, without weights and without the last line feed: its new file is
--     01's whole file
--   unbounded_file — 01's case c as a file, which a check refuses with 5, row 1: it is converted like any other;  unbounded_new — its new file
--   unlike_file   — a file of unlike numbers, n, s and t among them, neither matrix its own transpose, a weight given and one left out;  unlike_new — its new file
--   Printed      — a file, and what the program prints of it;  printed_cases — such files: the loader's refusals come first, then 15, then 22
--   old_cases     — files, each with the number and the count that the desk of 01 says of it
--   longest      — a problem, its numbers in range, whose file is as long as any
use Rattle.std.specs.Prelude.{List, [], ◌∷◌, ◌++◌, ℕ, negsuc, replicate}
use Rattle.enclosure.specs.Problem.{Problem}
use Rattle.line_form.specs.Form.{bytes}
use Rattle.listing.specs.Cases.{FileCase, spelled_out_file, tolerant_file}

abbrev pub shuffled_file : List ℕ
shuffled_file =
    bytes "(problem 2)\n(scale 4 4)\n(inverse 2 (1 6))\n(guess 2 13)\n(right 2 1)\n(row 2 (-1 3))\n"
    ++ bytes "(inverse 1 (4 1))\n(guess 1 23)\n(right 1 (5 0))\n(row 1 (4 -1))\n(end)"

abbrev pub unbounded_file : List ℕ
unbounded_file = bytes "(problem 1)\n(scale 0 4)\n(row 1 (4))\n(right 1 0)\n(guess 1 0)\n(inverse 1 (0))\n(end)\n"

abbrev pub unbounded_new : List ℕ
unbounded_new = bytes "(problem 1)\n(scale 0 4)\n(row 1 (4))\n(right 1 0)\n(guess 1 0)\n(inverse 1 (0))\n(weight 1 1)\n(end)\n"

abbrev pub unlike_file : List ℕ
unlike_file =
    bytes "(problem 2)\n(scale 3 5)\n(weight 2 13)\n(inverse 2 (-11 12))\n(row 2 (3 4))\n(right 2 -6)\n"
    ++ bytes "(right 1 (14 0))\n(guess 2 7)\n(inverse 1 (9 10))\n(row 1 (1 -2))\n(guess 1 -8)\n(end)\n"

abbrev pub unlike_new : List ℕ
unlike_new =
    bytes "(problem 2)\n(scale 3 5)\n(row 1 (1 -2))\n(row 2 (3 4))\n(right 1 14)\n(right 2 -6)\n"
    ++ bytes "(guess 1 -8)\n(guess 2 7)\n(inverse 1 (9 10))\n(inverse 2 (-11 12))\n(weight 1 1)\n(weight 2 13)\n(end)\n"

pub record Printed : Type 0 where
  pub file : List ℕ
  pub text : List ℕ

abbrev pub printed_cases : List Printed
printed_cases =
    record { file = unlike_file; text = unlike_new }
    ∷ record { file = tolerant_file; text = bytes "(refused 22 (0))\n" }
    ∷ record { file = []; text = bytes "(refused 15 (0))\n" }
    -- a tolerance, and no end
    ∷ record { file = bytes "(problem 1)\n(scale 4 4)\n(right 1 (0 3))\n"; text = bytes "(refused 15 (0))\n" }
    -- a tolerance, and row, guess and inverse row are missing at the end
    ∷ record { file = bytes "(problem 1)\n(scale 4 4)\n(right 1 (0 3))\n(end)\n"; text = bytes "(refused 13 (3))\n" }
    -- a tolerance, and the fourth line is refused
    ∷ record { file = bytes "(problem 1)\n(scale 4 4)\n(right 1 (0 3))\n(right 1 0)\n"; text = bytes "(refused 12 (4))\n" }
    ∷ []

abbrev pub old_cases : List FileCase
old_cases =
    -- 13: 01 asks for all n weights, and counts them
    record { file = unbounded_file; says = 13 ∷ 1 ∷ [] }
    ∷ record { file = bytes "(problem 2)\n(scale 4 4)\n(end)\n"; says = 13 ∷ 10 ∷ [] }
    -- 2: 01 has no form with a tolerance, be it 0
    ∷ record { file = spelled_out_file; says = 2 ∷ [] }
    -- 4, and not 12: 01 tests repetition late
    ∷ record { file = bytes "(problem 2)\n(scale 4 4)\n(row 1 (4 -1))\n(row 1 (4))\n"; says = 4 ∷ [] }
    ∷ record { file = bytes "(problem 2)\n(scale 4 4)\n(row 1 (4 -1))\n(row 1 (4 -1))\n"; says = 12 ∷ [] }
    ∷ record { file = bytes "(problem 2)\n(scale 4 4)\n(row 3 (4 -1))\n"; says = 3 ∷ [] }
    ∷ record { file = bytes "(problem 2)\n(scale 4 4)\n(weight 1 0)\n"; says = 3 ∷ [] }
    ∷ record { file = bytes "(problem 2)\n(row 1 (4 -1))\n"; says = 11 ∷ [] }
    ∷ record { file = unbounded_new ++ bytes "(end)\n"; says = 14 ∷ [] }
    ∷ record { file = replicate 321 40; says = 1 ∷ [] }
    ∷ []

abbrev pub longest : Problem
longest = record {
  n = 32;
  s = 20;
  t = 20;
  A = λ (i j : ℕ). negsuc 1048575;
  b = λ (i : ℕ). negsuc 1073741823;
  d = λ (i : ℕ). 0;
  X = λ (i : ℕ). negsuc 68719476735;
  G = λ (i j : ℕ). negsuc 1048575;
  w = λ (i : ℕ). 1024;
}
