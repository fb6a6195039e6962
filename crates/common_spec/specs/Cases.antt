-- Pairs of proposals worked out by hand, as rows of a table; `CaseRow`, `row` and `case_input` are of check_spec/specs/Cases.
--   CommonRow  — two proposals, what is said of them, and the ends that are written
--   file_at s x y d — document 01's whole file, with s, the guess and the tolerances
--   coarse     — in steps of 1/16, limits 1 and 1: 23 to 25 and 12 to 14;  fine — in steps of 1/64, limits 2 and 2: 90 to 94 and 50 to 54
--   far_guess       — as coarse with guess 20: 6, row 1;  fine_other — as fine, by another inverse in steps of 1/32, and with other numbers past the first n
--   broad d s  — a net whose limits are d + 2^36 in steps of 1, and twice that in steps of 1/2
--   solved s x y w — another net, without tolerance;  wide — limits 2^30 and 2^36 in steps of 1
--   solved_exactly, solved_in_units — its exact heights in steps of 1/2 and of 1, limits 0 and 0;  one_step_off — in steps of 1/2, limits 1 and 1
--   broad_right, broad_height — a right side of `broad` at the corner of its tolerances, and its height, at the lower end of the interval of 2^36
--   common_rows — the table;  common_input r — what is handed in;  numbers_are f i xs — f has the numbers xs from place i on
--   common_holds, all_common_hold — a row, all rows of the table hold
use Rattle.std.specs.Prelude.{Bool, true, ◌&&◌, List, [], ◌∷◌, ℕ, ◌+◌, ℤ, pos, negsuc, replicate}
use Rattle.linear.specs.Matrix.{Vec}
use Rattle.linear.specs.Slice.{at, vector_of}
use Rattle.check_spec.specs.Cases.{CaseRow, row, case_input, same_numbers}
use Rattle.integer.specs.Same.{same_number}
use Rattle.common_spec.specs.Proposals.{Proposals, proposals}
use Rattle.common_spec.specs.Answer.{common_answer, low_after, high_after}

pub record CommonRow : Type 0 where
  pub first : CaseRow
  pub second : CaseRow
  pub says : List ℕ
  pub low : List ℤ
  pub high : List ℤ

abbrev pub common_row : CaseRow → CaseRow → List ℕ → List ℤ → List ℤ → CommonRow
common_row first second says low high = record { first = first; second = second; says = says; low = low; high = high }

abbrev pub file_at : ℕ → ℤ → ℤ → ℤ → CaseRow
file_at s x y d =
    row 2 s 4 (pos 4 ∷ negsuc 0 ∷ negsuc 0 ∷ pos 3 ∷ []) (pos 5 ∷ pos 1 ∷ []) (d ∷ pos 0 ∷ []) (x ∷ y ∷ [])
    (pos 4 ∷ pos 1 ∷ pos 1 ∷ pos 6 ∷ []) (pos 1 ∷ pos 1 ∷ []) [] []

abbrev pub coarse : CaseRow
coarse = file_at 4 (pos 24) (pos 13) (pos 0)

abbrev pub fine : CaseRow
fine = file_at 6 (pos 92) (pos 52) (pos 0)

abbrev pub far_guess : CaseRow
far_guess = file_at 4 (pos 20) (pos 13) (pos 0)

abbrev pub fine_other : CaseRow
fine_other =
    row 2 6 5 (pos 4 ∷ negsuc 0 ∷ negsuc 0 ∷ pos 3 ∷ pos 9 ∷ []) (pos 5 ∷ pos 1 ∷ pos 9 ∷ []) (pos 0 ∷ pos 0 ∷ pos 9 ∷ []) (pos 92 ∷ pos 52 ∷ pos 9 ∷ [])
    (pos 9 ∷ pos 3 ∷ pos 3 ∷ pos 12 ∷ pos 9 ∷ []) (pos 1 ∷ pos 1 ∷ pos 9 ∷ []) [] []

abbrev pub broad : ℤ → ℕ → CaseRow
broad d s =
    row 2 s 0 (pos 1 ∷ pos 1048576 ∷ pos 0 ∷ pos 1 ∷ []) (pos 0 ∷ pos 0 ∷ []) (d ∷ pos 65536 ∷ []) (pos 0 ∷ pos 0 ∷ [])
    (pos 1 ∷ negsuc 1048575 ∷ pos 0 ∷ pos 1 ∷ []) (pos 1 ∷ pos 1 ∷ []) [] []

abbrev pub broad_right : Vec
broad_right = vector_of (pos 0 ∷ pos 65536 ∷ [])

abbrev pub broad_height : Vec
broad_height = vector_of (negsuc 68719476735 ∷ pos 65536 ∷ [])

abbrev pub solved : ℕ → ℤ → ℤ → ℤ → CaseRow
solved s x y w =
    row 2 s 0 (pos 1 ∷ pos 1024 ∷ pos 1023 ∷ pos 1047553 ∷ []) (pos 0 ∷ negsuc 1048575 ∷ []) (pos 0 ∷ pos 0 ∷ []) (x ∷ y ∷ [])
    (pos 1047553 ∷ negsuc 1023 ∷ negsuc 1022 ∷ pos 1 ∷ []) (pos 1 ∷ w ∷ []) [] []

abbrev pub wide : CaseRow
wide = solved 0 (pos 0) (pos 0) (pos 64)

abbrev pub solved_exactly : CaseRow
solved_exactly = solved 1 (pos 2147483648) (negsuc 2097151) (pos 1)

abbrev pub solved_in_units : CaseRow
solved_in_units = solved 0 (pos 1073741824) (negsuc 1048575) (pos 1)

abbrev pub one_step_off : CaseRow
one_step_off = solved 1 (pos 2147483649) (negsuc 2097151) (pos 1)

abbrev pub common_rows : List CommonRow
common_rows =
    common_row coarse fine [] (pos 92 ∷ pos 50 ∷ []) (pos 94 ∷ pos 54 ∷ [])
    ∷ common_row fine coarse [] (pos 92 ∷ pos 50 ∷ []) (pos 94 ∷ pos 54 ∷ [])
    ∷ common_row coarse coarse [] (pos 23 ∷ pos 12 ∷ []) (pos 25 ∷ pos 14 ∷ [])
    ∷ common_row far_guess fine (1 ∷ 6 ∷ 1 ∷ []) [] []
    ∷ common_row fine far_guess (2 ∷ 6 ∷ 1 ∷ []) [] []
    ∷ common_row coarse (file_at 6 (pos 92) (pos 52) (pos 1)) (0 ∷ 20 ∷ []) [] []
    ∷ common_row (broad (pos 0) 0) (broad (pos 0) 0) [] (negsuc 68719476735 ∷ []) (pos 68719476736 ∷ [])
    ∷ common_row (broad (pos 1) 0) (broad (pos 1) 0) (0 ∷ 21 ∷ []) [] []
    ∷ common_row (broad (pos 0) 0) (broad (pos 0) 1) (0 ∷ 21 ∷ []) [] []
    ∷ common_row wide solved_exactly [] (pos 2147483648 ∷ negsuc 2097151 ∷ []) (pos 2147483648 ∷ negsuc 2097151 ∷ [])
    ∷ common_row solved_in_units one_step_off [] (pos 2147483648 ∷ negsuc 2097151 ∷ []) (pos 2147483648 ∷ negsuc 2097151 ∷ [])
    ∷ common_row coarse fine_other [] (pos 92 ∷ pos 50 ∷ []) (pos 94 ∷ pos 54 ∷ [])
    ∷ common_row coarse (file_at 4 (pos 20) (pos 13) (pos 1)) (2 ∷ 6 ∷ 1 ∷ []) [] []
    ∷ common_row (broad (pos 1) 0) coarse (0 ∷ 20 ∷ []) [] []
    ∷ []

abbrev pub common_input : CommonRow → Proposals
common_input r = proposals (case_input r.first) (case_input r.second) (replicate 32 (pos 7)) (replicate 32 (pos 7))

abbrev pub numbers_are : (ℕ → ℤ) → ℕ → List ℤ → Bool
numbers_are f i [] = true
numbers_are f i (x ∷ xs) = same_number (f i) x && numbers_are f (i + 1) xs

abbrev pub common_holds : CommonRow → Bool
common_holds r =
    same_numbers (common_answer (common_input r)) r.says
    && (numbers_are (at (low_after (common_input r))) 0 r.low && numbers_are (at (high_after (common_input r))) 0 r.high)

abbrev pub all_common_hold : List CommonRow → Bool
all_common_hold [] = true
all_common_hold (r ∷ rs) = common_holds r && all_common_hold rs
