-- Pairs of nets worked out by hand, as rows of a table; `CaseRow`, `row`, `case_input` and `same_numbers` are of check_spec/specs/Cases.
--   NetsRow, nets_row — both nets, C as it is handed in, what is said of them, and the dependent net's first two solution limits afterwards
--   three_of x d₁ d₂ d₃ — three marks, 1, 0 and 2 high, with these tolerances and the guess x of the first; weights 1, 2 and 3
--   three_marks — with the tolerances 1, 2 and 3, so with the limits 16, 32 and 48;  three_exact — with none and the limits 0;  three_far — 4 steps off: 6, row 1
--   two_of s x y g w — two marks that depend on them: 1·y1 and 1·y2 are 10 and 3 less C's part, with the tolerances 1 and 4, the guess x and y, g in row 2 and
--     column 1 of the inverse, and the weights w and 1
--   six_c     — C with the rows 1 −2 3 and 4 0 −1
--   two_marks — by six_c its residuals are −2, which is above its row's sum, and 1, and its slacks 16 + 64 + 144 + 16 and 64 + 0 + 48 + 64
--   two_at y  — the same with the guess y of the second: at −33,554,240 residual and slack are 2^25 together
--   nets_rows — the table;  nets_of r — what is handed in;  nets_hold, all_nets_hold — a row, all rows of the table hold
use Rattle.std.specs.Prelude.{Bool, true, ◌&&◌, List, [], ◌∷◌, ℕ, ℤ, pos, negsuc, replicate, take}
use Rattle.enclosure.specs.Example.{padded}
use Rattle.check_spec.specs.Cases.{CaseRow, row, unwritten, case_input, same_numbers}
use Rattle.dependent_spec.specs.Nets.{Nets, nets, dependent_of}
use Rattle.dependent_spec.specs.Order.{joint_answer}
use Rattle.dependent_spec.specs.Together.{dependent_solution_after}

pub record NetsRow : Type 0 where
  pub main : CaseRow
  pub dependent : CaseRow
  pub coupling : List ℤ
  pub says : List ℕ
  pub limits : List ℕ

abbrev pub nets_row : CaseRow → CaseRow → List ℤ → List ℕ → List ℕ → NetsRow
nets_row main dependent coupling says limits = record { main = main; dependent = dependent; coupling = coupling; says = says; limits = limits }

abbrev pub three_of : ℤ → ℤ → ℤ → ℤ → CaseRow
three_of x d₁ d₂ d₃ =
    row 3 4 4 (pos 1 ∷ pos 0 ∷ pos 0 ∷ pos 0 ∷ pos 1 ∷ pos 0 ∷ pos 0 ∷ pos 0 ∷ pos 1 ∷ []) (pos 1 ∷ pos 0 ∷ pos 2 ∷ []) (d₁ ∷ d₂ ∷ d₃ ∷ [])
    (x ∷ pos 0 ∷ pos 32 ∷ []) (pos 16 ∷ pos 0 ∷ pos 0 ∷ pos 0 ∷ pos 16 ∷ pos 0 ∷ pos 0 ∷ pos 0 ∷ pos 16 ∷ []) (pos 1 ∷ pos 2 ∷ pos 3 ∷ []) [] []

abbrev pub three_marks : CaseRow
three_marks = three_of (pos 16) (pos 1) (pos 2) (pos 3)

abbrev pub three_exact : CaseRow
three_exact = three_of (pos 16) (pos 0) (pos 0) (pos 0)

abbrev pub three_far : CaseRow
three_far = three_of (pos 20) (pos 1) (pos 2) (pos 3)

abbrev pub two_of : ℕ → ℤ → ℤ → ℤ → ℤ → CaseRow
two_of s x y g w =
    row 2 s 4 (pos 1 ∷ pos 0 ∷ pos 0 ∷ pos 1 ∷ []) (pos 10 ∷ pos 3 ∷ []) (pos 1 ∷ pos 4 ∷ []) (x ∷ y ∷ [])
    (pos 16 ∷ pos 0 ∷ g ∷ pos 16 ∷ []) (w ∷ pos 1 ∷ []) [] []

abbrev pub two_marks : CaseRow
two_marks = two_of 4 (pos 50) (pos 15) (pos 0) (pos 1)

abbrev pub two_at : ℤ → CaseRow
two_at y = two_of 4 (pos 50) y (pos 0) (pos 1)

abbrev pub six_c : List ℤ
six_c = padded (pos 1 ∷ negsuc 1 ∷ pos 3 ∷ pos 4 ∷ pos 0 ∷ negsuc 0 ∷ [])

abbrev pub nets_rows : List NetsRow
nets_rows =
    nets_row three_marks two_marks six_c [] (242 ∷ 242 ∷ [])
    ∷ nets_row three_marks (two_of 4 (pos 50) (pos 15) (pos 0) (pos 2)) six_c [] (354 ∷ 177 ∷ [])
    ∷ nets_row three_marks (two_at (negsuc 33554239)) six_c [] (33554432 ∷ 33554432 ∷ [])
    ∷ nets_row three_marks (two_at (negsuc 33554240)) six_c (2 ∷ 6 ∷ 2 ∷ []) (unwritten ∷ unwritten ∷ [])
    ∷ nets_row three_marks (two_of 4 (pos 50) (pos 15) (pos 2) (pos 1)) six_c (2 ∷ 7 ∷ 1 ∷ 2 ∷ []) (unwritten ∷ unwritten ∷ [])
    ∷ nets_row three_marks (two_of 4 (pos 50) (negsuc 33554240) (pos 16) (pos 1)) six_c (2 ∷ 5 ∷ 2 ∷ []) (unwritten ∷ unwritten ∷ [])
    ∷ nets_row three_marks (two_of 5 (pos 50) (pos 15) (pos 0) (pos 1)) six_c (2 ∷ 3 ∷ []) (unwritten ∷ unwritten ∷ [])
    ∷ nets_row three_far (two_of 5 (pos 50) (pos 15) (pos 0) (pos 1)) six_c (1 ∷ 6 ∷ 1 ∷ []) (unwritten ∷ unwritten ∷ [])
    ∷ nets_row three_marks two_marks (replicate 1024 (pos 0)) [] (126 ∷ 126 ∷ [])
    ∷ nets_row three_marks (two_of 5 (pos 50) (pos 15) (pos 0) (pos 1)) (replicate 1023 (pos 0)) (2 ∷ 8 ∷ []) (unwritten ∷ unwritten ∷ [])
    ∷ nets_row three_exact two_marks (padded (pos 0 ∷ pos 1048576 ∷ pos 0 ∷ pos 0 ∷ negsuc 1048575 ∷ [])) [] (126 ∷ 126 ∷ [])
    ∷ nets_row three_exact two_marks (padded (pos 0 ∷ pos 0 ∷ pos 0 ∷ pos 0 ∷ negsuc 1048576 ∷ [])) (2 ∷ 3 ∷ []) (unwritten ∷ unwritten ∷ [])
    ∷ []

abbrev pub nets_of : NetsRow → Nets
nets_of r = nets (case_input r.main) (case_input r.dependent) r.coupling

abbrev pub nets_hold : NetsRow → Bool
nets_hold r =
    same_numbers (joint_answer (nets_of r)) r.says
    && same_numbers (take 2 (dependent_solution_after (joint_answer (nets_of r)) (dependent_of (nets_of r)))) r.limits

abbrev pub all_nets_hold : List NetsRow → Bool
all_nets_hold [] = true
all_nets_hold (r ∷ rs) = nets_hold r && all_nets_hold rs
